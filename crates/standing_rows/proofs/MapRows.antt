-- An ordered map of rows by their places is kept up by changes as the list of its rows is.
use Rattle.std.proofs.Common.{◌≡◌, ◌∙◌, Bool, true, false, cond, List, [], ◌∷◌, ap, sym, subst, refl, ⊎_elim, Ordering, Some}
use Rattle.std.specs.Prelude.{◌||◌, is_some, not}
use Rattle.std.specs.declared.cmp.Ordering.TheVariants.{Less, Equal, Greater}
use Rattle.std.specs.BTreeMap.{insert_entry}
use Rattle.std.specs.BTreeSet.{insert_key}
use Rattle.std.specs.List.{Contains, list_any}
use Rattle.std.specs.List.Sorted.{IsStrictlySortedBy}
use Rattle.std.specs.Map.{lookup, remove_entry}
use Rattle.std.specs.Ordering.{is_eq, match_ordering}
use Rattle.std.proofs.lemmas.Bool.{false≢true}
use Rattle.std.proofs.lemmas.Map.Keys.{sorted_tail}
use Rattle.stream_base.specs.declared.row.Row.{Row}
use Rattle.stream_base.specs.Laws.{by_row}
use Rattle.stream_base.proofs.Distinct.{All_from_members}
use Rattle.stream_base.proofs.Filters.{filter_all}
use Rattle.stream_base.proofs.Rising.{below_tail, Contains-cons_cases, Contains-head}
use Rattle.model_laws.proofs.StandingRows.{by_row_total}
use Rattle.model_laws.specs.Rows.{is_at_place, with_row, without}
use Rattle.model_laws.proofs.Places.{SamePlace, at_place, same_place}
use Rattle.standing_rows.specs.Placed.{row_at, rows_of}
use Rattle.standing_rows.specs.declared.place.Place.{Place}
use Rattle.standing_rows.specs.declared.seen.Seen.{Seen}

-- ---- rows in their order
apart_from : (row : Row) (rows : List Row) → ((y : Row) → Contains rows y → is_at_place row y ≡ false) → without rows row ≡ rows
apart_from row rows h = filter_all (λ r. not (is_at_place row r)) rows (All_from_members (λ r. not (is_at_place row r) ≡ true) rows (λ y c. ap not (h y c)))

-- a row whose place is that of the first is in no later one's
later_apart : (row x : Row) (rows : List Row) → IsStrictlySortedBy by_row (x ∷ rows) → is_at_place row x ≡ true → (y : Row) → Contains rows y → is_at_place row y ≡ false
later_apart row x rows s h y c = by (is_at_place row y) refl
  where
    by : (b : Bool) → is_at_place row y ≡ b → is_at_place row y ≡ false
    by false e = e
    by true e =
        let p : SamePlace row x = same_place row x h in
        let q : SamePlace row y = same_place row y e in
        let tie : is_at_place x y ≡ true = at_place x y (record { key = sym p.key ∙ q.key; window = sym p.window ∙ q.window; low = sym p.low ∙ q.low; high = sym p.high ∙ q.high }) in
        absurd (false≢true (sym (ap is_eq (below_tail by_row_total x rows s y c)) ∙ tie))

below_all : (row x : Row) (rows : List Row) → IsStrictlySortedBy by_row (x ∷ rows) → by_row row x ≡ Less → (y : Row) → Contains (x ∷ rows) y → by_row row y ≡ Less
below_all row x rows s h y c = ⊎_elim (λ e. subst (λ z. by_row row z ≡ Less) e h) (λ d. by_row_total.trans row x y h (below_tail by_row_total x rows s y d)) (Contains-cons_cases x rows y c)

at_front : (row : Row) (rows : List Row) → ((y : Row) → Contains rows y → by_row row y ≡ Less) → insert_key by_row rows row ≡ row ∷ rows
at_front row [] h = refl
at_front row (y ∷ rows) h = ap (λ o. match_ordering o (row ∷ y ∷ rows) (y ∷ rows) (y ∷ insert_key by_row rows row)) (h y (Contains-head y rows))

same_below : (row x y : Row) → SamePlace row x → by_row x y ≡ Less → by_row row y ≡ Less
same_below row x y p h =
    (λ i. by_row (record { window = p.window i; key = p.key i; low = p.low i; high = p.high i; number = row.number; shown = row.shown }) y) ∙ h

-- ---- entries
pub removed : (test : Place → Bool) (row : Row) → ((e : Place × Seen) → test e.0 ≡ is_at_place row (row_at e)) → (es : List (Place × Seen)) → IsStrictlySortedBy by_row (rows_of es) → rows_of (remove_entry test es) ≡ without (rows_of es) row
removed test row same [] s = refl
removed test row same (e ∷ es) s = by (test e.0) refl (removed test row same es (sorted_tail by_row (row_at e) (rows_of es) s))
  where
    by : (b : Bool) → test e.0 ≡ b → rows_of (remove_entry test es) ≡ without (rows_of es) row → rows_of (cond b es (e ∷ remove_entry test es)) ≡ without (row_at e ∷ rows_of es) row
    by true t later =
        let at : is_at_place row (row_at e) ≡ true = sym (same e) ∙ t in
        sym (apart_from row (rows_of es) (later_apart row (row_at e) (rows_of es) s at))
        ∙ ap (λ b. cond (not b) (row_at e ∷ without (rows_of es) row) (without (rows_of es) row)) (sym at)
    by false t later =
        let at : is_at_place row (row_at e) ≡ false = sym (same e) ∙ t in
        ap (λ rows. row_at e ∷ rows) later
        ∙ ap (λ b. cond (not b) (row_at e ∷ without (rows_of es) row) (without (rows_of es) row)) (sym at)

pub inserted : (cmp : Place → Place → Ordering) → ((p q : Place) (s t : Seen) → cmp p q ≡ by_row (row_at (p, s)) (row_at (q, t))) → (es : List (Place × Seen)) (k : Place) (v : Seen) → IsStrictlySortedBy by_row (rows_of es)
    → rows_of (insert_entry cmp es k v) ≡ with_row (rows_of es) (row_at (k, v))
inserted cmp same [] k v s = refl
inserted cmp same (e ∷ es) k v s = by (cmp k e.0) refl (inserted cmp same es k v (sorted_tail by_row (row_at e) (rows_of es) s))
  where
    by : (o : Ordering) → cmp k e.0 ≡ o → rows_of (insert_entry cmp es k v) ≡ with_row (rows_of es) (row_at (k, v))
        → rows_of (match_ordering o ((k, v) ∷ e ∷ es) ((e.0, v) ∷ es) (e ∷ insert_entry cmp es k v)) ≡ with_row (row_at e ∷ rows_of es) (row_at (k, v))
    by Less c later =
        let row : Row = row_at (k, v) in
        let less : by_row row (row_at e) ≡ Less = sym (same k e.0 v e.1) ∙ c in
        let all : (y : Row) → Contains (row_at e ∷ rows_of es) y → by_row row y ≡ Less = below_all row (row_at e) (rows_of es) s less in
        sym (at_front row (row_at e ∷ rows_of es) all)
        ∙ ap (λ rows. insert_key by_row rows row) (sym (apart_from row (row_at e ∷ rows_of es) (λ y d. ap is_eq (all y d))))
    by Equal c later =
        let row : Row = row_at (k, v) in
        let at : is_at_place row (row_at e) ≡ true = ap is_eq (sym (same k e.0 v e.1) ∙ c) in
        let p : SamePlace row (row_at e) = same_place row (row_at e) at in
        let rest : without (row_at e ∷ rows_of es) row ≡ rows_of es
        = ap (λ b. cond (not b) (row_at e ∷ without (rows_of es) row) (without (rows_of es) row)) at ∙ apart_from row (rows_of es) (later_apart row (row_at e) (rows_of es) s at) in
        (λ i. record { window = sym p.window i; key = sym p.key i; low = sym p.low i; high = sym p.high i; number = v.number; shown = v.shown } ∷ rows_of es)
        ∙ sym (at_front row (rows_of es) (λ y d. same_below row (row_at e) y p (below_tail by_row_total (row_at e) (rows_of es) s y d)))
        ∙ ap (λ rows. insert_key by_row rows row) (sym rest)
    by Greater c later =
        let row : Row = row_at (k, v) in
        let more : by_row row (row_at e) ≡ Greater = sym (same k e.0 v e.1) ∙ c in
        ap (λ rows. row_at e ∷ rows) later
        ∙ ap (λ o. match_ordering o (row ∷ row_at e ∷ without (rows_of es) row) (row_at e ∷ without (rows_of es) row) (row_at e ∷ insert_key by_row (without (rows_of es) row) row)) (sym more)
        ∙ ap (λ b. insert_key by_row (cond (not b) (row_at e ∷ without (rows_of es) row) (without (rows_of es) row)) row) (sym (ap is_eq more))

-- a place is among the entries where a row of it is among their rows
pub looked_up : (test : Place → Bool) (row : Row) → ((e : Place × Seen) → test e.0 ≡ is_at_place row (row_at e)) → (es : List (Place × Seen)) → is_some (lookup test es) ≡ list_any (is_at_place row) (rows_of es)
looked_up test row same [] = refl
looked_up test row same (e ∷ es) = by (test e.0) refl (looked_up test row same es)
  where
    by : (b : Bool) → test e.0 ≡ b → is_some (lookup test es) ≡ list_any (is_at_place row) (rows_of es) → is_some (cond b (Some e.1) (lookup test es)) ≡ (is_at_place row (row_at e) || list_any (is_at_place row) (rows_of es))
    by true t later = ap (λ b. b || list_any (is_at_place row) (rows_of es)) (sym t ∙ same e)
    by false t later = later ∙ ap (λ b. b || list_any (is_at_place row) (rows_of es)) (sym t ∙ same e)
