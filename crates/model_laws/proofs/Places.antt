-- Rows by their places, and what changes make of them.
use Rattle.std.proofs.Common.{◌≡◌, ◌∙◌, Bool, true, false, List, [], ◌∷◌, ap, sym, subst, refl, ⊎_elim, inl, inr, Ordering}
use Rattle.std.specs.Prelude.{◌⊎◌, not}
use Rattle.std.specs.declared.cmp.Ordering.TheVariants.{Less, Equal, Greater}
use Rattle.std.specs.BTreeSet.{insert_key}
use Rattle.std.specs.Cmp.Lexicographic.{slice_cmp}
use Rattle.std.specs.List.{Contains}
use Rattle.std.specs.List.Sorted.{IsStrictlySortedBy}
use Rattle.std.specs.Ordering.{is_eq, match_ordering, nat_cmp, ordering_then}
use Rattle.std.proofs.lemmas.Bool.{false≢true}
use Rattle.std.proofs.lemmas.List.Kept.{IsStrictlySortedBy-filter}
use Rattle.std.proofs.lemmas.Map.Keys.{sorted_tail}
use Rattle.std.proofs.lemmas.Map.Lookups.{exact_unsigned, exact_bytes}
use Rattle.stream_base.specs.declared.change.Change.{Change}
use Rattle.stream_base.specs.declared.change.Change.TheVariants.{Gone, New, Again, Dropped}
use Rattle.stream_base.specs.declared.former.Former.{Former}
use Rattle.stream_base.specs.declared.row.Row.{Row}
use Rattle.stream_base.specs.Laws.{by_row}
use Rattle.stream_base.proofs.Members.{filter_has, filter_members}
use Rattle.stream_base.proofs.Rising.{below_tail, none_in_nil, Contains-cons_cases, Contains-head, Contains-insert_key, Contains-insert_key_cases, Contains-tail, sorted_insert_key}
use Rattle.model_laws.proofs.ChangeOrder.{key_tie, same_tie, tie_passes}
use Rattle.model_laws.proofs.StandingRows.{by_row_total}
use Rattle.model_laws.specs.Rows.{after_change, is_at_place, rows_after, with_row, without}

-- ---- places
pub record SamePlace (r s : Row) : Type 0 where
  pub key : r.key ≡ s.key
  pub window : r.window ≡ s.window
  pub low : r.low ≡ s.low
  pub high : r.high ≡ s.high

eq_is_equal : (o : Ordering) → is_eq o ≡ true → o ≡ Equal
eq_is_equal Less h = absurd (false≢true h)
eq_is_equal Equal h = refl
eq_is_equal Greater h = absurd (false≢true h)

then_equal : (o p : Ordering) → ordering_then o p ≡ Equal → (o ≡ Equal) × (p ≡ Equal)
then_equal Less p h = cc
then_equal Equal p h = (refl, h)
then_equal Greater p h = cc

pub same_place : (r s : Row) → is_at_place r s ≡ true → SamePlace r s
same_place r s h =
    let (k, more) = then_equal (slice_cmp nat_cmp r.key s.key) _ (eq_is_equal (by_row r s) h) in
    let (w, rest) = then_equal (nat_cmp r.window s.window) _ more in
    let (l, u) = then_equal (nat_cmp r.low s.low) (nat_cmp r.high s.high) rest in
    record {
      key = exact_bytes r.key s.key k;
      window = exact_unsigned r.window s.window w;
      low = exact_unsigned r.low s.low l;
      high = exact_unsigned r.high s.high u;
    }

tied : (r s : Row) → SamePlace r s → by_row r s ≡ Equal
tied r s h =
    tie_passes (slice_cmp nat_cmp r.key s.key) _ (key_tie r.key s.key h.key)
    ∙ tie_passes (nat_cmp r.window s.window) _ (same_tie r.window s.window h.window)
    ∙ tie_passes (nat_cmp r.low s.low) (nat_cmp r.high s.high) (same_tie r.low s.low h.low)
    ∙ same_tie r.high s.high h.high

pub at_place : (r s : Row) → SamePlace r s → is_at_place r s ≡ true
at_place r s h = ap is_eq (tied r s h)

-- of rows in their order one has a place
pub one_of_a_place : (rows : List Row) (r s : Row) → IsStrictlySortedBy by_row rows → Contains rows r → Contains rows s → is_at_place r s ≡ true → r ≡ s
one_of_a_place [] r s o c d h = absurd (none_in_nil r c)
one_of_a_place (x ∷ rows) r s o c d h = by (one_of_a_place rows r s (sorted_tail by_row x rows o)) (Contains-cons_cases x rows r c) (Contains-cons_cases x rows s d)
  where
    same : by_row r s ≡ Equal
    same = eq_is_equal (by_row r s) h

    by : (Contains rows r → Contains rows s → is_at_place r s ≡ true → r ≡ s) → (x ≡ r) ⊎ Contains rows r → (x ≡ s) ⊎ Contains rows s → r ≡ s
    by later (inl e) (inl f) = sym e ∙ f
    by later (inl e) (inr f) = let less : by_row r s ≡ Less = subst (λ z. by_row z s ≡ Less) e (below_tail by_row_total x rows o s f) in cc
    by later (inr e) (inl f) =
        let less : by_row s r ≡ Less = subst (λ z. by_row z r ≡ Less) f (below_tail by_row_total x rows o r e) in
        let p : SamePlace r s = same_place r s h in
        let back : by_row s r ≡ Equal = tied s r (record { key = sym p.key; window = sym p.window; low = sym p.low; high = sym p.high }) in
        cc
    by later (inr e) (inr f) = later e f h

-- ---- one change
-- the change puts this row
abbrev pub Puts : Change → Row → Type 0
Puts c x = (c ≡ New x) ⊎ ((f : Former) × (c ≡ Again x f))

-- the change has the place of this row
abbrev pub touches : Change → Row → Bool
touches (Gone row) x = is_at_place row x
touches (New row) x = is_at_place row x
touches (Again row former) x = is_at_place row x
touches Dropped x = false

from_not : (b : Bool) → not b ≡ true → b ≡ false
from_not true h = absurd (false≢true h)
from_not false h = refl

in_without : (rows : List Row) (row x : Row) → Contains (without rows row) x → Contains rows x × (is_at_place row x ≡ false)
in_without rows row x h =
    let (c, p) = filter_members (λ r. not (is_at_place row r)) rows x h in
    (c, from_not (is_at_place row x) p)

has_without : (rows : List Row) (row x : Row) → Contains rows x → is_at_place row x ≡ false → Contains (without rows row) x
has_without rows row x c u = filter_has (λ r. not (is_at_place row r)) rows x c (ap not u)

self_in : (k : Row) (ks : List Row) → ((y : Row) → Contains ks y → is_at_place k y ≡ false) → Contains (insert_key by_row ks k) k
self_in k [] h = Contains-head k []
self_in k (y ∷ ys) h = by (by_row k y) refl (self_in k ys (λ z c. h z (Contains-tail y ys z c)))
  where
    by : (r : Ordering) → by_row k y ≡ r → Contains (insert_key by_row ys k) k → Contains (match_ordering r (k ∷ y ∷ ys) (y ∷ ys) (y ∷ insert_key by_row ys k)) k
    by Less e later = Contains-head k (y ∷ ys)
    by Equal e later = absurd (false≢true (sym (h y (Contains-head y ys)) ∙ ap is_eq e))
    by Greater e later = Contains-tail y (insert_key by_row ys k) k later

row_in : (rows : List Row) (row : Row) → Contains (with_row rows row) row
row_in rows row = self_in row (without rows row) (λ y c. (in_without rows row y c).1)

pub stays : (rows : List Row) (c : Change) (x : Row) → Contains rows x → touches c x ≡ false → Contains (after_change rows c) x
stays rows (Gone row) x h u = has_without rows row x h u
stays rows (New row) x h u = Contains-insert_key by_row row (without rows row) x (has_without rows row x h u)
stays rows (Again row former) x h u = Contains-insert_key by_row row (without rows row) x (has_without rows row x h u)
stays rows Dropped x h u = h

is_put : (rows : List Row) (c : Change) (x : Row) → Puts c x → Contains (after_change rows c) x
is_put rows c x (inl e) = subst (λ k. Contains (after_change rows k) x) (sym e) (row_in rows x)
is_put rows c x (inr p) = subst (λ k. Contains (after_change rows k) x) (sym p.1) (row_in rows x)

pub after_cases : (rows : List Row) (c : Change) (x : Row) → Contains (after_change rows c) x → Puts c x ⊎ (Contains rows x × (touches c x ≡ false))
after_cases rows (Gone row) x h = inr (in_without rows row x h)
after_cases rows (New row) x h = ⊎_elim (λ e. inl (inl (ap New e))) (λ d. inr (in_without rows row x d)) (Contains-insert_key_cases by_row row (without rows row) x h)
after_cases rows (Again row former) x h = ⊎_elim (λ e. inl (inr (former, ap (λ r. Again r former) e))) (λ d. inr (in_without rows row x d)) (Contains-insert_key_cases by_row row (without rows row) x h)
after_cases rows Dropped x h = inr (h, refl)

sorted_change : (rows : List Row) (c : Change) → IsStrictlySortedBy by_row rows → IsStrictlySortedBy by_row (after_change rows c)
sorted_change rows (Gone row) s = IsStrictlySortedBy-filter by_row (λ r. not (is_at_place row r)) rows s
sorted_change rows (New row) s = sorted_insert_key by_row_total row (without rows row) (IsStrictlySortedBy-filter by_row (λ r. not (is_at_place row r)) rows s)
sorted_change rows (Again row former) s = sorted_insert_key by_row_total row (without rows row) (IsStrictlySortedBy-filter by_row (λ r. not (is_at_place row r)) rows s)
sorted_change rows Dropped s = s

-- ---- changes one after another
pub sorted_rows : (changes : List Change) (rows : List Row) → IsStrictlySortedBy by_row rows → IsStrictlySortedBy by_row (rows_after rows changes)
sorted_rows [] rows s = s
sorted_rows (c ∷ cs) rows s = sorted_rows cs (after_change rows c) (sorted_change rows c s)

-- one of the changes puts this row
abbrev pub Among : List Change → Row → Type 0
Among changes x = (c : Change) × Contains changes c × Puts c x

-- a row that is there was put by a change, or was there and is in no change's place
pub rows_cases : (changes : List Change) (rows : List Row) (x : Row) → Contains (rows_after rows changes) x → Among changes x ⊎ (Contains rows x × ((c : Change) → Contains changes c → touches c x ≡ false))
rows_cases [] rows x h = inr (h, λ c d. absurd (none_in_nil c d))
rows_cases (c ∷ cs) rows x h = by (rows_cases cs (after_change rows c) x h)
  where
    by : Among cs x ⊎ (Contains (after_change rows c) x × ((k : Change) → Contains cs k → touches k x ≡ false)) → Among (c ∷ cs) x ⊎ (Contains rows x × ((k : Change) → Contains (c ∷ cs) k → touches k x ≡ false))
    by (inl a) = inl (a.0, Contains-tail c cs a.0 a.1, a.2)
    by (inr b) =
        ⊎_elim
        (λ p. inl (c, Contains-head c cs, p))
        (λ q. inr (q.0, λ k d. ⊎_elim (λ e. subst (λ m. touches m x ≡ false) e q.1) (λ f. b.1 k f) (Contains-cons_cases c cs k d)))
        (after_cases rows c x b.0)

-- a row that was there or is put stays, where each change in its place puts it
pub rows_have : (changes : List Change) (rows : List Row) (x : Row) → ((c : Change) → Contains changes c → touches c x ≡ true → Puts c x) → Contains rows x ⊎ Among changes x → Contains (rows_after rows changes) x
rows_have [] rows x each (inl h) = h
rows_have [] rows x each (inr a) = absurd (none_in_nil a.0 a.1)
rows_have (c ∷ cs) rows x each (inl h) =
    rows_have cs (after_change rows c) x (λ k d. each k (Contains-tail c cs k d)) (inl (by (touches c x) refl))
  where
    by : (b : Bool) → touches c x ≡ b → Contains (after_change rows c) x
    by true t = is_put rows c x (each c (Contains-head c cs) t)
    by false t = stays rows c x h t
rows_have (c ∷ cs) rows x each (inr a) =
    rows_have cs (after_change rows c) x (λ k d. each k (Contains-tail c cs k d))
    (⊎_elim
    (λ e. inl (is_put rows c x (subst (λ k. Puts k x) (sym e) a.2)))
    (λ f. inr (a.0, f, a.2))
    (Contains-cons_cases c cs a.0 a.1))
