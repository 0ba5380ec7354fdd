-- What instances choose is kept; instances by their spans; selections by their positions.
use Rattle.std.proofs.Common.{◌≡◌, ◌∙◌, ℕ, Bool, true, false, List, [], ◌∷◌, ◌++◌, length, map, ap, sym, subst, refl, eqb, ⊎_elim, inl, inr, Option, None, Some}
use Rattle.std.specs.Prelude.{◌⊎◌, ◌&&◌, nat_lt}
use Rattle.std.specs.List.{Contains, position_or_len}
use Rattle.std.specs.Option.{option_map_or}
use Rattle.std.proofs.lemmas.Bool.{false≢true, eqb-true, eq-eqb, and_parts, and_from}
use Rattle.stream_base.specs.Limits.{Definitions}
use Rattle.stream_base.specs.declared.def.Def.{Def}
use Rattle.stream_base.specs.declared.entry.Entry.{Entry}
use Rattle.stream_base.specs.declared.func.Func.{Func}
use Rattle.stream_base.specs.declared.kept.Kept.{Kept}
use Rattle.stream_base.specs.Laws.{HasInstance, accepted_tuple}
use Rattle.stream_base.specs.Model.Changes.{are_same_tuples, moment_of, row_of, standing_at}
use Rattle.stream_base.specs.Model.Functions.{shown_of}
use Rattle.stream_base.specs.Model.Journal.{kept_of, put_in_order}
use Rattle.stream_base.specs.Model.Windows.{Instance, instances_of, is_complete}
use Rattle.stream_base.proofs.Growing.{kept_of_push}
use Rattle.stream_base.proofs.Members.{Contains-insert_old, filter_members}
use Rattle.stream_base.proofs.Rising.{none_in_nil, Contains-cons_cases, Contains-head, Contains-tail}
use Rattle.model_laws.proofs.Accepted.{kept_by_position}
use Rattle.stream_base.proofs.Selecting.{Chooses}
use Rattle.stream_base.proofs.KindFacts.{chosen_kept}

-- ---- instances by their spans
pub has_or_not : (is : List Instance) (low high : ℕ) → HasInstance is low high ⊎ (¬ HasInstance is low high)
has_or_not [] low high = inr (λ h. none_in_nil h.0 h.1)
has_or_not (x ∷ is) low high = by (eqb x.low low && eqb x.high high) refl (has_or_not is low high)
  where
    by : (b : Bool) → (eqb x.low low && eqb x.high high) ≡ b → HasInstance is low high ⊎ (¬ HasInstance is low high) → HasInstance (x ∷ is) low high ⊎ (¬ HasInstance (x ∷ is) low high)
    by true s later = let both : (eqb x.low low ≡ true) × (eqb x.high high ≡ true) = and_parts (eqb x.low low) (eqb x.high high) s in inl (x, Contains-head x is, eqb-true x.low low both.0, eqb-true x.high high both.1)
    by false s (inl h) = inl (h.0, Contains-tail x is h.0 h.1, h.2, h.3)
    by false s (inr none) =
        inr (λ h.
        ⊎_elim
        (λ same. false≢true (sym s ∙ and_from (eqb x.low low) (eqb x.high high) (eq-eqb x.low low (ap (λ (j : Instance). j.low) same ∙ h.2)) (eq-eqb x.high high (ap (λ (j : Instance). j.high) same ∙ h.3))))
        (λ d. none (h.0, d, h.2, h.3))
        (Contains-cons_cases x is h.0 h.1))

-- ---- selections by their positions
same_tuples : (xs ys : List Kept) → ((x y : Kept) → Contains xs x → Contains ys y → x.position ≡ y.position → x ≡ y) → are_same_tuples xs ys ≡ true → xs ≡ ys
same_tuples [] [] one h = refl
same_tuples [] (y ∷ ys) one h = absurd (false≢true h)
same_tuples (x ∷ xs) [] one h = absurd (false≢true h)
same_tuples (x ∷ xs) (y ∷ ys) one h =
    let both : (eqb x.position y.position ≡ true) × (are_same_tuples xs ys ≡ true) = and_parts (eqb x.position y.position) (are_same_tuples xs ys) h in
    let first : x ≡ y = one x y (Contains-head x xs) (Contains-head y ys) (eqb-true x.position y.position both.0) in
    let rest : xs ≡ ys = same_tuples xs ys (λ a b c d. one a b (Contains-tail x xs a c) (Contains-tail y ys b d)) both.1 in
    λ i. first i ∷ rest i

kept_stays : (lateness sources : ℕ) (key : List ℕ) (journal : List Entry) (e : Entry) (x : Kept) → Contains (kept_of lateness sources key journal) x → Contains (kept_of lateness sources key (journal ++ e ∷ [])) x
kept_stays lateness sources key j e x c = subst (λ l. Contains l x) (sym (kept_of_push lateness sources key j e)) (by (accepted_tuple lateness sources key j e))
  where
    by : (o : Option Kept) → Contains (option_map_or (put_in_order (kept_of lateness sources key j)) o (kept_of lateness sources key j)) x
    by None = c
    by (Some y) = Contains-insert_old (kept_of lateness sources key j) (position_or_len (λ z. nat_lt y.time z.time) (kept_of lateness sources key j)) y x c

pub stands_kept : (d : Definitions) (sources : ℕ) (key : List ℕ) (journal : List Entry) (def : Def) (i : Instance) → Contains (standing_at def (moment_of d sources key journal)) i → Chooses (kept_of d.lateness sources key journal) i
stands_kept d sources key journal def i c =
    let m : Contains (instances_of def.kind (moment_of d sources key journal).kept (moment_of d sources key journal).marks) i = (filter_members (is_complete (moment_of d sources key journal).water) (instances_of def.kind (moment_of d sources key journal).kept (moment_of d sources key journal).marks) i c).0 in
    chosen_kept def.kind (moment_of d sources key journal).kept (moment_of d sources key journal).marks i m

-- an instance before an entry and one behind it that choose the same positions choose the same tuples
pub same_chosen : (d : Definitions) (sources : ℕ) (key : List ℕ) (before : List Entry) (e : Entry) (def : Def) (i j : Instance)
    → Contains (standing_at def (moment_of d sources key before)) i → Contains (standing_at def (moment_of d sources key (before ++ e ∷ []))) j → are_same_tuples i.chosen j.chosen ≡ true → i.chosen ≡ j.chosen
same_chosen d sources key before e def i j c k h =
    same_tuples i.chosen j.chosen
    (λ x y a b p. kept_by_position d.lateness sources key (before ++ e ∷ []) x y (kept_stays d.lateness sources key before e x (stands_kept d sources key before def i c x a)) (stands_kept d sources key (before ++ e ∷ []) def j k y b) p)
    h

pub same_row : (window : ℕ) (key : List ℕ) (func : Func) (i j : Instance) → i.low ≡ j.low → i.high ≡ j.high → i.chosen ≡ j.chosen → row_of window key func i ≡ row_of window key func j
same_row window key func i j l h c = λ k. record {
  window = window;
  key = key;
  low = l k;
  high = h k;
  number = length (c k);
  shown = shown_of func (map (λ x. x.value) (c k));
}
