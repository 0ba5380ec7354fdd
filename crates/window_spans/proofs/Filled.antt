-- Whether a store has a tuple within a span, by its slices.
use Rattle.std.proofs.Common.{◌≡◌, ◌∙◌, ℕ, ◌<◌, ◌≤◌, Bool, true, false, cond, Some, None, Option, List, [], ◌∷◌, ◌++◌, length, ap, sym, refl, arith, inl, inr, ⊎_elim}
use Rattle.std.specs.Prelude.{◌⊎◌, find, nat_le, nat_lt}
use Rattle.std.specs.List.{All}
use Rattle.std.specs.Option.{option_map}
use Rattle.std.proofs.lemmas.Bool.{and_from, and_left, and_right, cases_Bool, cases_lt, le-leb, le-ltb, leb-false, leb-true, lt-leb, lt-ltb}
use Rattle.std.proofs.lemmas.List.Elements.{All-cons, All-head, All-tail, All-weaker, filter-append}
use Rattle.stream_base.specs.declared.kept.Kept.{Kept}
use Rattle.stream_base.specs.Model.Windows.{first_time, is_within, last_time, within}
use Rattle.slice_lists.specs.Runs.{AreInOrder, IsAligned}
use Rattle.stream_base.proofs.Filters.{filter_none}
use Rattle.slice_lists.proofs.Order.{nd_head}
use Rattle.slice_lists.specs.declared.slice.Slice.{Slice}
use Rattle.slice_lists.specs.Slices.{joined, slice_of}
use Rattle.slice_lists.proofs.SliceOrder.{run_below_last, times_of_order}

-- the first slice from the start of the span on, if it begins before its end
abbrev pub begins_by : ℕ → Option Slice → Bool
begins_by high None = false
begins_by high (Some s) = nat_lt s.low high

module _ (low high : ℕ) where
  none_before : (run : List Kept) → All (λ (y : Kept). y.time < low) run → within low high run ≡ []
  none_before run a = filter_none (is_within low high) run (All-weaker (λ (y : Kept). y.time < low) (λ y. is_within low high y ≡ false) (λ y l. and_left (nat_le low y.time) (nat_lt y.time high) (lt-leb low y.time l)) run a)

  none_behind : (run : List Kept) → All (λ (y : Kept). high ≤ y.time) run → within low high run ≡ []
  none_behind run a = filter_none (is_within low high) run (All-weaker (λ (y : Kept). high ≤ y.time) (λ y. is_within low high y ≡ false) (λ y l. and_right (nat_le low y.time) (nat_lt y.time high) (le-ltb y.time high l)) run a)

  -- the tuples from one on, which lies at the start or behind it
  from_one : (x : Kept) (xs : List Kept) → low ≤ x.time → All (λ (y : Kept). x.time ≤ y.time) xs → nat_lt x.time high ≡ nat_lt 0 (length (within low high (x ∷ xs)))
  from_one x xs l a =
      ⊎_elim
      (λ h. lt-ltb x.time high h ∙ sym (ap (λ b. nat_lt 0 (length (cond b (x ∷ within low high xs) (within low high xs)))) (and_from (nat_le low x.time) (nat_lt x.time high) (le-leb low x.time l) (lt-ltb x.time high h)) ∙ lt-ltb 0 (length (x ∷ within low high xs)) (omega arith)))
      (λ h. le-ltb x.time high h ∙ sym (ap (λ ys. nat_lt 0 (length ys)) (none_behind (x ∷ xs) (All-cons (λ (y : Kept). high ≤ y.time) x xs h (All-weaker (λ (y : Kept). x.time ≤ y.time) (λ y. high ≤ y.time) (λ y m. omega arith) xs a)))))
      (cases_lt x.time high)

  pub filled_is : (slices : List (List Kept)) → AreInOrder slices → IsAligned slices low → begins_by high (option_map slice_of (find (λ run. nat_le low (first_time run)) slices)) ≡ nat_lt 0 (length (within low high (joined slices)))
  filled_is [] o a = refl
  filled_is ([] ∷ runs) o a = absurd o.0
  filled_is ((x ∷ xs) ∷ runs) o a = by (cases_Bool (nat_le low x.time)) (filled_is runs o.2 (All-tail (λ run. (last_time run < low) ⊎ (low ≤ first_time run)) (x ∷ xs) runs a))
    where
      here : (b : Bool) → nat_le low x.time ≡ b → begins_by high (option_map slice_of (find (λ run. nat_le low (first_time run)) ((x ∷ xs) ∷ runs))) ≡ begins_by high (option_map slice_of (cond b (Some (x ∷ xs)) (find (λ run. nat_le low (first_time run)) runs)))
      here b e = ap (λ b. begins_by high (option_map slice_of (cond b (Some (x ∷ xs)) (find (λ run. nat_le low (first_time run)) runs)))) e

      by : (nat_le low x.time ≡ true) ⊎ (nat_le low x.time ≡ false) → begins_by high (option_map slice_of (find (λ run. nat_le low (first_time run)) runs)) ≡ nat_lt 0 (length (within low high (joined runs))) → begins_by high (option_map slice_of (find (λ run. nat_le low (first_time run)) ((x ∷ xs) ∷ runs))) ≡ nat_lt 0 (length (within low high (joined ((x ∷ xs) ∷ runs))))
      by (inl e) later =
          here true e
          ∙ from_one x (xs ++ joined runs) (leb-true low x.time e) (nd_head (λ (y : Kept). y.time) x (xs ++ joined runs) (times_of_order ((x ∷ xs) ∷ runs) o))
      by (inr e) later =
          let before : last_time (x ∷ xs) < low = ⊎_elim (λ l. l) (λ l. absurd (let f : x.time < low = leb-false low x.time e in omega arith)) (All-head (λ run. (last_time run < low) ⊎ (low ≤ first_time run)) (x ∷ xs) runs a) in
          here false e
          ∙ later
          ∙ sym (ap (λ ys. nat_lt 0 (length ys)) (filter-append (is_within low high) (x ∷ xs) (joined runs) ∙ ap (λ l. l ++ within low high (joined runs)) (none_before (x ∷ xs) (All-weaker (λ (y : Kept). y.time ≤ last_time (x ∷ xs)) (λ y. y.time < low) (λ y l. omega arith) (x ∷ xs) (run_below_last (x ∷ xs) o.0)))))
