-- How many tuples an interval selects, from the fold of their values.
use Rattle.std.proofs.Common.{◌≡◌, ◌∙◌, ℕ, ℤ, ◌+◌, ◌<◌, ◌≤◌, ◌%◌, ◌^◌, Bool, true, false, cond, List, [], ◌∷◌, length, ap, arith}
use Rattle.std.specs.Int.{int_wrapping_add, w128}
use Rattle.std.specs.List.{filter, fold}
use Rattle.std.specs.Prelude.{pos}
use Rattle.std.proofs.lemmas.List.{length-map}
use Rattle.stream_base.specs.declared.func.Func.TheVariants.{Count}
use Rattle.stream_base.specs.declared.kept.Kept.{Kept}
use Rattle.stream_base.specs.declared.shown.Shown.TheVariants.{Whole}
use Rattle.stream_base.specs.Model.Functions.{averaging, count_sum, fold_of, shown_of}
use Rattle.stream_base.specs.Model.Windows.{is_within, within}
use Rattle.slice_lists.specs.Slices.{values_of}

small : (n : ℕ) → n < 2 ^ 64 → n % 2 ^ 64 ≡ n
small n h = omega arith

-- a count goes up by the number of the values
pub counts_up : (n : ℕ) (values : List ℤ) → n + length values < 2 ^ 64 → fold (λ n v. count_sum n 1) n values ≡ n + length values
counts_up n [] h = omega arith
counts_up n (v ∷ values) h =
    let one : count_sum n 1 ≡ n + 1 = small (n + 1) (omega arith) in
    counts_up (count_sum n 1) values (omega (arith, one)) ∙ omega (arith, one)

counted_from : (m : ℤ × ℕ) (values : List ℤ) → m.1 + length values < 2 ^ 64 → (fold (λ (m : ℤ × ℕ) v. (int_wrapping_add w128 m.0 v, count_sum m.1 1)) m values).1 ≡ m.1 + length values
counted_from m [] h = omega arith
counted_from m (v ∷ values) h =
    let one : count_sum m.1 1 ≡ m.1 + 1 = small (m.1 + 1) (omega arith) in
    counted_from (int_wrapping_add w128 m.0 v, count_sum m.1 1) values (omega (arith, one)) ∙ omega (arith, one)

-- so does the count beside a mean
pub counted : (values : List ℤ) → length values < 2 ^ 64 → (fold_of averaging values).1 ≡ length values
counted values h = counted_from (pos 0, 0) values (omega arith) ∙ omega arith

shorter : {X : Type 0} (p : X → Bool) (xs : List X) → length (filter p xs) ≤ length xs
shorter p [] = omega arith
shorter {X} p (x ∷ xs) = by (p x) (shorter p xs)
  where
    by : (b : Bool) → length (filter p xs) ≤ length xs → length (cond b (x ∷ filter p xs) (filter p xs)) ≤ length (x ∷ xs)
    by true h = omega arith
    by false h = omega arith

-- an interval selects as many tuples as it selects values, and fewer than there are
number_of_values : (low high : ℕ) (kept : List Kept) → length (values_of (within low high kept)) ≡ length (within low high kept)
number_of_values low high kept = length-map (within low high kept) (λ (x : Kept). x.value)

pub few_within : (low high : ℕ) (kept : List Kept) → length kept < 2 ^ 64 → length (within low high kept) < 2 ^ 64
few_within low high kept h = omega (arith, shorter (is_within low high) kept)

-- a count shows how many tuples an interval selects
pub count_shows : (low high : ℕ) (kept : List Kept) → length kept < 2 ^ 64 → shown_of Count (values_of (within low high kept)) ≡ Whole (pos (length (within low high kept)))
count_shows low high kept h =
    let number = number_of_values low high kept in
    ap (λ n. Whole (pos n)) (counts_up 0 (values_of (within low high kept)) (omega (arith, number, few_within low high kept h)) ∙ omega (arith, number))
