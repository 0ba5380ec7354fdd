-- Changes counted from a place on.
use Rattle.std.proofs.Common.{◌≡◌, ◌∙◌, ◌<◌, ◌+◌, ℕ, Bool, true, false, cond, List, [], ◌∷◌, Some, length, drop, slice_get, ap, arith}
use Rattle.std.specs.List.{filter}
use Rattle.std.proofs.lemmas.List.{at_drop_more}
use Rattle.std.proofs.lemmas.Option.{get_or_from_slice_get}

first_counted : {X : Type 0} (p : X → Bool) (x : X) (rest : List X) → length (filter p (x ∷ rest)) ≡ length (filter p (x ∷ [])) + length (filter p rest)
first_counted p x rest = by (p x)
  where
    by : (b : Bool) → length (cond b (x ∷ filter p rest) (filter p rest)) ≡ length (cond b (x ∷ []) []) + length (filter p rest)
    by true = omega arith
    by false = omega arith

-- from the place of an element on, that element is counted and those behind it
pub counted_from : {X : Type 0} (p : X → Bool) (xs : List X) (at : ℕ) (x : X) → at < length xs → slice_get xs at ≡ Some x
    → length (filter p (drop at xs)) ≡ length (filter p (x ∷ [])) + length (filter p (drop (at + 1) xs))
counted_from p xs at x within found =
    at_drop_more (λ ys. length (filter p ys)) xs at x within
    ∙ ap (λ y. length (filter p (y ∷ drop (at + 1) xs))) (get_or_from_slice_get xs at x x found)
    ∙ first_counted p x (drop (at + 1) xs)
