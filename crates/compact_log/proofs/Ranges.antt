-- What stands in a part of a list.
use Rattle.std.proofs.Common.{◌≡◌, ◌∙◌, ◌≤◌, ◌<◌, ◌+◌, ◌-◌, ℕ, zero, suc, List, [], ◌∷◌, length, take, drop, refl, ap, arith, slice_get}
use Rattle.std.proofs.lemmas.List.{length-drop, length-take-le}

get_behind : {X : Type 0} (i : ℕ) (xs : List X) (k : ℕ) → slice_get (drop i xs) k ≡ slice_get xs (i + k)
get_behind zero xs k = let is : k ≡ 0 + k = omega arith in ap (slice_get xs) is
get_behind (suc i) [] k = refl
get_behind (suc i) (x ∷ xs) k = let is : suc (i + k) ≡ suc i + k = omega arith in get_behind i xs k ∙ ap (slice_get (x ∷ xs)) is

get_before : {X : Type 0} (n : ℕ) (xs : List X) (k : ℕ) → k < n → slice_get (take n xs) k ≡ slice_get xs k
get_before zero xs k h = absurd (omega arith)
get_before (suc n) [] k h = refl
get_before (suc n) (x ∷ xs) zero h = refl
get_before (suc n) (x ∷ xs) (suc k) h = get_before n xs k (omega arith)

-- a part of a list is as long as its places lie apart
pub length_of_part : {X : Type 0} (xs : List X) (i j : ℕ) → i ≤ j → j ≤ length xs → length (take (j - i) (drop i xs)) ≡ j - i
length_of_part xs i j rises within = length-take-le (j - i) (drop i xs) (omega (arith, length-drop i xs))

-- and has the list's elements from the first place on
pub get_in_part : {X : Type 0} (xs : List X) (i j k : ℕ) → k < j - i → slice_get (take (j - i) (drop i xs)) k ≡ slice_get xs (i + k)
get_in_part xs i j k h = get_before (j - i) (drop i xs) k h ∙ get_behind i xs k
