-- The front of a longer list: its elements, and what holds of each.
use Rattle.std.proofs.Common.{◌≡◌, ℕ, zero, suc, ◌+◌, ◌<◌, List, [], ◌∷◌, ◌++◌, length, refl, subst, arith, Some}
use Rattle.std.specs.Prelude.{slice_get}
use Rattle.std.specs.List.{All}
use Rattle.std.proofs.lemmas.List.{get_or_append_left, get_or-append-add, length-append}

module _ {X : Type 0} where
  -- what holds of each element of a list holds of those of its front, and of its back
  pub All_front : (P : X → Type 0) (xs ys : List X) → All P (xs ++ ys) → All P xs
  All_front P xs ys h k d l = subst P (get_or_append_left xs ys d k l) (h k d (omega (arith, length-append xs ys)))

  pub All_back : (P : X → Type 0) (xs ys : List X) → All P (xs ++ ys) → All P ys
  All_back P xs ys h k d l = subst P (get_or-append-add xs ys k d) (h (length xs + k) d (omega (arith, length-append xs ys)))

  -- the element behind a list, and those of the list, in a longer one
  pub slice_get_seam : (xs : List X) (y : X) (ys : List X) → slice_get (xs ++ y ∷ ys) (length xs) ≡ Some y
  slice_get_seam [] y ys = refl
  slice_get_seam (x ∷ xs) y ys = slice_get_seam xs y ys

  pub slice_get_front : (xs ys : List X) (k : ℕ) → k < length xs → slice_get (xs ++ ys) k ≡ slice_get xs k
  slice_get_front [] ys k l = absurd (omega arith)
  slice_get_front (x ∷ xs) ys zero l = refl
  slice_get_front (x ∷ xs) ys (suc k) l = slice_get_front xs ys k (omega arith)
