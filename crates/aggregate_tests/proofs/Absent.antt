-- A pair that was taken out isn't there, and one that was put in is.
use Rattle.std.proofs.Common.{◌≡◌, ◌||◌, ◌++◌, Bool, true, false, not, List, [], ◌∷◌, refl}
use Rattle.std.specs.Prelude.{filter}
use Rattle.std.specs.List.{list_any}

none_step : {X : Type 0} (test : X → Bool) (x : X) (xs : List X) (b : Bool) → test x ≡ b → list_any test (filter (λ x. not (test x)) xs) ≡ false → list_any test (filter (λ x. not (test x)) (x ∷ xs)) ≡ false
none_step test x xs true e rest = rw e rest
none_step test x xs false e rest = rw (e, e) rest

-- of what fails a test, nothing passes it
pub none_left : {X : Type 0} (test : X → Bool) (xs : List X) → list_any test (filter (λ x. not (test x)) xs) ≡ false
none_left test [] = refl
none_left test (x ∷ xs) = none_step test x xs (test x) refl (none_left test xs)

-- what was put between others is there
pub there : {X : Type 0} (test : X → Bool) (xs : List X) (x : X) (ys : List X) → test x ≡ true → list_any test (xs ++ x ∷ ys) ≡ true
there test [] x ys t = rw t refl
there test (z ∷ xs) x ys t = by (test z) (there test xs x ys t)
  where
    by : (b : Bool) → list_any test (xs ++ x ∷ ys) ≡ true → (b || list_any test (xs ++ x ∷ ys)) ≡ true
    by true later = refl
    by false later = later
