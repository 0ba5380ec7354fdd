-- The front that two texts have in common.
use Rattle.std.proofs.Common.{◌≡◌, ◌∙◌, ℕ, ◌≤◌, Bool, true, false, List, [], ◌∷◌, length, take, drop, cond, eqb, refl, ap, suc, zero, arith}
use Rattle.report_check.specs.Apart.{common_front}

pub front_is_taken : (text other : List ℕ) → take (length (common_front text other)) text ≡ common_front text other
front_is_taken [] other = refl
front_is_taken (x ∷ text) [] = refl
front_is_taken (x ∷ text) (y ∷ other) = either (eqb x y) (front_is_taken text other)
  where
    either : (b : Bool) → take (length (common_front text other)) text ≡ common_front text other
        → take (length (cond b (x ∷ common_front text other) [])) (x ∷ text) ≡ cond b (x ∷ common_front text other) []
    either true e = ap (λ xs. x ∷ xs) e
    either false e = refl

dropped_all : (xs : List ℕ) (i : ℕ) → length xs ≤ i → drop i xs ≡ []
dropped_all [] zero h = refl
dropped_all [] (suc i) h = refl
dropped_all (x ∷ xs) zero h = absurd (omega arith)
dropped_all (x ∷ xs) (suc i) h = dropped_all xs i (omega arith)

nothing_common : (xs : List ℕ) → length (common_front xs []) ≡ 0
nothing_common [] = refl
nothing_common (x ∷ xs) = refl

-- no more byte is common where the other text ends
pub ends : (text other : List ℕ) (i : ℕ) → length other ≤ i → length (common_front (drop i text) (drop i other)) ≡ 0
ends text other i h = ap (λ ys. length (common_front (drop i text) ys)) (dropped_all other i h) ∙ nothing_common (drop i text)
