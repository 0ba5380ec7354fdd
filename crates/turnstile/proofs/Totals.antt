-- Sums over lists that are read and written by place.
use Rattle.std.proofs.Common.{◌≡◌, ◌≢◌, ℕ, zero, suc, ◌+◌, ◌≤◌, List, [], ◌∷◌, ◌++◌, set, sym, ap, arith}
use mathlib.Core.Option.{some, some-injective, some-ne-none}
use lib.ListN.{get_elem?}
use Rattle.turnstile.specs.Rule.{total}

module _ {A : Type 0} (f : A → ℕ) where
  pub total-set : (l : List A) (i : ℕ) (v w : A) → get_elem? l i ≡ some v → total f (set l i w) + f v ≡ total f l + f w
  total-set [] i v w e = absurd (some-ne-none v (sym e))
  total-set (x ∷ xs) zero v w e = let s : f x ≡ f v = ap f (some-injective x v e) in omega arith
  total-set (x ∷ xs) (suc i) v w e = let ih = total-set xs i v w e in omega arith

  pub total-append : (l m : List A) → total f (l ++ m) ≡ total f l + total f m
  total-append [] m = omega arith
  total-append (x ∷ xs) m = let ih = total-append xs m in omega arith

  pub total-push : (l : List A) (w : A) → total f (l ++ w ∷ []) ≡ total f l + f w
  total-push [] w = omega arith
  total-push (x ∷ xs) w = let ih = total-push xs w in omega arith

  pub total-at : (l : List A) (i : ℕ) (v : A) → get_elem? l i ≡ some v → f v ≤ total f l
  total-at [] i v e = absurd (some-ne-none v (sym e))
  total-at (x ∷ xs) zero v e = let s : f x ≡ f v = ap f (some-injective x v e) in omega arith
  total-at (x ∷ xs) (suc i) v e = let ih = total-at xs i v e in omega arith

  pub total-two : (l : List A) (i j : ℕ) (v w : A) → j ≢ i → get_elem? l i ≡ some v → get_elem? l j ≡ some w → f v + f w ≤ total f l
  total-two [] i j v w ne e d = absurd (some-ne-none v (sym e))
  total-two (x ∷ xs) zero zero v w ne e d = absurd (ne (omega arith))
  total-two (x ∷ xs) zero (suc j) v w ne e d = let s : f x ≡ f v = ap f (some-injective x v e) in let r = total-at xs j w d in omega arith
  total-two (x ∷ xs) (suc i) zero v w ne e d = let s : f x ≡ f w = ap f (some-injective x w d) in let r = total-at xs i v e in omega arith
  total-two (x ∷ xs) (suc i) (suc j) v w ne e d = let ih = total-two xs i j v w (λ is. ne (ap suc is)) e d in omega arith

  pub total-le : (g : A → ℕ) (l : List A) → ((i : ℕ) (v : A) → get_elem? l i ≡ some v → f v ≤ g v) → total f l ≤ total g l
  total-le g [] h = omega arith
  total-le g (x ∷ xs) h = let ih = total-le g xs (λ i v e. h (suc i) v e) in let here : f x ≤ g x = h 0 x (λ _. some x) in omega arith
