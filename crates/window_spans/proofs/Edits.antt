-- One session in the place of some.
use Rattle.std.proofs.Common.{◌≡◌, ◌∙◌, ℕ, zero, suc, ◌+◌, ◌-◌, ◌<◌, ◌≤◌, List, [], ◌∷◌, ◌++◌, length, set, take, drop, ap, refl, arith}
use Rattle.std.specs.List.{insert, remove}
use Rattle.std.proofs.lemmas.List.{drop-set-lt, length-take-le}
use Rattle.std.proofs.lemmas.List.Edits.{insert-append_right}
use Rattle.std.proofs.Math.Seq.{take-suc-set}

module _ {X : Type 0} where
  -- one more is removed at the same place
  pub removed_more : (xs : List X) (from i : ℕ) → from ≤ i → i < length xs → remove (take from xs ++ drop i xs) from ≡ take from xs ++ drop (suc i) xs
  removed_more [] from i l m = absurd (omega arith)
  removed_more (x ∷ xs) zero zero l m = refl
  removed_more (x ∷ xs) zero (suc i) l m = removed_more xs zero i (omega arith) (omega arith)
  removed_more (x ∷ xs) (suc from) zero l m = absurd (omega arith)
  removed_more (x ∷ xs) (suc from) (suc i) l m = ap (λ r. x ∷ r) (removed_more xs from i (omega arith) (omega arith))

  -- nothing is removed yet
  pub removed_none : (xs : List X) (from : ℕ) → take from xs ++ drop from xs ≡ xs
  removed_none [] zero = refl
  removed_none [] (suc from) = refl
  removed_none (x ∷ xs) zero = refl
  removed_none (x ∷ xs) (suc from) = ap (λ r. x ∷ r) (removed_none xs from)

  -- the first is written over, and the others are removed
  pub replaced : (xs : List X) (from to : ℕ) (x : X) → from < to → from < length xs → take (from + 1) (set xs from x) ++ drop to (set xs from x) ≡ take from xs ++ x ∷ drop to xs
  replaced xs from to x l m =
      let next : from + 1 ≡ suc from = omega arith in
      (λ i. take (next i) (set xs from x) ++ drop-set-lt to xs from x l i)
      ∙ ap (λ r. r ++ drop to xs) (take-suc-set xs from x m)
      ∙ regroup (take from xs) (drop to xs)
    where
      regroup : (ys zs : List X) → (ys ++ x ∷ []) ++ zs ≡ ys ++ x ∷ zs
      regroup [] zs = refl
      regroup (y ∷ ys) zs = ap (λ r. y ∷ r) (regroup ys zs)

  -- two elements in the place of some
  pub both_put : (xs : List X) (from to : ℕ) (x y : X) → from ≤ length xs → insert (take from xs ++ x ∷ drop to xs) (from + 1) y ≡ take from xs ++ ((x ∷ y ∷ []) ++ drop to xs)
  both_put xs from to x y l =
      let front : length (take from xs) ≡ from = length-take-le from xs l in
      let one : from + 1 - from ≡ 1 = omega arith in
      insert-append_right (take from xs) (x ∷ drop to xs) from (from + 1) y front (omega arith)
      ∙ ap (λ k. take from xs ++ insert (x ∷ drop to xs) k y) one
      ∙ ap (λ r. take from xs ++ r) (second (drop to xs))
    where
      second : (ys : List X) → insert (x ∷ ys) 1 y ≡ x ∷ y ∷ ys
      second [] = refl
      second (z ∷ zs) = refl
