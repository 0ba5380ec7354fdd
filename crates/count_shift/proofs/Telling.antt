-- Instances told one after another.
use Rattle.std.proofs.Common.{◌≡◌, ◌∙◌, ℕ, ◌+◌, ◌-◌, ◌*◌, ◌≤◌, List, [], ◌∷◌, ◌++◌, map, ap, sym, arith, append_assoc}
use Rattle.std.specs.List.{range_with_len}
use Rattle.std.proofs.lemmas.List.FromFn.{map-range_with_len_more}
use Rattle.stream_base.specs.declared.change.Change.{Change}

-- one change more behind those of the numbers so far
pub told_more : (f : ℕ → Change) (before out pushed : List Change) (from i : ℕ) (change : Change) → from ≤ i → out ≡ before ++ map f (range_with_len from (i - from)) → change ≡ f i → pushed ≡ out ++ change ∷ []
    → pushed ≡ before ++ map f (range_with_len from (i + 1 - from))
told_more f before out pushed from i change le so_far is push =
    let place : from + (i - from) ≡ i = omega arith in
    let more : i - from + 1 ≡ i + 1 - from = omega arith in
    push
    ∙ (λ j. so_far j ++ is j ∷ [])
    ∙ append_assoc before (map f (range_with_len from (i - from))) (f i ∷ [])
    ∙ ap (λ l. before ++ l) (sym (map-range_with_len_more f from (i - from) i place))
    ∙ ap (λ n. before ++ map f (range_with_len from n)) more

-- and its steps
pub steps_more : (n from i : ℕ) → from ≤ i → n * (i + 1 - from) ≡ n * (i - from) + n
steps_more n from i le = let more : i + 1 - from ≡ i - from + 1 = omega arith in ap (λ k. n * k) more ∙ spread n (i - from)
  where
    spread : (a b : ℕ) → a * (b + 1) ≡ a * b + a
    spread a b = grind arith

-- at most two combines a tuple for each instance that is told again, and one for each new one
pub steps_told : (n k m before between after : ℕ) → between ≤ before + 2 * n * k → after ≤ between + n * m → after ≤ before + 2 * n * (k + m)
steps_told n k m before between after first then =
    omega (arith, spread n k m, more n m)
  where
    spread : (a b c : ℕ) → 2 * a * (b + c) ≡ 2 * a * b + 2 * a * c
    spread a b c = grind arith

    more : (a b : ℕ) → a * b ≤ 2 * a * b
    more a b = grind arith
