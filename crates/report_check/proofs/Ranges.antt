-- A range is its first number, and then the rest.
use Rattle.std.proofs.Common.{cond, ◌≡◌, ◌∙◌, ℕ, ◌+◌, ◌-◌, ◌<◌, suc, Bool, true, false, List, ◌∷◌, map, filter, Option, None, Some, refl, sym, ap, arith}
use Rattle.std.specs.Prelude.{◌&&◌}
use Rattle.std.specs.List.{list_all, range_with_len}
use Rattle.report_check.specs.Waters.{least_with, lesser}

pub range_step : (s n : ℕ) → s < n → range_with_len s (n - s) ≡ s ∷ range_with_len (s + 1) (n - (s + 1))
range_step s n h =
    let e : n - s ≡ suc (n - (s + 1)) = omega arith in
    ap (λ m. range_with_len s m) e

-- one more of a range passes
pub all_step : (p : ℕ → Bool) (s n : ℕ) (t : Bool) → s < n → p s ≡ true → list_all p (range_with_len s (n - s)) ≡ t → list_all p (range_with_len (s + 1) (n - (s + 1))) ≡ t
all_step p s n t h is all = sym (ap (λ xs. list_all p xs) (range_step s n h) ∙ passes (p s) (list_all p (range_with_len (s + 1) (n - (s + 1)))) is) ∙ all
  where
    passes : (a b : Bool) → a ≡ true → (a && b) ≡ b
    passes true b e = refl
    passes false b e = cc

with_one : (least : Option ℕ) (w : ℕ) (ws : List ℕ) → least_with least (w ∷ ws) ≡ least_with (Some (lesser least w)) ws
with_one None w ws = refl
with_one (Some l) w ws = refl

-- one more of a range is asked, and taken in where it passes
pub least_step : (f : ℕ → ℕ) (p : ℕ → Bool) (s n : ℕ) (least : Option ℕ) → s < n
    → least_with least (map f (filter p (range_with_len s (n - s))))
    ≡ least_with (cond (p s) (Some (lesser least (f s))) least) (map f (filter p (range_with_len (s + 1) (n - (s + 1)))))
least_step f p s n least h =
    ap (λ xs. least_with least (map f (filter p xs))) (range_step s n h) ∙ by (p s)
  where
    rest : List ℕ
    rest = range_with_len (s + 1) (n - (s + 1))

    by : (b : Bool) → least_with least (map f (cond b (s ∷ filter p rest) (filter p rest))) ≡ least_with (cond b (Some (lesser least (f s))) least) (map f (filter p rest))
    by true = with_one least (f s) (map f (filter p rest))
    by false = refl
