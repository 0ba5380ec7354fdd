-- The same slices are entered where the places are the same.
use Rattle.std.proofs.Common.{◌≡◌, ◌-◌, ℕ, subst, arith}
use Rattle.stream_base.specs.declared.kept.Kept.{Kept}
use Rattle.slice_lists.specs.Slices.{CanEnter, Sliced}

pub can_alone : (from to : ℕ) (x : Kept) (s : Sliced) → CanEnter from to x s → to - from ≡ 0 → CanEnter from from x s
can_alone from to x s h e = subst (λ t. CanEnter from t x s) (let d : to ≡ from = omega (arith, h.order) in d) h
