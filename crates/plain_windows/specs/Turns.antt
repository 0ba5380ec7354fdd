-- Where a test of tuples turns.
use Rattle.std.specs.Prelude.{◌≡◌, ◌≤◌, ℕ, Bool, true, false, List, length}
use Rattle.std.specs.List.{AllWithin}
use Rattle.stream_base.specs.declared.kept.Kept.{Kept}

-- so many tuples at the front pass a test, and none behind them does
pub record IsTurnOf (test : Kept → Bool) (kept : List Kept) (place : ℕ) : Type 0 where
  pub within : place ≤ length kept
  pub before : AllWithin (λ x. test x ≡ true) kept 0 place
  pub behind : AllWithin (λ x. test x ≡ false) kept place (length kept)
