-- Each key whose period is reached is there, or is in a batch that is left.
use Rattle.std.proofs.Common.{◌≤◌, ℕ, List}
use Rattle.std.specs.Prelude.{◌⊎◌}
use Rattle.std.specs.List.{Contains}
use Rattle.tail_windows.specs.Noted.{IsNoted}
use Rattle.tail_windows.proofs.agenda.Agenda.due.Given as goal

abbrev pub invariant-loop-batch : goal.invariant-loop-batch
invariant-loop-batch l = (at : ℕ) (k : List ℕ) → IsNoted l.self at k → at ≤ l.water
    → Contains l.due.keys k ⊎ ((b : List (List ℕ)) × Contains l.batch-iterator (at, b) × Contains b k)
