-- What was there is there still, and each key is there or is left.
use Rattle.std.proofs.Common.{ℕ, List}
use Rattle.std.specs.Prelude.{◌⊎◌}
use Rattle.std.specs.List.{Contains}
use Rattle.tail_windows.proofs.batch.Batch.add_to.Given as goal

abbrev pub invariant-loop-key : goal.invariant-loop-key
invariant-loop-key l =
    ((k : List ℕ) → Contains l.fn.due.keys k → Contains l.due.keys k)
    × ((k : List ℕ) → Contains l.self k → Contains l.due.keys k ⊎ Contains l.key-iterator k)
