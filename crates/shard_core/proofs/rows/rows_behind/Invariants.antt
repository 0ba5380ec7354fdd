-- The first of the changes were taken in.
use Rattle.std.proofs.Common.{◌≡◌, [], take}
use Rattle.model_laws.specs.Rows.{rows_after}
use Rattle.shard_core.proofs.rows.rows_behind.Given as goal

abbrev pub invariant-loop-at : goal.invariant-loop-at
invariant-loop-at l = l.rows ≡ rows_after [] (take l.at l.changes.items)
