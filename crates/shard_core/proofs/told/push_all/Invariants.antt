-- The first of the changes were pushed.
use Rattle.std.proofs.Common.{◌≡◌, ◌≤◌, ◌+◌, ◌++◌, take}
use Rattle.shard_core.proofs.told.push_all.Given as goal

abbrev pub invariant-loop-change : goal.invariant-loop-change
invariant-loop-change l =
    (l.log.items ≡ l.fn.log.items ++ take l.change-index l.changes)
    × (l.fn.log.spare ≤ l.log.spare + l.change-index)
