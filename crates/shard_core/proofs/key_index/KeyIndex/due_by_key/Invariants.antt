-- What is found so far is due of the places so far.
use Rattle.std.proofs.Common.{◌≤◌, ◌-◌, length}
use Rattle.shard_core.specs.Placed.{AreByKey}
use Rattle.shard_core.proofs.Placing.{AreDueBefore}
use Rattle.shard_core.proofs.key_index.KeyIndex.due_by_key.Given as goal

abbrev pub invariant-loop-place : goal.invariant-loop-place
invariant-loop-place l =
    AreDueBefore (l.self-inside.index).entries l.dues.items l.water l.from (l.due).entries × AreByKey (l.due).entries × (l.from ≤ length l.dues.items)

abbrev pub decreases-loop-place : goal.decreases-loop-place
decreases-loop-place l = length l.dues.items - l.from
