-- No least number is greater than one of its group.
use Rattle.std.proofs.Common.{◌-◌, length}
use Rattle.shard_core.specs.Reached.{AreGroups}
use Rattle.shard_core.proofs.dues.look_into_groups.Given as goal

abbrev pub invariant-loop-at : goal.invariant-loop-at
invariant-loop-at l = AreGroups l.numbers l.blocks l.groups

abbrev pub decreases-loop-at : goal.decreases-loop-at
decreases-loop-at l = length l.blocks - l.at
