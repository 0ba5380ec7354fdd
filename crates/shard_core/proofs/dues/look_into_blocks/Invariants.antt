-- No least number is greater than one of its block.
use Rattle.std.proofs.Common.{◌-◌, length}
use Rattle.shard_core.specs.Reached.{AreBlocks}
use Rattle.shard_core.proofs.dues.look_into_blocks.Given as goal

abbrev pub invariant-loop-at : goal.invariant-loop-at
invariant-loop-at l = AreBlocks l.numbers l.blocks

abbrev pub decreases-loop-at : goal.decreases-loop-at
decreases-loop-at l = length l.numbers - l.at
