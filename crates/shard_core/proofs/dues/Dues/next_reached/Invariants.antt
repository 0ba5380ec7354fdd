-- None of the numbers that were passed is reached.
use Rattle.std.proofs.Common.{◌≤◌, ◌-◌, length}
use Rattle.shard_core.specs.Reached.{NoneReached}
use Rattle.shard_core.proofs.dues.Dues.next_reached.Given as goal

abbrev pub invariant-loop-at : goal.invariant-loop-at
invariant-loop-at l = (l.from ≤ l.at) × NoneReached l.self.items l.water l.from l.at

abbrev pub decreases-loop-at : goal.decreases-loop-at
decreases-loop-at l = length l.self.items - l.at
