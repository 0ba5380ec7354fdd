-- Places behind the last one are not looked at.
use Rattle.std.proofs.Common.{◌-◌, length}
use Rattle.shard_core.proofs.dues.Dues.reaches_many.Given as goal

abbrev pub decreases-loop-place : goal.decreases-loop-place
decreases-loop-place l = length l.self.items - l.from
