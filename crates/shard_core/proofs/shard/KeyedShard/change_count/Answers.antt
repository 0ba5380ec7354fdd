-- The changes are kept one behind the other.
use Rattle.std.proofs.Common.{ap, arith, length}
use Rattle.shard_core.proofs.shard.KeyedShard.change_count.Goals as goal

pub returns : goal.returns
returns g c = rw (← c.self.view_is) (omega (arith, ap length c.self.invariant.0.changes_are))
