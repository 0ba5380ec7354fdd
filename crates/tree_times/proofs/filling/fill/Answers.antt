-- The key is none of those that came, and is one of them afterwards.
use Rattle.std.proofs.Common.{arith}
use Rattle.tree_times.proofs.Ranks.{next_at, none_at}
use Rattle.tree_times.proofs.filling.fill.Goals as goal

pub insert-requires : goal.insert-requires
insert-requires g c = record { absent = none_at c.args.keys.order c.loop-i.i c.key.result c.loop-i.tree.table.pairs c.loop-i.invariant.0 c.key.ensures; room = omega (arith, c.loop-i.invariant.1) }

pub loop-i-preserved : goal.loop-i-preserved
loop-i-preserved g c =
    (rw c.insert.ensures.inserts.inserted (next_at c.args.keys.order c.loop-i.i c.key.result c.lift.result c.loop-i.tree.table.pairs c.loop-i.invariant.0 c.key.ensures), omega (arith, c.loop-i.invariant.1, c.insert.ensures.inserts.spare))
