-- One more child and item are summed.
use Rattle.std.proofs.Common.{arith}
use Rattle.fiba_nodes.specs.Rows.{listed}
use Rattle.fiba_nodes.specs.Trees.{plain}
use Rattle.fiba_nodes.proofs.Opened.{summed_more, first_kid}
use Rattle.fiba_nodes.proofs.totals.total_of.Goals as goal

pub with_kid-requires : goal.with_kid-requires
with_kid-requires g c =
    first_kid g.M.Monoid.is_value g.M.Monoid.empty g.M.Monoid.op (plain c.args.nodes.now) c.args.height c.args.place.left c.args.place.right (listed c.args.slots.now) c.args.last c.loop-i.left c.loop-i.i c.peek-slot.result.now c.loop-i.sum c.peek-slot.ensures c.loop-i.invariant.0

pub loop-i-preserved : goal.loop-i-preserved
loop-i-preserved g c =
    (summed_more g.M.Monoid.is_value g.M.Monoid.empty g.M.Monoid.op (plain c.args.nodes.now) c.args.height c.args.place.left c.args.place.right (listed c.args.slots.now) c.args.last c.loop-i.left c.loop-i.i c.peek-slot.result.now c.loop-i.sum c.with_kid.result c.combine-sum.result c.peek-slot.ensures c.loop-i.invariant.0 c.with_kid.ensures.value c.combine-sum.ensures.value, omega arith, omega arith, omega arith)
