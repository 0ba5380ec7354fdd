-- One child more, and the item behind it.
use Rattle.std.proofs.Common.{arith}
use Rattle.fiba_nodes.specs.Rows.{listed}
use Rattle.fiba_nodes.specs.Trees.{IsAt, pairs_at, plain}
use Rattle.fiba_nodes.proofs.Strings.{inner_kid, strung_more, strung_one}
use Rattle.fiba_nodes.proofs.spans.fold_between.Goals as goal

pub loop-k-init : goal.loop-k-init
loop-k-init g c =
    (strung_one g.M.Monoid.op (pairs_at (plain c.args.nodes.now) c.args.height) (listed c.args.open.now.slots) c.args.open.now.last c.args.i c.peek.result.now c.args.sum c.combine-sum.result c.args.steps.now c.combine-sum.new.steps c.peek.ensures c.combine-sum.ensures.value (omega (arith, c.combine-sum.ensures.counted)), omega arith, omega (arith, c.combine-sum.ensures.counted))

pub with_kid-requires : goal.with_kid-requires
with_kid-requires g c =
    let m = g.M.Monoid in
    inner_kid (λ l r k. IsAt m.is_value m.empty m.op (plain c.args.nodes.now) c.args.height l r k) c.args.place.left c.args.place.right (listed c.args.open.now.slots) c.args.open.now.last c.loop-k.k c.peek-slot.result.now (omega arith) c.peek-slot.ensures c.requires.kids

pub loop-k-preserved : goal.loop-k-preserved
loop-k-preserved g c =
    let f = pairs_at (plain c.args.nodes.now) c.args.height in
    (strung_more g.M.Monoid.op f (listed c.args.open.now.slots) c.args.open.now.last c.args.i c.loop-k.k c.peek-slot.result.now c.args.sum c.loop-k.sum c.with_kid.result c.combine-sum-in-loop-k.result c.args.steps.now c.loop-k.steps c.with_kid.new.steps c.combine-sum-in-loop-k.new.steps c.peek-slot.ensures c.loop-k.invariant.0 c.with_kid.ensures.value c.with_kid.ensures.work.one_each c.combine-sum-in-loop-k.ensures.value (omega (arith, c.combine-sum-in-loop-k.ensures.counted)), omega arith, omega (arith, c.combine-sum-in-loop-k.ensures.counted, c.with_kid.ensures.work.cost))
