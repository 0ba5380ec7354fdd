-- One more value is turned over.
use Rattle.std.proofs.Common.{arith}
use Rattle.agg_queue.proofs.Stacks.{turned_over-more}
use Rattle.agg_queue.proofs.turning.turn_over.Goals as goal

pub loop-i-preserved : goal.loop-i-preserved
loop-i-preserved g c =
    turned_over-more g.met.M.Monoid.laws c.args.cells.now c.loop-i.cells c.set_aggregate.new.self c.loop-i.i c.value.result c.loop-i.suffix c.combine-suffix.result c.args.steps.now c.loop-i.steps c.combine-suffix.new.steps c.requires.values c.loop-i.invariant (omega arith) (c.value.ensures g.M.Monoid.empty) c.combine-suffix.ensures.value c.combine-suffix.ensures.counted c.set_aggregate.ensures.kept.values c.set_aggregate.ensures.aggregates c.set_aggregate.ensures.kept.spare
