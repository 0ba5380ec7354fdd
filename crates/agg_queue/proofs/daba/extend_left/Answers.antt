-- The aggregate of three ranges is written at the first place of the left one.
use Rattle.std.proofs.Common.{◌≡◌, ap, ◌∙◌}
use Rattle.agg_queue.specs.Ranges.{total_within}
use Rattle.agg_queue.proofs.Within.{total_within-three}
use Rattle.agg_queue.proofs.Ranges.{keeps_left}
use Rattle.agg_queue.proofs.daba.extend_left.Goals as goal

pub returns-clause-sets : goal.returns-clause-sets
returns-clause-sets g c =
    let k = c.requires.totals in
    let whole : c.combine-whole.result ≡ total_within g.M.Monoid.empty g.M.Monoid.op c.args.cells.now.values c.args.bounds.left c.args.bounds.back =
    c.combine-whole.ensures.value ∙ ap (λ a. g.M.Monoid.op a c.total_at_first-rest.result) c.combine.ensures.value ∙ rw (c.total_at_first-left.ensures, c.total_at_last-right.ensures, c.total_at_first-rest.ensures) (total_within-three g.met.M.Monoid.laws _ _ _ _ _ k.are_values k.order.left k.order.right k.order.accumulator k.order.back) in
    record { kept = c.set_aggregate.ensures.kept; totals = rw (c.set_aggregate.ensures.kept.values, c.set_aggregate.ensures.aggregates) (keeps_left c.args.cells.now.values c.args.cells.now.aggregates c.args.bounds _ k c.requires.some whole) }
