-- The aggregate of the accumulator and the value before it is written at that value.
use Rattle.std.proofs.Common.{◌≡◌, ◌+◌, ◌-◌, ◌∙◌, arith}
use Rattle.agg_queue.specs.Ranges.{total_within}
use Rattle.agg_queue.proofs.Within.{total_within-earlier}
use Rattle.agg_queue.proofs.Ranges.{keeps_accumulator}
use Rattle.agg_queue.proofs.daba.extend_accumulator.Goals as goal

pub returns-clause-sets : goal.returns-clause-sets
returns-clause-sets g c =
    let k = c.requires.totals in
    let next : (c.args.bounds.accumulator - 1) + 1 ≡ c.args.bounds.accumulator = omega arith in
    let rest : c.total_at_first-rest.result ≡ total_within g.M.Monoid.empty g.M.Monoid.op c.args.cells.now.values ((c.args.bounds.accumulator - 1) + 1) c.args.bounds.back = rw next c.total_at_first-rest.ensures in
    let whole : c.combine-whole.result ≡ total_within g.M.Monoid.empty g.M.Monoid.op c.args.cells.now.values (c.args.bounds.accumulator - 1) c.args.bounds.back =
    c.combine-whole.ensures.value ∙ rw (rest, c.value.ensures g.M.Monoid.empty) (total_within-earlier g.met.M.Monoid.laws c.args.cells.now.values (c.args.bounds.accumulator - 1) c.args.bounds.back k.are_values (omega arith) k.order.back) in
    record { kept = c.set_aggregate.ensures.kept; totals = rw (c.set_aggregate.ensures.kept.values, c.set_aggregate.ensures.aggregates) (keeps_accumulator c.args.cells.now.values c.args.cells.now.aggregates c.args.bounds _ k c.requires.some whole) }
