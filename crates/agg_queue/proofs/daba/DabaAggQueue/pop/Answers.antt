-- The first cell is gone, and the boundaries are one place nearer.
use Rattle.std.proofs.Common.{◌≡◌, length, ◌∷◌, ap, arith}
use Rattle.agg_queue.proofs.Ranges.{keeps_without_first}
use Rattle.agg_queue.proofs.daba.DabaAggQueue.pop.Goals as goal

pub fix_up-self-inside-requires-clause-totals : goal.fix_up-self-inside-requires-clause-totals
fix_up-self-inside-requires-clause-totals g c =
    let longer : length c.self.inside.cells.values ≡ length (c.in_ok-value.value ∷ c.pop.new.self.values) = ap length c.in_ok-value.ensures.pops.first in
    rw c.without_first.ensures (keeps_without_first c.self.inside.cells.values c.pop.new.self.values c.self.inside.cells.aggregates c.pop.new.self.aggregates c.in_ok-value.value c.self.inside.bounds c.self.invariant.0 (omega (arith, longer, c.self.invariant.1.some, c.self.invariant.1.ahead, c.self.invariant.0.order.back)) c.in_ok-value.ensures.pops.first c.pop.ensures.aggregates)
