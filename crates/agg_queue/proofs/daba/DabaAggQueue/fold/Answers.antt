-- The front up to the back boundary, and then the back.
use Rattle.std.proofs.Common.{ap, ◌∙◌, arith}
use Rattle.agg_laws.specs.Laws.{total}
use Rattle.agg_queue.proofs.Within.{total_within-split, total_within-all}
use Rattle.agg_queue.proofs.daba.DabaAggQueue.fold.Goals as goal

pub returns-clause-value : goal.returns-clause-value
returns-clause-value g c =
    let k = c.self.invariant.0 in
    c.combine.ensures.value ∙ rw (c.total_at_first-front.ensures, c.total_at_last-back.ensures) (total_within-split g.met.M.Monoid.laws c.self.inside.cells.values 0 c.self.inside.bounds.back c.len.result k.are_values (omega arith) (omega (arith, k.order.back, c.len.ensures.values)) (omega (arith, c.len.ensures.values))) ∙ total_within-all g.M.Monoid.empty g.M.Monoid.op c.self.inside.cells.values c.len.result (omega (arith, c.len.ensures.values)) ∙ ap (λ q. total g.M.Monoid.empty g.M.Monoid.op q.items) c.self.view_is
