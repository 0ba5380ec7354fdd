-- The front's aggregate and then the back's are the aggregate of all.
use Rattle.std.proofs.Common.{ap, ◌∙◌, arith}
use Rattle.agg_laws.specs.Laws.{total}
use Rattle.agg_queue.proofs.Stacks.{stacked_total}
use Rattle.agg_queue.proofs.two_stacks.TwoStacksAggQueue.fold.Goals as goal

pub returns-clause-value : goal.returns-clause-value
returns-clause-value g c =
    c.combine.ensures.value ∙ ap (λ a. g.M.Monoid.op a c.self.inside.back) (c.aggregate.ensures g.M.Monoid.empty) ∙ stacked_total g.met.M.Monoid.laws _ _ _ _ c.self.invariant (omega arith) ∙ ap (λ q. total g.M.Monoid.empty g.M.Monoid.op q.queue.items) c.self.view_is
