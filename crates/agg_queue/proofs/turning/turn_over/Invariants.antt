-- The aggregates are made from the back to the front.
use Rattle.agg_queue.proofs.Stacks.{TurnedOver}
use Rattle.agg_queue.proofs.turning.turn_over.Given as goal

abbrev pub invariant-loop-i : goal.invariant-loop-i
invariant-loop-i g l = TurnedOver g.M.Monoid.empty g.M.Monoid.op l.fn.cells l.cells l.i l.suffix l.fn.steps l.steps
