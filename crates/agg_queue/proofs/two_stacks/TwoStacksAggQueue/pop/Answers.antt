-- The front isn't empty, and loses its first item.
use Rattle.std.proofs.Common.{◌≡◌, ◌<◌, length, ◌∷◌, ap, arith}
use Rattle.agg_queue.specs.Stacks.{AreStacked}
use Rattle.agg_queue.proofs.Stacks.{stacked_all, stacked_rest}
use Rattle.agg_queue.proofs.two_stacks.TwoStacksAggQueue.pop.Goals as goal
use Rattle.agg_queue.proofs.two_stacks.TwoStacksAggQueue.pop.Goals.{then-self-eq0, else-self-eq0}

pub invariant_of-self-2 : goal.invariant_of-self-2
invariant_of-self-2 g c =
    let some : length c.if-self-eq0.self-inside.cells.values ≡ length (c.in_ok-value.value ∷ c.pop.new.self.values) = ap length c.in_ok-value.ensures.pops.first in
    let ready : AreStacked g.M.Monoid.is_value g.M.Monoid.empty g.M.Monoid.op c.if-self-eq0.self-inside.cells.values c.if-self-eq0.self-inside.cells.aggregates c.if-self-eq0.self-inside.front c.if-self-eq0.self-inside.back = elim c.if-self-eq0.branch [
      | then-self-eq0 w ↦ rw w.self-inside-is (stacked_all g.met.M.Monoid.laws w.turn_over.new.cells.values w.turn_over.new.cells.aggregates w.len-self-inside.result w.unit-self-inside.result (rw w.turn_over.ensures.kept.values c.self.invariant.are_values) w.turn_over.ensures.aligned w.turn_over.ensures.suffixes w.len-self-inside.ensures.values w.unit-self-inside.ensures)
      | else-self-eq0 w ↦ rw w.self-inside-is c.self.invariant
    ] in
    let has_front : 0 < c.if-self-eq0.self-inside.front = elim c.if-self-eq0.branch [
      | then-self-eq0 w ↦ let e : length w.turn_over.new.cells.values ≡ length (c.in_ok-value.value ∷ c.pop.new.self.values) = rw w.self-inside-is at some in rw w.self-inside-is (omega (arith, w.len-self-inside.ensures.values))
      | else-self-eq0 w ↦ rw w.self-inside-is (omega arith)
    ] in
    stacked_rest g.met.M.Monoid.laws _ _ _ _ c.in_ok-value.value _ _ ready has_front c.in_ok-value.ensures.pops.first c.pop.ensures.aggregates
