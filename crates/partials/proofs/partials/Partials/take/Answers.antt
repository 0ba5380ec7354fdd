-- The pair with the key is in the tree where the key is below the edge, and else in the row.
use Rattle.std.proofs.Common.{◌∙◌, ◌++◌, ap, sym, subst, arith}
use Rattle.partials.specs.Apart.{AreBelow, AreFrom}
use Rattle.partials.proofs.RowFacts.{absent_before, absent_behind, below_without, from_without, value_inside, value_near, without_inside, without_near}
use Rattle.partials.proofs.partials.Partials.take.Goals as goal

pub invariant_of-self : goal.invariant_of-self
invariant_of-self g c =
    let s = c.self.inside in
    record {
      below = subst (AreBelow s.edge) (sym c.take_from.ensures.pairs) (below_without s.edge c.args.low (g.T.AggTree.table s.tree).pairs c.self.invariant.below);
      from = c.self.invariant.from;
      few = c.self.invariant.few;
    }

pub invariant_of-self-else-low-self : goal.invariant_of-self-else-low-self
invariant_of-self-else-low-self g c =
    let s = c.self.inside in
    record {
      below = c.self.invariant.below;
      from = subst (AreFrom s.edge) (sym c.take_near.ensures.pairs) (from_without s.edge c.args.low s.near.pairs c.self.invariant.from);
      few = omega (arith, c.self.invariant.few, c.take_near.ensures.row);
    }

pub returns-then-low-self-clause-value : goal.returns-then-low-self-clause-value
returns-then-low-self-clause-value g c =
    let s = c.self.inside in
    rw (← c.self.view_is)
    (λ b e. c.take_from.ensures.value b (sym (value_inside c.args.low (g.T.AggTree.table s.tree).pairs s.near.pairs (absent_before s.edge c.args.low s.near.pairs c.if-low-self.true c.self.invariant.from)) ∙ e))

pub returns-then-low-self-clause-pairs : goal.returns-then-low-self-clause-pairs
returns-then-low-self-clause-pairs g c =
    let s = c.self.inside in
    rw (← c.self.view_is)
    (ap (λ l. l ++ s.near.pairs) c.take_from.ensures.pairs
    ∙ sym (without_inside c.args.low (g.T.AggTree.table s.tree).pairs s.near.pairs (absent_before s.edge c.args.low s.near.pairs c.if-low-self.true c.self.invariant.from)))

pub returns-else-low-self-clause-value : goal.returns-else-low-self-clause-value
returns-else-low-self-clause-value g c =
    let s = c.self.inside in
    let xs = (g.T.AggTree.table s.tree).pairs in
    rw (← c.self.view_is)
    (λ b e. c.take_near.ensures.value b (sym (value_near c.args.low xs s.near.pairs (absent_behind s.edge c.args.low xs c.if-low-self.false c.self.invariant.below)) ∙ e))

pub returns-else-low-self-clause-pairs : goal.returns-else-low-self-clause-pairs
returns-else-low-self-clause-pairs g c =
    let s = c.self.inside in
    let xs = (g.T.AggTree.table s.tree).pairs in
    rw (← c.self.view_is)
    (ap (λ l. xs ++ l) c.take_near.ensures.pairs
    ∙ sym (without_near c.args.low xs s.near.pairs (absent_behind s.edge c.args.low xs c.if-low-self.false c.self.invariant.below)))
