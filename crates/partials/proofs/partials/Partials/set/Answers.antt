-- The pair with the key is in the tree where the key is below the edge, and else in the row.
use Rattle.std.proofs.Common.{◌∙◌, ◌++◌, ap, sym, subst, arith, length}
use Rattle.agg_laws.specs.Pairs.{distance}
use Rattle.partials.specs.Apart.{AreBelow, AreFrom, row_reach}
use Rattle.partials.proofs.RowFacts.{absent_before, absent_behind, below_replaced, from_replaced, near_before_row, near_in_row, near_in_tree, replaced_inside, replaced_near, there_inside, there_near}
use Rattle.partials.proofs.partials.Partials.set.Goals as goal

pub set-requires : goal.set-requires
set-requires g c =
    let s = c.self.inside in
    there_inside c.args.low (g.T.AggTree.table s.tree).pairs s.near.pairs (rw (← c.self.view_is) at c.requires) (absent_before s.edge c.args.low s.near.pairs c.if-low-self.true c.self.invariant.from)

pub invariant_of-self : goal.invariant_of-self
invariant_of-self g c =
    let s = c.self.inside in
    record {
      below = subst (AreBelow s.edge) (sym c.set.ensures.replaces.replaced) (below_replaced s.edge c.args.low c.args.partial (g.T.AggTree.table s.tree).pairs c.self.invariant.below);
      from = c.self.invariant.from;
      few = c.self.invariant.few;
    }

pub set-requires-else-low-self : goal.set-requires-else-low-self
set-requires-else-low-self g c =
    let s = c.self.inside in
    let xs = (g.T.AggTree.table s.tree).pairs in
    there_near c.args.low xs s.near.pairs (rw (← c.self.view_is) at c.requires) (absent_behind s.edge c.args.low xs c.if-low-self.false c.self.invariant.below)

pub invariant_of-self-else-low-self : goal.invariant_of-self-else-low-self
invariant_of-self-else-low-self g c =
    let s = c.self.inside in
    record {
      below = c.self.invariant.below;
      from = subst (AreFrom s.edge) (sym c.set-else-low-self.ensures.replaces.replaced) (from_replaced s.edge c.args.low c.args.partial s.near.pairs c.self.invariant.from);
      few = omega (arith, c.self.invariant.few, c.set-else-low-self.ensures.count);
    }

pub returns-then-low-self-clause-replaced : goal.returns-then-low-self-clause-replaced
returns-then-low-self-clause-replaced g c =
    let s = c.self.inside in
    rw (← c.self.view_is)
    (ap (λ l. l ++ s.near.pairs) c.set.ensures.replaces.replaced
    ∙ sym (replaced_inside c.args.low c.args.partial (g.T.AggTree.table s.tree).pairs s.near.pairs (absent_before s.edge c.args.low s.near.pairs c.if-low-self.true c.self.invariant.from)))

pub returns-else-low-self-clause-replaced : goal.returns-else-low-self-clause-replaced
returns-else-low-self-clause-replaced g c =
    let s = c.self.inside in
    let xs = (g.T.AggTree.table s.tree).pairs in
    rw (← c.self.view_is)
    (ap (λ l. xs ++ l) c.set-else-low-self.ensures.replaces.replaced
    ∙ sym (replaced_near c.args.low c.args.partial xs s.near.pairs (absent_behind s.edge c.args.low xs c.if-low-self.false c.self.invariant.below)))

pub returns-then-low-self-clause-near : goal.returns-then-low-self-clause-near
returns-then-low-self-clause-near g c =
    let t = g.T.AggTree in
    let s = c.self.inside in
    let xs = (t.table s.tree).pairs in
    rw (← c.self.view_is)
    (near_before_row t.near c.args.low xs s.near.pairs (t.reach s.tree) (row_reach (length s.near.pairs)) 0 _ _
    (near_in_tree t.near (distance c.args.low xs) (t.reach s.tree) 0 _ _ c.args.steps.now _ _ c.set.ensures.near (omega arith)))

pub returns-else-low-self-clause-near : goal.returns-else-low-self-clause-near
returns-else-low-self-clause-near g c =
    near_in_row g.T.AggTree.near _ _ 0 _ _ (omega arith)
