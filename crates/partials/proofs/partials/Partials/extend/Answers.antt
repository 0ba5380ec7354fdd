-- The pair with the key is in the tree where the key is below the edge, and else in the row.
use Rattle.std.proofs.Common.{◌∙◌, ◌++◌, ap, sym, subst, arith, length}
use Rattle.partials.specs.Apart.{AreFrom, row_reach}
use Rattle.partials.proofs.RowFacts.{absent_before, absent_behind, from_replaced, near_before_row, near_in_row, replaced_inside, replaced_near, there_inside, there_near, value_inside, value_near, value_there}
use Rattle.partials.proofs.partials.Partials.extend.Goals as goal

pub extend_in-requires-clause-there : goal.extend_in-requires-clause-there
extend_in-requires-clause-there g c =
    let s = c.self.inside in
    there_inside c.args.low (g.T.AggTree.table s.tree).pairs s.near.pairs (rw (← c.self.view_is) at c.requires) (absent_before s.edge c.args.low s.near.pairs c.if-low-self.true c.self.invariant.from)

pub invariant_of-self : goal.invariant_of-self
invariant_of-self g c =
    let s = c.self.inside in
    record {
      below = c.extend_in.ensures.below s.edge c.self.invariant.below;
      from = c.self.invariant.from;
      few = c.self.invariant.few;
    }

pub returns-then-low-self-clause-extended : goal.returns-then-low-self-clause-extended
returns-then-low-self-clause-extended g c b is e =
    let s = c.self.inside in
    let xs = (g.T.AggTree.table s.tree).pairs in
    let absent = absent_before s.edge c.args.low s.near.pairs c.if-low-self.true c.self.invariant.from in
    rw (← c.self.view_is)
    (ap (λ l. l ++ s.near.pairs) (c.extend_in.ensures.extended b is (sym (value_inside c.args.low xs s.near.pairs absent) ∙ (rw (← c.self.view_is) at e)))
    ∙ sym (replaced_inside c.args.low (g.M.Monoid.op b c.args.more.now) xs s.near.pairs absent))

pub extend-requires : goal.extend-requires
extend-requires g c =
    let s = c.self.inside in
    let xs = (g.T.AggTree.table s.tree).pairs in
    there_near c.args.low xs s.near.pairs (rw (← c.self.view_is) at c.requires) (absent_behind s.edge c.args.low xs c.if-low-self.false c.self.invariant.below)

pub invariant_of-self-else-low-self : goal.invariant_of-self-else-low-self
invariant_of-self-else-low-self g c =
    let s = c.self.inside in
    let xs = (g.T.AggTree.table s.tree).pairs in
    let there = value_there c.args.low s.near.pairs (there_near c.args.low xs s.near.pairs (rw (← c.self.view_is) at c.requires) (absent_behind s.edge c.args.low xs c.if-low-self.false c.self.invariant.below)) in
    record {
      below = c.self.invariant.below;
      from = subst (AreFrom s.edge) (sym (c.extend.ensures.extended there.0 there.1)) (from_replaced s.edge c.args.low (g.M.Monoid.op there.0 c.args.more.now) s.near.pairs c.self.invariant.from);
      few = omega (arith, c.self.invariant.few, c.extend.ensures.count);
    }

pub returns-else-low-self-clause-extended : goal.returns-else-low-self-clause-extended
returns-else-low-self-clause-extended g c b is e =
    let s = c.self.inside in
    let xs = (g.T.AggTree.table s.tree).pairs in
    let absent = absent_behind s.edge c.args.low xs c.if-low-self.false c.self.invariant.below in
    rw (← c.self.view_is)
    (ap (λ l. xs ++ l) (c.extend.ensures.extended b (sym (value_near c.args.low xs s.near.pairs absent) ∙ (rw (← c.self.view_is) at e)))
    ∙ sym (replaced_near c.args.low (g.M.Monoid.op b c.args.more.now) xs s.near.pairs absent))

pub returns-then-low-self-clause-near : goal.returns-then-low-self-clause-near
returns-then-low-self-clause-near g c =
    let t = g.T.AggTree in
    let s = c.self.inside in
    rw (← c.self.view_is)
    (near_before_row t.near c.args.low (t.table s.tree).pairs s.near.pairs (t.reach s.tree) (row_reach (length s.near.pairs)) 2 _ _ c.extend_in.ensures.near)

pub returns-else-low-self-clause-near : goal.returns-else-low-self-clause-near
returns-else-low-self-clause-near g c =
    near_in_row g.T.AggTree.near _ _ 2 _ _ (omega (arith, c.extend.ensures.cost))
