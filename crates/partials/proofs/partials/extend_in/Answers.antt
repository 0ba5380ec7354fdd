-- The sum takes the place of the partial that was read, and its key stays.
use Rattle.std.proofs.Common.{◌∙◌, ap, sym, subst, arith}
use Rattle.agg_laws.specs.Pairs.{distance, replaced}
use Rattle.partials.specs.Apart.{AreBelow}
use Rattle.partials.proofs.RowFacts.{below_replaced, near_in_tree}
use Rattle.partials.proofs.partials.extend_in.Goals as goal

pub returns-clause-extended : goal.returns-clause-extended
returns-clause-extended g c =
    let xs = (g.T.AggTree.table c.args.tree.now).pairs in
    λ b v e. c.set.ensures.replaces.replaced ∙ ap (λ s. replaced c.args.low s xs) (c.combine.ensures.value ∙ ap (λ own. g.M.Monoid.op own c.args.more.now) (c.read_in-own.ensures.value b v e))

pub returns-clause-below : goal.returns-clause-below
returns-clause-below g c =
    λ edge below. subst (AreBelow edge) (sym c.set.ensures.replaces.replaced) (below_replaced edge c.args.low c.combine.result (g.T.AggTree.table c.args.tree.now).pairs below)

pub returns-clause-near : goal.returns-clause-near
returns-clause-near g c =
    let t = g.T.AggTree in
    let tree = c.args.tree.now in
    near_in_tree t.near (distance c.args.low (t.table tree).pairs) (t.reach tree) 2 _ _ c.args.steps.now _ _ c.set.ensures.near
    (omega (arith, c.read_in-own.ensures.cost, c.combine.ensures.counted))
