-- No pair of the tree lies in a range that begins at the edge or behind.
use Rattle.std.proofs.Common.{◌∙◌, ap, sym}
use Rattle.agg_laws.specs.Laws.{total}
use Rattle.agg_laws.specs.Pairs.{values_of}
use Rattle.partials.proofs.RowFacts.{none_behind}
use Rattle.partials.proofs.partials.fold_below.Goals as goal

pub returns-then-edge-low-clause-value : goal.returns-then-edge-low-clause-value
returns-then-edge-low-clause-value g c =
    c.unit.ensures
    ∙ sym (ap (λ l. total g.M.Monoid.empty g.M.Monoid.op (values_of l)) (none_behind c.args.edge c.args.low c.args.high (g.T.AggTree.table c.args.tree.now).pairs c.if-edge-low.true c.requires))
