-- No pair of the row lies in a range that ends at the edge or before.
use Rattle.std.proofs.Common.{ap, sym}
use Rattle.std.specs.Prelude.{fold}
use Rattle.agg_laws.specs.Pairs.{values_of}
use Rattle.partials.proofs.RowFacts.{none_before}
use Rattle.partials.proofs.partials.fold_from.Goals as goal

pub returns-then-high-edge-clause-value : goal.returns-then-high-edge-clause-value
returns-then-high-edge-clause-value g c =
    sym (ap (λ l. fold g.M.Monoid.op c.args.sum (values_of l)) (none_before c.args.edge c.args.low c.args.high c.args.near.now.pairs c.if-high-edge.true c.requires))
