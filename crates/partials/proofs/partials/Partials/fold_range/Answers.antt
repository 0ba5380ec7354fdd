-- What the tree has in the range costs at most half, and so does what the row has.
use Rattle.std.proofs.Common.{length, ap, arith, length-append}
use Rattle.std.specs.Prelude.{◌&&◌, nat_le, nat_lt}
use Rattle.std.proofs.lemmas.List.Elements.{filter-append}
use Rattle.agg_laws.specs.Pairs.{within}
use Rattle.partials.proofs.RowFacts.{row_folds}
use Rattle.partials.proofs.partials.Partials.fold_range.Goals as goal

pub returns-clause-work : goal.returns-clause-work
returns-clause-work g c =
    let low = c.args.low in
    let high = c.args.high in
    let xs = (g.T.AggTree.table c.self.inside.tree).pairs in
    let near = c.self.inside.near.pairs in
    let both = ap length (filter-append (λ p. nat_le low p.0 && nat_lt p.0 high) xs near) in
    rw (← c.self.view_is)
    (record {
      cost = omega (arith, c.fold_below-older.ensures.work.cost, c.fold_from.ensures.work.cost, row_folds (length near));
      one_each = omega (arith, c.fold_below-older.ensures.work.one_each, c.fold_from.ensures.work.one_each, both, length-append (within low high xs) (within low high near));
    })
