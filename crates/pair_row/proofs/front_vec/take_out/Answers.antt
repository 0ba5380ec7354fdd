-- Behind the elements that have left, the first one leaves or one from the middle.
use Rattle.std.proofs.Common.{◌∙◌, ap, drop, arith}
use Rattle.pair_row.proofs.Fronts.{drop-first, drop-remove}
use Rattle.pair_row.proofs.front_vec.take_out.Goals as goal

pub returns-clause-items : goal.returns-clause-items
returns-clause-items g c =
    let items = c.args.items.now.items in
    let gone = c.args.gone in
    ap (drop gone) c.remove.ensures.items ∙ drop-remove gone c.args.at items (omega arith)

pub returns-then-at-eq0-clause-items : goal.returns-then-at-eq0-clause-items
returns-then-at-eq0-clause-items g c = drop-first c.args.gone c.args.at c.args.items.now.items c.if-at-eq0.true
