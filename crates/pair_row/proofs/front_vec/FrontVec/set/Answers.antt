-- Behind the elements that have left, another one stands at its place.
use Rattle.std.proofs.lemmas.List.{drop-set-add}
use Rattle.pair_row.proofs.front_vec.FrontVec.set.Goals as goal

pub returns-clause-items : goal.returns-clause-items
returns-clause-items g c =
    rw (← c.self.view_is) (drop-set-add c.self.inside.gone c.self.inside.items.items c.args.at c.args.item)
