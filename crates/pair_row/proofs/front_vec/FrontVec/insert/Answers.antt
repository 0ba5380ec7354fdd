-- Behind the elements that have left, one more stands at its place.
use Rattle.std.proofs.Common.{◌≡◌, ◌+◌, ◌∙◌, ap, arith, drop, rules}
use Rattle.std.specs.List.{insert}
use Rattle.pair_row.proofs.Fronts.{drop-insert}
use Rattle.pair_row.proofs.front_vec.FrontVec.insert.Goals as goal

pub returns : goal.returns
returns g c =
    let items = c.self.inside.items.items in
    let gone = c.self.inside.gone in
    let placed : c.insert.new.self.items ≡ insert items (gone + c.args.at) c.args.item = search rules in
    record {
      items = rw (← c.self.view_is) (ap (drop gone) placed ∙ drop-insert gone c.args.at items c.args.item (omega (arith, c.self.invariant)));
      spare = grind arith;
    }
