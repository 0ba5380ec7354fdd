-- A copy takes the tuple in at its place.
use Rattle.std.proofs.Common.{◌≡◌, ◌∙◌, refl, rules}
use Rattle.std.specs.Prelude.{insert}
use Rattle.plain_keys.proofs.Places.{put_there}
use Rattle.plain_keys.proofs.drafts.draw_put.Goals as goal

pub returns : goal.returns
returns c =
    let put : c.insert.new.self.items ≡ insert c.args.kept.now c.place_of.result c.args.x = search rules in
    put ∙ put_there c.args.kept.now c.args.kept.now c.args.x c.place_of.result refl c.place_of.ensures
