-- The tuple takes the place of its stand-in.
use Rattle.std.proofs.Common.{◌∙◌, set, sym, refl}
use Rattle.plain_keys.specs.States.{stand_in}
use Rattle.plain_keys.proofs.Keeps.{put_set}
use Rattle.plain_keys.proofs.Places.{place_is}
use Rattle.plain_keys.proofs.drafts.fill_in.Goals as goal

pub returns : goal.returns
returns c =
    (λ i. set (c.requires.stands_in i) (sym (place_is c.args.kept.now c.args.x.time c.place_of-place.result c.args.x c.place_of-place.ensures) i) c.args.x)
    ∙ put_set c.args.kept.now (stand_in c.args.x.time) c.args.x refl
