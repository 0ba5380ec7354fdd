-- The tuple is inserted at its place, which may be the end.
use Rattle.std.proofs.Common.{◌≡◌, ◌∙◌, ap, length, sym, rules}
use Rattle.std.specs.Prelude.{insert}
use Rattle.std.proofs.lemmas.List.Edits.{insert_end}
use Rattle.plain_keys.proofs.Places.{put_there}
use Rattle.plain_keys.proofs.drafts.put_in.Goals as goal

pub returns-then-place-len : goal.returns-then-place-len
returns-then-place-len c =
    let kept = c.args.kept.now.items in
    let place = c.place_of-place.result in
    let end : length kept ≡ place = search rules in
    c.push_reserved.ensures.items
    ∙ sym (insert_end kept c.args.x)
    ∙ ap (λ n. insert kept n c.args.x) end
    ∙ put_there kept c.deref.result.now c.args.x place c.deref.ensures.value c.place_of-place.ensures

pub returns-else-place-len : goal.returns-else-place-len
returns-else-place-len c =
    let put : c.insert.new.self.items ≡ insert c.args.kept.now.items c.place_of-place.result c.args.x = search rules in
    put ∙ put_there c.args.kept.now.items c.deref.result.now c.args.x c.place_of-place.result c.deref.ensures.value c.place_of-place.ensures
