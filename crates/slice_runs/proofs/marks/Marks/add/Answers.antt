-- The mark is there, or is put before the first later one.
use Rattle.std.proofs.Common.{◌≡◌, ◌∙◌, refl, sym, rules}
use Rattle.std.specs.Prelude.{insert}
use Rattle.slice_lists.proofs.PlaceFacts.{marked, unmarked}
use Rattle.slice_runs.proofs.marks.Marks.add.Goals as goal

pub returns-then-not-is_marked-clause-added : goal.returns-then-not-is_marked-clause-added
returns-then-not-is_marked-clause-added c =
    let times = c.self.inside.times.items in
    let place = rw (← c.self.view_is) at c.before-place.ensures in
    let put : c.insert.new.self.items ≡ insert times c.before-place.result c.args.time = search rules in
    rw (← c.self.view_is)
    (put ∙ unmarked times times c.deref.result.now c.args.time c.before-place.result refl c.deref.ensures.value place (sym c.is_marked.ensures ∙ c.if-not-is_marked.true))

pub returns-else-not-is_marked-clause-added : goal.returns-else-not-is_marked-clause-added
returns-else-not-is_marked-clause-added c =
    let times = c.self.inside.times.items in
    let place = rw (← c.self.view_is) at c.before-place.ensures in
    rw (← c.self.view_is)
    (marked times times c.deref.result.now c.args.time c.before-place.result refl c.deref.ensures.value place (sym c.is_marked.ensures ∙ c.if-not-is_marked.false))
