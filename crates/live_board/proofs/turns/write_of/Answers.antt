use Rattle.std.proofs.Common.{◌∙◌, ◌+◌, ◌++◌, ◌∷◌, [], Some, ap, subst, sym, take}
use Rattle.std.specs.Prelude.{slice_get}
use Rattle.live_board.specs.Rule.{sources_of}
use Rattle.live_board.proofs.TurnFacts.{has_next, of_source, ok_more, source_at, with_none, with_source}
use Rattle.live_board.specs.Authoring.{IsAuthor}
use Rattle.live_board.specs.Tallies.{turn}
use Rattle.live_board.specs.Turning.{before_turn}
use Rattle.live_board.proofs.turns.write_of.Goals as goal

pub write_one-requires-clause-next : goal.write_one-requires-clause-next
write_one-requires-clause-next g c κs within =
    has_next c.args.course.now c.args.by c.args.n c.args.i c.in-Some.entry.now c.requires.first c.requires.entries c.requires.within (of_source c.args.course.now c.args.i c.requires.source)
    (ap (λ l. slice_get l c.args.n) (source_at c.args.course.now c.args.i c.index-course-i.result c.requires.source ∙ sym c.deref.ensures.value) ∙ c.in-Some.ensures.some)

pub returns-in-None-clause-ok : goal.returns-in-None-clause-ok
returns-in-None-clause-ok g c =
    with_none c.args.course.now c.args.by c.args.n c.args.i (of_source c.args.course.now c.args.i c.requires.source)
    (ap (λ l. slice_get l c.args.n) (source_at c.args.course.now c.args.i c.index-course-i.result c.requires.source ∙ sym c.deref.ensures.value) ∙ c.in-None.ensures.none)
    c.requires.first

pub returns-in-Some-clause-ok : goal.returns-in-Some-clause-ok
returns-in-Some-clause-ok g c =
    let course = c.args.course.now in
    let sources = sources_of course in
    let by = c.args.by in
    let e = c.in-Some.entry.now in
    let new = c.write_one.result.0 in
    ok_more c.write_one.result.1 (IsAuthor course (by.shard.journal ++ e ∷ []) new) (IsAuthor course (before_turn sources c.args.n ++ turn (take (c.args.i + 1) sources) c.args.n) new)
    (λ h. with_source course by new c.args.n c.args.i (Some e) (of_source course c.args.i c.requires.source)
    (ap (λ l. slice_get l c.args.n) (source_at course c.args.i c.index-course-i.result c.requires.source ∙ sym c.deref.ensures.value) ∙ c.in-Some.ensures.some)
    (subst (λ j. IsAuthor course (j ++ e ∷ []) new) c.requires.first.applied h))
    c.write_one.ensures.ok
