-- Each complete interval that holds the tuple changes.
use Rattle.std.proofs.Common.{◌≡◌, ◌∙◌, length, subst, sym}
use Rattle.stream_base.specs.declared.def.Def.{Def}
use Rattle.stream_base.specs.Model.Changes.{emissions}
use Rattle.stream_base.specs.Model.Moments.{moment}
use Rattle.window_laws.specs.After.{with_tuple}
use Rattle.time_lanes.specs.Told.{complete_starts}
use Rattle.time_lanes.proofs.LateFacts.{late_number}
use Rattle.time_lanes.proofs.ServedFacts.{same_window}
use Rattle.time_lanes.proofs.lane.Lane.late_count.Goals as goal

pub returns-clause-changes : goal.returns-clause-changes
returns-clause-changes g c = λ def key kept marks x stands at.
    let d = c.window_at-def.result in
    let same : def ≡ d = same_window c.args.defs.now.windows c.args.window def d stands c.window_at-def.ensures.stands in
    let number = c.complete_at.result.count in
    subst (λ (e : Def). number ≡ length (emissions key (moment kept marks c.args.water) (with_tuple (moment kept marks c.args.water) x) (c.args.window, e))) (sym same)
    (c.complete_at.ensures.number
    ∙ (λ i. length (complete_starts (c.of.ensures.length i) (c.of.ensures.slide i) c.args.time c.args.water))
    ∙ late_number c.args.window key d c.args.time c.args.water kept marks x c.window_at-def.ensures.timed c.window_at-def.ensures.within at)
