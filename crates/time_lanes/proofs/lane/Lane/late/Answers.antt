-- What is told are the changes of the tuple.
use Rattle.std.proofs.Common.{◌≡◌, ◌∙◌, ◌+◌, ◌*◌, ◌++◌, ap, sym, subst}
use Rattle.std.specs.Int.{w64}
use Rattle.std.proofs.lemmas.Bool.{false≢true}
use Rattle.std.proofs.lemmas.Int.{to_z-of_z}
use Rattle.stream_base.specs.declared.def.Def.{Def}
use Rattle.stream_base.specs.Model.Changes.{emissions}
use Rattle.stream_base.specs.Model.Moments.{moment}
use Rattle.window_laws.specs.After.{with_tuple}
use Rattle.time_lanes.specs.Late.{IsLate}
use Rattle.time_lanes.specs.Shared.{IsSharedAt}
use Rattle.time_lanes.proofs.SharedFacts.{shared_at}
use Rattle.time_lanes.proofs.LateFacts.{lane_joined, lane_late}
use Rattle.time_lanes.specs.Joined.{is_order_free}
use Rattle.time_lanes.proofs.ServedFacts.{same_window, span_of_kind}
use Rattle.time_lanes.proofs.lane.Lane.late.Goals as goal

pub returns-then-is_order_free-clause-changes : goal.returns-then-is_order_free-clause-changes
returns-then-is_order_free-clause-changes g c = λ def gone before marks x stands own late.
    let d = c.serve.result.def in
    let s = (g.S.AggStore.stored c.args.store.now) in
    let same : def ≡ d = same_window c.args.defs.now.windows c.args.window def d stands c.serve.ensures.stands in
    let here = subst (λ (e : Def). IsLate e c.args.time c.args.water gone before x c.args.formers.now s) same late in
    let out = c.append_joined.new.out.items in
    let free = sym c.is_order_free.ensures ∙ c.if-is_order_free.true in
    subst (λ (e : Def). out ≡ c.args.out.now.items ++ emissions c.args.key.now (moment (gone ++ before) marks c.args.water) (with_tuple (moment (gone ++ before) marks c.args.water) x) (c.args.window, e)) (sym same)
    (lane_joined c.args.window c.args.key.now d c.args.time c.args.water gone before marks x c.args.formers.now s c.serve.ensures.timed c.serve.ensures.within (span_of_kind d.kind c.serve.ensures.timed c.serve.ensures.within) here free c.slice_count.ensures.holds.slices.counted c.serve.result.span.length c.serve.result.span.slide c.complete_at-found.result.first c.complete_at-found.result.count _ c.args.out.now.items out c.serve.ensures.length c.serve.ensures.slide c.complete_at-found.ensures.starts (to_z-of_z w64 c.args.value c.ranges.value ∙ sym own)
    c.append_joined.ensures.told)

pub returns-else-is_order_free-clause-changes : goal.returns-else-is_order_free-clause-changes
returns-else-is_order_free-clause-changes g c = λ def gone before marks x stands own late.
    let d = c.serve.result.def in
    let s = (g.S.AggStore.stored c.args.store.now) in
    let same : def ≡ d = same_window c.args.defs.now.windows c.args.window def d stands c.serve.ensures.stands in
    let here = subst (λ (e : Def). IsLate e c.args.time c.args.water gone before x c.args.formers.now s) same late in
    let out = c.append_late.new.out.items in
    subst (λ (e : Def). out ≡ c.args.out.now.items ++ emissions c.args.key.now (moment (gone ++ before) marks c.args.water) (with_tuple (moment (gone ++ before) marks c.args.water) x) (c.args.window, e)) (sym same)
    (lane_late c.args.window c.args.key.now d c.args.time c.args.water gone before marks x c.args.formers.now s c.serve.ensures.timed c.serve.ensures.within (span_of_kind d.kind c.serve.ensures.timed c.serve.ensures.within) here c.serve.result.span.length c.serve.result.span.slide c.complete_at-found.result.first c.complete_at-found.result.count c.args.out.now.items out c.serve.ensures.length c.serve.ensures.slide c.complete_at-found.ensures.starts
    c.append_late.ensures.told)

pub returns-else-is_order_free-clause-shared : goal.returns-else-is_order_free-clause-shared
returns-else-is_order_free-clause-shared g c = λ def stands.
    let d = c.serve.result.def in
    let s = (g.S.AggStore.stored c.args.store.now) in
    let same : def ≡ d = same_window c.args.defs.now.windows c.args.window def d stands c.serve.ensures.stands in
    let later = c.append_late.new.steps in
    subst (λ (e : Def). IsSharedAt e.kind c.args.time c.args.water s c.args.steps.now later) (sym same)
    (shared_at d.kind c.args.time c.args.water s c.serve.result.span c.complete_at-found.result (64 * (s.reach + 2)) c.args.steps.now later c.serve.ensures.length c.serve.ensures.slide c.complete_at-found.ensures.starts c.complete_at-found.ensures.within c.complete_at-found.ensures.holds c.append_late.ensures.cost c.append_late.ensures.shared)

pub returns-else-is_order_free-clause-order_free : goal.returns-else-is_order_free-clause-order_free
returns-else-is_order_free-clause-order_free g c = λ def stands free.
    let same : def ≡ c.serve.result.def = same_window c.args.defs.now.windows c.args.window def c.serve.result.def stands c.serve.ensures.stands in
    absurd (false≢true (sym c.if-is_order_free.false ∙ c.is_order_free.ensures ∙ ap (λ (e : Def). is_order_free e.func) (sym same) ∙ free))
