-- What stood of the complete intervals, of which the store holds all tuples.
use Rattle.std.proofs.Common.{◌≡◌, ◌+◌, ◌*◌, ◌++◌, sym, subst}
use Rattle.stream_base.specs.declared.def.Def.{Def}
use Rattle.agg_store.specs.Stored.{tuples_of}
use Rattle.time_lanes.specs.Late.{AreApartAt, formers_of}
use Rattle.time_lanes.specs.Shared.{IsSharedAt}
use Rattle.time_lanes.proofs.SharedFacts.{shared_at}
use Rattle.time_lanes.proofs.LateFacts.{formers_told}
use Rattle.time_lanes.proofs.ServedFacts.{same_window}
use Rattle.time_lanes.proofs.lane.Lane.formers.Goals as goal

pub returns-clause-formers : goal.returns-clause-formers
returns-clause-formers g c = λ def gone stands apart.
    let d = c.serve.result.def in
    let s = (g.S.AggStore.stored c.args.store.now) in
    let same : def ≡ d = same_window c.args.defs.now.windows c.args.window def d stands c.serve.ensures.stands in
    let here = subst (λ (e : Def). AreApartAt e.kind c.args.time gone) same apart in
    let into = c.append_formers.new.into.items in
    subst (λ (e : Def). into ≡ c.args.into.now.items ++ formers_of e c.args.time c.args.water (gone ++ tuples_of s)) (sym same)
    (formers_told d c.args.time c.args.water gone s c.serve.result.span.length c.serve.result.span.slide c.complete_at-found.result.first c.complete_at-found.result.count c.args.into.now.items into c.serve.ensures.length c.serve.ensures.slide c.complete_at-found.ensures.starts here c.append_formers.ensures.told)

pub returns-clause-shared : goal.returns-clause-shared
returns-clause-shared g c = λ def stands.
    let d = c.serve.result.def in
    let s = (g.S.AggStore.stored c.args.store.now) in
    let same : def ≡ d = same_window c.args.defs.now.windows c.args.window def d stands c.serve.ensures.stands in
    let later = c.append_formers.new.steps in
    subst (λ (e : Def). IsSharedAt e.kind c.args.time c.args.water s c.args.steps.now later) (sym same)
    (shared_at d.kind c.args.time c.args.water s c.serve.result.span c.complete_at-found.result (64 * (s.reach + 2)) c.args.steps.now later c.serve.ensures.length c.serve.ensures.slide c.complete_at-found.ensures.starts c.complete_at-found.ensures.within c.complete_at-found.ensures.holds c.append_formers.ensures.cost c.append_formers.ensures.shared)
