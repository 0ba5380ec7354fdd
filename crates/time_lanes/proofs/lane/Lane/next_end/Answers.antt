-- It is the bound of the first interval that isn't complete.
use Rattle.std.proofs.Common.{◌≡◌, sym, subst}
use Rattle.stream_base.specs.Model.Moments.{moment}
use Rattle.stream_base.specs.declared.def.Def.{Def}
use Rattle.window_laws.specs.Due.{first_open}
use Rattle.agg_store.specs.Stored.{tuples_of}
use Rattle.time_lanes.proofs.EndFacts.{end_is_open}
use Rattle.time_lanes.proofs.ServedFacts.{same_window}
use Rattle.time_lanes.proofs.lane.Lane.next_end.Goals as goal

pub returns : goal.returns
returns g c = λ def marks stands.
    let d = c.serve.result.def in
    let s = (g.S.AggStore.stored c.args.store.now) in
    let same : def ≡ d = same_window c.args.defs.now.windows c.args.window def d stands c.serve.ensures.stands in
    subst (λ (e : Def). c.end_from.result ≡ first_open (moment (tuples_of s) marks c.args.water) e) (sym same)
    (end_is_open d c.serve.result.span.length c.serve.result.span.slide c.next_start.result c.end_from.result (tuples_of s) marks c.args.water c.serve.ensures.timed c.serve.ensures.within c.serve.ensures.length c.serve.ensures.slide c.next_start.ensures.start c.end_from.ensures)
