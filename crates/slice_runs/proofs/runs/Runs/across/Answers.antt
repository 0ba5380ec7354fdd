-- None has begun, or the last that has ends before the time.
use Rattle.std.proofs.Common.{ap, arith, subst}
use Rattle.stream_base.specs.Model.Windows.{first_time}
use Rattle.stream_base.specs.Places.{IsPlaceOf}
use Rattle.slice_lists.specs.declared.slice.Slice.{Slice}
use Rattle.slice_lists.proofs.MarkFacts.{last_ended, none_begun}
use Rattle.slice_runs.proofs.runs.Runs.across.Goals as goal

pub returns-then-begun-eq0-clause-none : goal.returns-then-begun-eq0-clause-none
returns-then-begun-eq0-clause-none c =
    none_begun c.args.self.now.slices c.args.time c.before-begun.ensures.holds.ordered (subst (λ n. IsPlaceOf first_time c.args.self.now.slices c.args.time n) c.if-begun-eq0.true c.before-begun.ensures.place)

pub returns-then-slice-time-clause-none : goal.returns-then-slice-time-clause-none
returns-then-slice-time-clause-none c =
    last_ended c.args.self.now.slices c.args.time c.before-begun.ensures.holds.ordered c.before-begun.result c.before-begun.ensures.place (omega arith)
    (omega (arith, ap (λ (s : Slice). s.high) c.slice.ensures.shown, c.if-slice-time.true))
