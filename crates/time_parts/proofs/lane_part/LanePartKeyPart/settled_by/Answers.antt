-- Tuples at a time are settled once the watermark minus the lateness has reached the last end of an interval that holds it.
use Rattle.std.proofs.Common.{arith, inl, inr}
use Rattle.std.proofs.lemmas.Bool.{cases_lt}
use Rattle.stream_base.specs.Kinds.{length_of, slide_of}
use Rattle.key_parts.specs.Calls.{window_at, window_kind}
use Rattle.time_parts.specs.Places.{stands_at}
use Rattle.time_parts.specs.Lanes.{open_from}
use Rattle.time_parts.proofs.WindowFacts.{before_is_settled, rest_settles, settled_is_before, span_at}
use Rattle.time_parts.proofs.lane_part.LanePartKeyPart.settled_by.Goals as goal

pub returns-clause-before : goal.returns-clause-before
returns-clause-before g c = λ water below.
    let d = c.args.defs.now in
    let q = c.requires.key.4 in
    let kind = window_kind d c.args.window in
    let span = span_at d c.args.window q.stood.timed q.held.may_leave.kinds in
    let end = c.last_end_holding.ensures.end (window_at d c.args.window) (stands_at d c.args.window q.stood.timed) in
    elim (cases_lt c.args.time (open_from d c.args.window water)) [
      | inr l ↦ l
      | inl l ↦ absurd (omega (arith, end, c.lateness.ensures.value, before_is_settled (length_of kind) (slide_of kind) span d.lateness water c.args.time l))
    ]

pub returns-clause-by_then : goal.returns-clause-by_then
returns-clause-by_then g c = λ water reached.
    let d = c.args.defs.now in
    let q = c.requires.key.4 in
    let kind = window_kind d c.args.window in
    let span = span_at d c.args.window q.stood.timed q.held.may_leave.kinds in
    let end = c.last_end_holding.ensures.end (window_at d c.args.window) (stands_at d c.args.window q.stood.timed) in
    settled_is_before (length_of kind) (slide_of kind) span d.lateness water c.args.time (omega (arith, end, c.lateness.ensures.value))

pub returns-clause-settles : goal.returns-clause-settles
returns-clause-settles g c = λ m n s w water later is at. rest_settles c.args.defs.now c.args.window m n water at.stood.timed at.held.may_leave
