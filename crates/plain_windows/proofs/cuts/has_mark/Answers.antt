-- The mark at the place is the first after the earlier time.
use Rattle.std.proofs.Common.{sym, arith}
use Rattle.plain_windows.proofs.Neighbours.{first_mark_decides, no_mark}
use Rattle.plain_windows.proofs.cuts.has_mark.Goals as goal

pub returns-then-place-marks : goal.returns-then-place-marks
returns-then-place-marks c =
    rw (← c.view.view_is)
    (sym (first_mark_decides c.view.inside.marks.now c.args.times.low c.args.times.high c.marks_before-place.result c.view.invariant.rising c.marks_before-place.ensures (omega arith)))

pub returns-else-place-marks : goal.returns-else-place-marks
returns-else-place-marks c =
    rw (← c.view.view_is)
    (no_mark c.view.inside.marks.now c.args.times.low c.args.times.high c.marks_before-place.result c.marks_before-place.ensures (omega arith))
