-- The edge is the mark at the place behind the time, or the final time where there is none.
use Rattle.std.proofs.Common.{get_or, arith}
use Rattle.std.proofs.lemmas.List.Elements.{Contains-get_or}
use Rattle.plain_windows.proofs.EdgeFacts.{final_is_edge, mark_is_edge, none_after, first_after}
use Rattle.plain_windows.proofs.stretches.edge_after.Goals as goal

pub returns-then-place-marks-clause-edge : goal.returns-then-place-marks-clause-edge
returns-then-place-marks-clause-edge c = final_is_edge c.args.view.now.marks

pub returns-then-place-marks-clause-first : goal.returns-then-place-marks-clause-first
returns-then-place-marks-clause-first c =
    rw (← c.view.view_is) (none_after c.view.inside.marks.now c.args.time c.marks_before-place.result c.view.invariant.rising c.requires c.marks_before-place.ensures (omega arith))

pub returns-else-place-marks-clause-edge : goal.returns-else-place-marks-clause-edge
returns-else-place-marks-clause-edge c =
    rw (← c.view.view_is)
    (mark_is_edge c.view.inside.marks.now (get_or c.view.inside.marks.now c.marks_before-place.result 0)
    (Contains-get_or c.view.inside.marks.now c.marks_before-place.result 0 (omega (arith, c.marks_before-place.ensures.within))))

pub returns-else-place-marks-clause-first : goal.returns-else-place-marks-clause-first
returns-else-place-marks-clause-first c =
    rw (← c.view.view_is) (first_after c.view.inside.marks.now c.args.time c.marks_before-place.result c.view.invariant.rising c.requires c.marks_before-place.ensures c.view.invariant.mark_times (omega (arith, c.marks_before-place.ensures.within)))
