-- The edge is the last mark before the place behind the time, or 0 where there is none.
use Rattle.std.proofs.Common.{◌-◌, get_or, arith}
use Rattle.std.proofs.lemmas.List.Elements.{Contains-get_or}
use Rattle.plain_windows.proofs.EdgeFacts.{zero_is_edge, mark_is_edge, none_up_to, last_up_to}
use Rattle.plain_windows.proofs.stretches.edge_up_to.Goals as goal

pub returns-then-place-eq0-clause-edge : goal.returns-then-place-eq0-clause-edge
returns-then-place-eq0-clause-edge c = zero_is_edge c.args.view.now.marks

pub returns-then-place-eq0-clause-last : goal.returns-then-place-eq0-clause-last
returns-then-place-eq0-clause-last c =
    rw (← c.view.view_is) (none_up_to c.view.inside.marks.now c.args.time c.marks_before-place.result c.view.invariant.rising c.requires c.marks_before-place.ensures (omega arith))

pub returns-else-place-eq0-clause-edge : goal.returns-else-place-eq0-clause-edge
returns-else-place-eq0-clause-edge c =
    rw (← c.view.view_is)
    (mark_is_edge c.view.inside.marks.now (get_or c.view.inside.marks.now (c.marks_before-place.result - 1) 0)
    (Contains-get_or c.view.inside.marks.now (c.marks_before-place.result - 1) 0 (omega (arith, c.marks_before-place.ensures.within))))

pub returns-else-place-eq0-clause-last : goal.returns-else-place-eq0-clause-last
returns-else-place-eq0-clause-last c =
    rw (← c.view.view_is) (last_up_to c.view.inside.marks.now c.args.time c.marks_before-place.result c.view.invariant.rising c.requires c.marks_before-place.ensures (omega arith))
