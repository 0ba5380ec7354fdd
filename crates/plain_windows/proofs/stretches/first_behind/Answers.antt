-- The stretch of the first tuple at or after the edge.
use Rattle.std.proofs.Common.{sym, subst, arith}
use Rattle.std.specs.List.{Contains}
use Rattle.stream_base.proofs.EventOrder.{times_do_not_fall}
use Rattle.stream_base.specs.Model.Changes.{Moment}
use Rattle.plain_windows.specs.Runs.{edges_of}
use Rattle.plain_windows.proofs.PlaceFacts.{some_tuple}
use Rattle.plain_windows.proofs.EdgeFacts.{no_stretch_behind, first_stretch_behind}
use Rattle.plain_windows.proofs.Telling.{tells_none, tells_one}
use Rattle.plain_windows.proofs.stretches.first_behind.Goals as goal

pub tuples_before-place-requires : goal.tuples_before-place-requires
tuples_before-place-requires c = times_do_not_fall c.view.inside.kept.now c.view.invariant.in_order

pub returns-then-place-kept : goal.returns-then-place-kept
returns-then-place-kept c =
    let v = c.view.inside in
    let edge = subst (λ (m : Moment). Contains (edges_of m.marks) c.args.edge) (sym c.view.view_is) c.requires in
    rw (← c.view.view_is)
    (tells_none _ _ (no_stretch_behind v.marks.now v.kept.now c.args.edge c.tuples_before-place.result (times_do_not_fall v.kept.now c.view.invariant.in_order) edge c.tuples_before-place.ensures (omega arith)))

pub returns : goal.returns
returns c =
    let v = c.view.inside in
    let edge = subst (λ (m : Moment). Contains (edges_of m.marks) c.args.edge) (sym c.view.view_is) c.requires in
    tells_one _ _ _ _ c.interval_over.ensures.inside c.interval_over.ensures.is
    (rw (← c.view.view_is)
    (first_stretch_behind v.marks.now v.kept.now c.args.edge c.tuples_before-place.result (times_do_not_fall v.kept.now c.view.invariant.in_order) edge c.tuples_before-place.ensures some_tuple c.edge_up_to-low.result c.edge_after-high.result (omega (arith, c.tuples_before-place.ensures.within))
    (rw (← c.view.view_is) at c.edge_up_to-low.ensures.edge) c.edge_up_to-low.ensures.up_to (rw (← c.view.view_is) at c.edge_up_to-low.ensures.last)
    (rw (← c.view.view_is) at c.edge_after-high.ensures.edge) c.edge_after-high.ensures.after (rw (← c.view.view_is) at c.edge_after-high.ensures.first)))
