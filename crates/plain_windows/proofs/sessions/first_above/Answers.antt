-- The session that holds the first tuple less than the gap before the watermark, or behind it.
use Rattle.std.proofs.Common.{arith}
use Rattle.stream_base.proofs.EventOrder.{times_do_not_fall}
use Rattle.plain_windows.proofs.PlaceFacts.{some_tuple}
use Rattle.plain_windows.proofs.RunFacts.{session_above, no_session_above}
use Rattle.plain_windows.proofs.Telling.{tells_none, tells_one}
use Rattle.plain_windows.proofs.sessions.first_above.Goals as goal

pub tuples_before-place-requires : goal.tuples_before-place-requires
tuples_before-place-requires c = times_do_not_fall c.view.inside.kept.now c.view.invariant.in_order

pub returns-then-place-kept : goal.returns-then-place-kept
returns-then-place-kept c =
    rw (← c.view.view_is)
    (tells_none _ _ (no_session_above c.args.gap c.requires.kind.0 c.args.water c.saturating_sub.result c.saturating_sub.ensures c.view.inside.kept.now c.tuples_before-place.result c.tuples_before-place.ensures (omega arith)))

pub returns : goal.returns
returns c =
    tells_one _ _ _ _ c.session_over.ensures.inside c.session_over.ensures.is
    (rw (← c.view.view_is)
    (session_above c.args.gap c.requires.kind.0 c.args.water c.saturating_sub.result c.saturating_sub.ensures c.view.inside.kept.now c.tuples_before-place.result c.tuples_before-place.ensures c.start_of.result c.end_of-end.result some_tuple c.start_of.ensures.before c.end_of-end.ensures.behind c.end_of-end.ensures.within c.start_of.ensures.run))
