-- The session that begins at the first start behind the place of the time.
use Rattle.std.proofs.Common.{◌∙◌, arith}
use Rattle.stream_base.proofs.EventOrder.{times_do_not_fall}
use Rattle.plain_windows.proofs.PlaceFacts.{some_tuple}
use Rattle.plain_windows.proofs.RunFacts.{session_at, no_session_behind}
use Rattle.plain_windows.proofs.Telling.{tells_none, tells_one}
use Rattle.plain_windows.proofs.sessions.first_from.Goals as goal

pub tuples_before-requires : goal.tuples_before-requires
tuples_before-requires c = times_do_not_fall c.view.inside.kept.now c.view.invariant.in_order

pub returns-then-first-kept : goal.returns-then-first-kept
returns-then-first-kept c =
    rw (← c.view.view_is)
    (tells_none _ _ (c.start_behind-first.ensures.none_between c.args.from c.tuples_before.ensures ∙ no_session_behind c.args.gap c.args.from c.view.inside.kept.now c.start_behind-first.result (omega arith)))

pub returns : goal.returns
returns c =
    tells_one _ _ _ _ c.session_over.ensures.inside c.session_over.ensures.is
    (rw (← c.view.view_is)
    (c.start_behind-first.ensures.none_between c.args.from c.tuples_before.ensures
    ∙ session_at c.args.gap c.args.from c.view.inside.kept.now c.tuples_before.result c.start_behind-first.result c.end_of.result some_tuple c.tuples_before.ensures c.start_behind-first.ensures.behind c.end_of.ensures.behind c.end_of.ensures.within c.end_of.ensures.run))
