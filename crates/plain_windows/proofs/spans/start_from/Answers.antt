-- The first interval that holds the first tuple behind the start, or the start's own.
use Rattle.std.proofs.Common.{◌∙◌, ◌/◌, max, ap, sym, arith}
use Rattle.stream_base.specs.declared.limits.TheConstants.{TIME_MAX}
use Rattle.stream_base.proofs.EventOrder.{times_do_not_fall}
use Rattle.plain_windows.proofs.PlaceFacts.{some_tuple}
use Rattle.plain_windows.proofs.SpanFacts.{first_multiple, spans_rise, first_span_from, no_span_from, no_span_beyond}
use Rattle.plain_windows.proofs.spans.start_from.Goals as goal

pub returns-then-from-gt-TIME_MAX-clause-found : goal.returns-then-from-gt-TIME_MAX-clause-found
returns-then-from-gt-TIME_MAX-clause-found c =
    rw (← c.view.view_is) (sym (no_span_beyond c.args.spacing.length c.args.spacing.slide c.args.spacing.within.2 c.args.spacing.within.3 c.view.inside.kept.now c.args.from TIME_MAX c.view.invariant.times (omega arith)))

pub tuples_before-place-requires : goal.tuples_before-place-requires
tuples_before-place-requires c = times_do_not_fall c.view.inside.kept.now c.view.invariant.in_order

pub returns-then-place-kept-clause-found : goal.returns-then-place-kept-clause-found
returns-then-place-kept-clause-found c =
    rw (← c.view.view_is) (sym (no_span_from c.args.spacing.length c.args.spacing.slide c.args.spacing.within.2 c.args.spacing.within.3 c.view.inside.kept.now c.args.from c.tuples_before-place.result (times_do_not_fall c.view.inside.kept.now c.view.invariant.in_order) c.tuples_before-place.ensures (omega arith)))

pub returns-clause-found : goal.returns-clause-found
returns-clause-found c =
    let times = times_do_not_fall c.view.inside.kept.now c.view.invariant.in_order in
    let number = c.max.ensures ∙ ap (λ n. max (first_multiple c.args.spacing.slide c.args.from) (n / c.args.spacing.slide)) c.saturating_sub.ensures in
    rw (← c.view.view_is) (sym (first_span_from c.args.spacing.length c.args.spacing.slide c.args.spacing.within.2 c.args.spacing.within.3 c.view.inside.kept.now c.args.from c.tuples_before-place.result times c.tuples_before-place.ensures some_tuple (omega arith) c.max.result number (spans_rise c.args.spacing.length c.args.spacing.slide c.view.inside.kept.now c.args.spacing.within times)))
