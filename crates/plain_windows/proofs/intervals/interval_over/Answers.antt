-- The tuples of the interval stand between the places of its ends.
use Rattle.std.proofs.Common.{sym}
use Rattle.stream_base.proofs.EventOrder.{times_do_not_fall}
use Rattle.plain_windows.proofs.PlaceFacts.{within_is_part, ends_in_order}
use Rattle.plain_windows.proofs.intervals.interval_over.Goals as goal

pub tuples_before-first-requires : goal.tuples_before-first-requires
tuples_before-first-requires c = times_do_not_fall c.view.inside.kept.now c.view.invariant.in_order

pub tuples_before-end-requires : goal.tuples_before-end-requires
tuples_before-end-requires c = times_do_not_fall c.view.inside.kept.now c.view.invariant.in_order

pub overflow_sub-result : goal.overflow_sub-result
overflow_sub-result c = ends_in_order c.args.over.low c.args.over.high c.view.inside.kept.now c.tuples_before-first.result c.tuples_before-end.result c.args.over.in_order c.tuples_before-first.ensures c.tuples_before-end.ensures

pub returns-clause-is : goal.returns-clause-is
returns-clause-is c =
    let part = within_is_part c.args.over.low c.args.over.high c.view.inside.kept.now c.tuples_before-first.result c.tuples_before-end.result c.args.over.in_order c.tuples_before-first.ensures c.tuples_before-end.ensures in
    rw (← c.view.view_is) (λ i. record { low = c.args.over.low; high = c.args.over.high; bound = c.args.over.high; chosen = sym part i })
