-- The runs of tuples up to the watermark are complete, and the next one isn't.
use Rattle.std.proofs.Common.{arith}
use Rattle.stream_base.proofs.EventOrder.{times_do_not_fall}
use Rattle.stream_base.specs.declared.limits.TheConstants.{TIME_MAX}
use Rattle.plain_windows.proofs.RankFacts.{counted_rises, first_run_above, no_run_above, no_run_at_all}
use Rattle.plain_windows.proofs.Telling.{tells_none, tells_one}
use Rattle.plain_windows.proofs.ranks.first_above.Goals as goal

pub returns-then-water-ge-TIME_MAX : goal.returns-then-water-ge-TIME_MAX
returns-then-water-ge-TIME_MAX c =
    rw (← c.view.view_is)
    (tells_none _ _ (no_run_at_all c.args.run.count c.args.run.within.0 c.view.inside.kept.now c.args.water TIME_MAX c.view.invariant.times (omega arith)))

pub tuples_before-requires : goal.tuples_before-requires
tuples_before-requires c = times_do_not_fall c.view.inside.kept.now c.view.invariant.in_order

pub returns-then-place-kept : goal.returns-then-place-kept
returns-then-place-kept c =
    let kept = c.view.inside.kept.now in
    let rise = counted_rises c.args.run.count c.args.run.within.0 kept c.args.run.within (times_do_not_fall kept c.view.invariant.in_order) in
    rw (← c.view.view_is)
    (tells_one _ _ _ _ c.run_at.ensures.inside c.run_at.ensures.is (first_run_above c.args.run.count c.args.run.within.0 kept rise c.args.water c.tuples_before.result c.tuples_before.ensures (omega arith)))

pub returns-else-place-kept : goal.returns-else-place-kept
returns-else-place-kept c =
    let kept = c.view.inside.kept.now in
    let rise = counted_rises c.args.run.count c.args.run.within.0 kept c.args.run.within (times_do_not_fall kept c.view.invariant.in_order) in
    rw (← c.view.view_is)
    (tells_none _ _ (no_run_above c.args.run.count c.args.run.within.0 kept rise c.args.water c.tuples_before.result c.tuples_before.ensures (omega arith)))
