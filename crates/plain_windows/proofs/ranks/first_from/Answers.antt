-- The least multiple of the count at or after the rank is the start of the run.
use Rattle.std.proofs.Common.{arith}
use Rattle.stream_base.proofs.EventOrder.{times_do_not_fall}
use Rattle.plain_windows.proofs.RankFacts.{counted_rises, first_run_from, no_run_from, no_run_beyond}
use Rattle.plain_windows.proofs.Telling.{tells_none, tells_one}
use Rattle.plain_windows.proofs.ranks.first_from.Goals as goal

pub returns-then-from-kept : goal.returns-then-from-kept
returns-then-from-kept c =
    let kept = c.view.inside.kept.now in
    let rise = counted_rises c.args.run.count c.args.run.within.0 kept c.args.run.within (times_do_not_fall kept c.view.invariant.in_order) in
    rw (← c.view.view_is) (tells_none _ _ (no_run_beyond c.args.run.count c.args.run.within.0 kept rise c.args.from (omega arith)))

pub returns-then-place-kept : goal.returns-then-place-kept
returns-then-place-kept c =
    let kept = c.view.inside.kept.now in
    let rise = counted_rises c.args.run.count c.args.run.within.0 kept c.args.run.within (times_do_not_fall kept c.view.invariant.in_order) in
    rw (← c.view.view_is)
    (tells_one _ _ _ _ c.run_at.ensures.inside c.run_at.ensures.is (first_run_from c.args.run.count c.args.run.within.0 kept rise c.args.from (omega arith)))

pub returns-else-place-kept : goal.returns-else-place-kept
returns-else-place-kept c =
    let kept = c.view.inside.kept.now in
    let rise = counted_rises c.args.run.count c.args.run.within.0 kept c.args.run.within (times_do_not_fall kept c.view.invariant.in_order) in
    rw (← c.view.view_is) (tells_none _ _ (no_run_from c.args.run.count c.args.run.within.0 kept rise c.args.from (omega arith)))
