-- Each window may lower the place.
use Rattle.std.proofs.Common.{arith}
use Rattle.stream_base.specs.Model.Slices.{is_settled_in}
use Rattle.plain_windows.proofs.Turns.{turn_more, turn_of_all}
use Rattle.plain_windows.proofs.slices.first_unsettled.Goals as goal

pub loop-def-preserved : goal.loop-def-preserved
loop-def-preserved c =
    turn_more (λ x. is_settled_in c.lateness-lateness.result c.args.view.now x) c.windows_of-windows.result.now c.loop-def.def-index _ c.args.view.now.kept c.loop-def.first c.first_unsettled_in.result c.min-first.result c.loop-def-test.true (omega arith) c.loop-def.invariant c.first_unsettled_in.ensures

pub returns : goal.returns
returns c =
    rw (← c.windows_of-windows.ensures.value, ← c.lateness-lateness.ensures.value)
    (turn_of_all (λ x. is_settled_in c.lateness-lateness.result c.args.view.now x) c.windows_of-windows.result.now c.loop-def.def-index c.args.view.now.kept c.loop-def.first (omega arith) c.loop-def.invariant)
