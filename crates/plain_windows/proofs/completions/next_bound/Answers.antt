-- Each window lowers the least to its own.
use Rattle.std.proofs.Common.{◌∙◌, arith, sym}
use Rattle.plain_windows.specs.Changing.{bounds_ahead}
use Rattle.plain_windows.proofs.Ahead.{ahead_of_least, due_of_least, least_end, least_more, nothing_due}
use Rattle.plain_windows.proofs.completions.next_bound.Goals as goal

pub loop-def-preserved : goal.loop-def-preserved
loop-def-preserved c =
    least_more (bounds_ahead c.args.view.now) c.loop-def.least c.next_of_window-least.result c.windows_of-windows.result.now c.loop-def.def-index _ c.loop-def-test.true c.next_of_window-least.ensures
    ∙ c.loop-def.invariant

pub returns-clause-ahead : goal.returns-clause-ahead
returns-clause-ahead c =
    let f = bounds_ahead c.args.view.now in
    rw (← c.windows_of-windows.ensures.value)
    (ahead_of_least c.windows_of-windows.result.now c.args.view.now 18446744073709551615 c.loop-def.least (sym (least_end f c.loop-def.least c.windows_of-windows.result.now c.loop-def.def-index c.loop-def-test.false) ∙ c.loop-def.invariant))

pub returns-clause-due : goal.returns-clause-due
returns-clause-due c =
    let f = bounds_ahead c.args.view.now in
    rw (← c.windows_of-windows.ensures.value)
    (due_of_least c.windows_of-windows.result.now c.args.view.now 18446744073709551615 c.loop-def.least (omega arith) (sym (least_end f c.loop-def.least c.windows_of-windows.result.now c.loop-def.def-index c.loop-def-test.false) ∙ c.loop-def.invariant))

pub returns-clause-nothing : goal.returns-clause-nothing
returns-clause-nothing c = λ key new lt.
    let f = bounds_ahead c.args.view.now in
    rw (← c.windows_of-windows.ensures.value)
    (nothing_due c.windows_of-windows.result.now key c.args.view.now 18446744073709551615 new c.loop-def.least (sym (least_end f c.loop-def.least c.windows_of-windows.result.now c.loop-def.def-index c.loop-def-test.false) ∙ c.loop-def.invariant) lt)
