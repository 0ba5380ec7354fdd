-- A row of the window is counted, and another is passed over.
use Rattle.std.proofs.Common.{◌+◌, sym, subst}
use Rattle.emission_text.proofs.Tallies.{IsTallyUpTo, counted_on, passed_on}
use Rattle.emission_text.proofs.tally.Tally.of_window.Goals as goal
use Rattle.emission_text.proofs.tally.Tally.of_window.Goals.{then-row-window, else-row-window}

pub loop-row-preserved : goal.loop-row-preserved
loop-row-preserved c =
    let rows = c.args.rows.now in
    let i = c.loop-row.row-index in
    let at = IsTallyUpTo c.args.window rows (i + 1) in
    elim c.if-row-window.branch [
      | then-row-window w ↦ subst at (sym w.tally-is) (counted_on c.args.window rows i c.row-item.result c.loop-row.tally w.add.new.self c.loop-row-test.true c.row-item.is w.if-row-window.true c.loop-row.invariant w.add.ensures.counted w.add.ensures.grew)
      | else-row-window w ↦ subst at (sym w.tally-is) (passed_on c.args.window rows i c.row-item.result c.loop-row.tally c.loop-row-test.true c.row-item.is w.if-row-window.false c.loop-row.invariant)
    ]
