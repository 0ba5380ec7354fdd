-- The line of each change is one part more.
use Rattle.std.specs.List.{flat_map}
use Rattle.emission_text.proofs.Sent.{item_put, item_failed, put_failed}
use Rattle.tail_windows.specs.Report.{tail_line}
use Rattle.tail_text.proofs.change_line.put_changes.Goals as goal

pub returns-in_err-put_change : goal.returns-in_err-put_change
returns-in_err-put_change g c =
    put_failed (flat_map tail_line c.args.changes.now) c.args.out.now c.put_change.new.out c.put_change.new.sink c.from_residual.result c.from_residual.ensures.0
    (item_failed tail_line c.args.changes.now c.loop-change.change-index c.change-item.result c.loop-change.out c.loop-change-test.true c.change-item.is c.loop-change.invariant c.in_err-put_change.ensures)

pub loop-change-preserved : goal.loop-change-preserved
loop-change-preserved g c =
    item_put tail_line c.args.changes.now c.loop-change.change-index c.change-item.result c.loop-change.out c.loop-change-test.true c.change-item.is c.loop-change.invariant c.in_ok-put_change.ensures
