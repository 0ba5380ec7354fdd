-- The entry, and then its changes.
use Rattle.std.specs.List.{flat_map}
use Rattle.stream_base.specs.Model.Text.{entry_line}
use Rattle.emission_text.proofs.Sent.{both_put, first_failed, put_failed}
use Rattle.tail_windows.specs.Report.{tail_line}
use Rattle.tail_text.specs.Texts.{lines_with}
use Rattle.tail_text.proofs.report.put_position.Goals as goal

pub returns-in_err-put_entry : goal.returns-in_err-put_entry
returns-in_err-put_entry g c =
    put_failed (lines_with c.args.entry.now c.args.changes.now) c.args.out.now c.put_entry.new.out c.put_entry.new.sink c.from_residual.result c.from_residual.ensures.0
    (first_failed c.args.out.now (entry_line c.args.entry.now) (flat_map tail_line c.args.changes.now) c.in_err-put_entry.ensures)

pub returns : goal.returns
returns g c =
    both_put c.args.out.now (entry_line c.args.entry.now) (flat_map tail_line c.args.changes.now)
    c.put_changes.new.out c.put_changes.new.sink c.put_changes.result c.in_ok-put_entry.ensures c.put_changes.ensures
