-- The entry, and then its changes.
use Rattle.std.proofs.Common.{◌++◌}
use Rattle.stream_base.specs.Model.Changes.{changes_at}
use Rattle.stream_base.specs.Model.Text.{change_lines, entry_line}
use Rattle.report_lines.specs.Forms.{form_of}
use Rattle.emission_text.proofs.Reports.{lines_at-is}
use Rattle.emission_text.proofs.Sent.{both_put, first_failed, put_failed}
use Rattle.emission_text.proofs.report.put_position.Goals as goal

pub returns-in_err-put_entry : goal.returns-in_err-put_entry
returns-in_err-put_entry g c =
    let form = form_of c.args.form in
    let s = c.args.shard.now in
    rw (lines_at-is form s c.args.position c.entry_at.result c.entry_at.ensures)
    (put_failed (entry_line c.entry_at.result ++ change_lines form (changes_at s.defs s.sources s.journal c.args.position)) c.args.out.now c.put_entry.new.out c.put_entry.new.sink c.from_residual.result c.from_residual.ensures.0
    (first_failed c.args.out.now (entry_line c.entry_at.result) (change_lines form (changes_at s.defs s.sources s.journal c.args.position)) c.in_err-put_entry.ensures))

pub returns : goal.returns
returns g c =
    let form = form_of c.args.form in
    let s = c.args.shard.now in
    rw (lines_at-is form s c.args.position c.entry_at.result c.entry_at.ensures, ← c.changes_at.ensures)
    (both_put c.args.out.now (entry_line c.entry_at.result) (change_lines form c.changes_at.result)
    c.put_changes.new.out c.put_changes.new.sink c.put_changes.result c.in_ok-put_entry.ensures c.put_changes.ensures)
