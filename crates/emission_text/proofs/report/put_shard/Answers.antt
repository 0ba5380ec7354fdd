-- The header, and then the journal.
use Rattle.std.proofs.Common.{◌++◌}
use Rattle.report_lines.specs.Lines.{header_line}
use Rattle.emission_text.specs.Report.{lines_of}
use Rattle.report_lines.specs.Forms.{form_of}
use Rattle.emission_text.proofs.Sent.{both_put, first_failed, put_failed}
use Rattle.emission_text.proofs.report.put_shard.Goals as goal

pub returns-in_err-put_header : goal.returns-in_err-put_header
returns-in_err-put_header g c =
    put_failed (header_line c.args.k ++ lines_of (form_of c.args.form) c.args.shard.now) c.args.out.now c.put_header.new.out c.put_header.new.sink c.from_residual.result c.from_residual.ensures.0 (first_failed c.args.out.now (header_line c.args.k) (lines_of (form_of c.args.form) c.args.shard.now) c.in_err-put_header.ensures)

pub returns : goal.returns
returns g c =
    both_put c.args.out.now (header_line c.args.k) (lines_of (form_of c.args.form) c.args.shard.now) c.put_journal.new.out c.put_journal.new.sink c.put_journal.result c.in_ok-put_header.ensures c.put_journal.ensures
