-- What is pending, and then the lines of the entries that are left, is what is left of all.
use Rattle.std.proofs.Common.{◌++◌}
use Rattle.emission_text.specs.Report.{lines_of}
use Rattle.report_lines.specs.Forms.{form_of}
use Rattle.emission_text.specs.Sending.{AppendsPrefix}
use Rattle.emission_text.proofs.Reports.{lines_behind}
use Rattle.emission_text.proofs.report.put_journal.Given as goal

abbrev pub invariant-loop-position : goal.invariant-loop-position
invariant-loop-position g l =
    AppendsPrefix g.K.Sink.taken g.K.Sink.faults (l.fn.out ++ lines_of (form_of l.form) l.shard) (l.out ++ lines_behind (form_of l.form) l.shard l.position) l.fn.sink l.sink
