-- What is pending, and then the lines of the shards that are left, is what is left of all.
use Rattle.std.proofs.Common.{◌++◌, drop}
use Rattle.emission_text.specs.Report.{lines_from}
use Rattle.report_lines.specs.Forms.{form_of}
use Rattle.emission_text.specs.Sending.{AppendsPrefix}
use Rattle.emission_text.proofs.report.put_shards.Given as goal

abbrev pub invariant-loop-k : goal.invariant-loop-k
invariant-loop-k g l =
    AppendsPrefix g.K.Sink.taken g.K.Sink.faults (l.fn.out ++ lines_from (form_of l.form) 0 l.shards) (l.out ++ lines_from (form_of l.form) l.k (drop l.k l.shards)) l.fn.sink l.sink
