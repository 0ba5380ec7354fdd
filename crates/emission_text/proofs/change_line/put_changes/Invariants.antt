-- What is pending, and then the lines that are left, is what is left of all.
use Rattle.std.proofs.Common.{◌++◌, drop}
use Rattle.std.specs.List.{flat_map}
use Rattle.report_lines.specs.Forms.{form_of}
use Rattle.emission_text.specs.Sending.{AppendsPrefix}
use Rattle.emission_text.proofs.change_line.put_changes.Given as goal

abbrev pub invariant-loop-at : goal.invariant-loop-at
invariant-loop-at g l =
    AppendsPrefix g.K.Sink.taken g.K.Sink.faults (l.fn.out ++ flat_map (form_of l.form).line l.changes) (l.out ++ flat_map (form_of l.form).line (drop l.at l.changes)) l.fn.sink l.sink
