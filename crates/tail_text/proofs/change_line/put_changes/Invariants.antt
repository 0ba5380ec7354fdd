-- What is pending, and then the lines that are left, is what is left of all.
use Rattle.std.proofs.Common.{◌++◌, drop}
use Rattle.std.specs.List.{flat_map}
use Rattle.emission_text.specs.Sending.{AppendsPrefix}
use Rattle.tail_windows.specs.Report.{tail_line}
use Rattle.tail_text.proofs.change_line.put_changes.Given as goal

abbrev pub invariant-loop-change : goal.invariant-loop-change
invariant-loop-change g l =
    AppendsPrefix g.K.Sink.taken g.K.Sink.faults (l.fn.out ++ flat_map tail_line l.changes) (l.out ++ flat_map tail_line (drop l.change-index l.changes)) l.fn.sink l.sink
