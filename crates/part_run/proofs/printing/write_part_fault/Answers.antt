-- The line of the fault of each arm.
use Rattle.std.proofs.Common.{subst, sym}
use Rattle.emission_text.specs.Sending.{Writes}
use Rattle.part_run.specs.Faults.{part_fault_line}
use Rattle.part_run.specs.declared.part_fault.PartFault.{PartFault}
use Rattle.part_run.proofs.printing.write_part_fault.Goals as goal

pub returns-in-NotReport : goal.returns-in-NotReport
returns-in-NotReport g c =
    let k = g.K.Sink in
    subst (λ (f : PartFault). Writes k.taken k.faults (part_fault_line f) c.args.sink.now c.write_not_report.new.sink c.write_not_report.result) (sym c.in-NotReport.is) c.write_not_report.ensures

pub returns-in-Misplaced : goal.returns-in-Misplaced
returns-in-Misplaced g c =
    let k = g.K.Sink in
    subst (λ (f : PartFault). Writes k.taken k.faults (part_fault_line f) c.args.sink.now c.write_misplaced.new.sink c.write_misplaced.result) (sym c.in-Misplaced.is) c.write_misplaced.ensures
