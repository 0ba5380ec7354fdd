-- The definitions were written, or a fault's line.
use Rattle.std.proofs.Common.{subst, sym}
use Rattle.run_inputs.specs.Outside.{opens_of}
use Rattle.part_run.specs.Parting.{AreDefsOfFile, StopsDefs}
use Rattle.part_run.proofs.Answering.{stops, writes}
use Rattle.part_run.proofs.Parting.{no_usage_in_defs}
use Rattle.part_run.proofs.defs.defs.Goals as goal

pub returns-in-Ok-clause-answer : goal.returns-in-Ok-clause-answer
returns-in-Ok-clause-answer g c =
    let k = g.K.Sink in
    let opens = opens_of g.F.Files.asked g.F.Files.came c.args.files.now c.defs_text.new.files in
    let said = c.print_text.ensures in
    writes k.taken k.faults (AreDefsOfFile opens) (StopsDefs c.args.name.now opens) c.args.sink.now c.print_text.new.sink c.deref.result.now c.print_text.result
    (subst (AreDefsOfFile opens) (sym c.deref.ensures.value) c.in-Ok.ensures.spelled) said.either said.done said.failed

pub returns-in-Err-clause-answer : goal.returns-in-Err-clause-answer
returns-in-Err-clause-answer g c =
    let k = g.K.Sink in
    let name = c.args.name.now in
    let opens = opens_of g.F.Files.asked g.F.Files.came c.args.files.now c.defs_text.new.files in
    stops k.taken k.faults (AreDefsOfFile opens) (StopsDefs name opens) c.args.sink.now c.print_fault.new.sink c.in-Err.fault c.print_fault.result c.print_fault.ensures.status (no_usage_in_defs name opens) c.in-Err.ensures.stopped c.print_fault.ensures.said
