-- The part was written, or a fault's line.
use Rattle.std.proofs.Common.{subst}
use Rattle.run_inputs.specs.Outside.{opens_of}
use Rattle.part_run.specs.Parting.{HoldsPartOfFiles, IsShortPart, StopsPart}
use Rattle.part_run.specs.declared.part_fault.PartFault.TheVariants.{Run, LongPart}
use Rattle.part_run.proofs.Answering.{stops, writes}
use Rattle.part_run.proofs.Parting.{long_of_files, no_usage, short_of_files}
use Rattle.part_run.proofs.part.part.Goals as goal

pub returns-in-Ok-Some-clause-answer : goal.returns-in-Ok-Some-clause-answer
returns-in-Ok-Some-clause-answer g c =
    let k = g.K.Sink in
    let own = c.args.command.now in
    let opens = opens_of g.F.Files.asked g.F.Files.came c.args.files.now c.hold_part.new.files in
    let held = subst (HoldsPartOfFiles own opens) c.in-Ok-Some.field-0-is c.in-Ok-Some.ensures.ok in
    let said = c.print_pieces.ensures in
    writes k.taken k.faults (IsShortPart own opens) (StopsPart own opens) c.args.sink.now c.print_pieces.new.sink c.in-Ok-Some.pieces c.print_pieces.result
    (short_of_files own opens c.in-Ok-Some.pieces held) said.either said.done said.failed

pub returns-in-Ok-None-clause-answer : goal.returns-in-Ok-None-clause-answer
returns-in-Ok-None-clause-answer g c =
    let k = g.K.Sink in
    let own = c.args.command.now in
    let opens = opens_of g.F.Files.asked g.F.Files.came c.args.files.now c.hold_part.new.files in
    let held = subst (HoldsPartOfFiles own opens) c.in-Ok-None.field-0-is c.in-Ok-None.ensures.ok in
    stops k.taken k.faults (IsShortPart own opens) (StopsPart own opens) c.args.sink.now c.print_fault.new.sink LongPart c.print_fault.result c.print_fault.ensures.status (no_usage own opens) (long_of_files own opens held) c.print_fault.ensures.said

pub returns-in-Err-clause-answer : goal.returns-in-Err-clause-answer
returns-in-Err-clause-answer g c =
    let k = g.K.Sink in
    let own = c.args.command.now in
    let opens = opens_of g.F.Files.asked g.F.Files.came c.args.files.now c.hold_part.new.files in
    let said = c.print_fault-in-Err.ensures in
    stops k.taken k.faults (IsShortPart own opens) (StopsPart own opens) c.args.sink.now c.print_fault-in-Err.new.sink (Run c.in-Err.fault) c.print_fault-in-Err.result said.status (no_usage own opens) c.in-Err.ensures.stopped said.said
