-- The reports were read, and what comes of their texts is what comes of the files.
use Rattle.std.proofs.Common.{◌≡◌, ◌∙◌, ◌≤◌, List, ℕ, arith, length, map, string_bytes, subst, sym}
use Rattle.std.proofs.lemmas.List.{length-map}
use Rattle.report_check.specs.Findings.{lists_of}
use Rattle.run_inputs.specs.Outside.{opens_of}
use Rattle.part_run.specs.declared.part_fault.PartFault.TheVariants.{Run}
use Rattle.part_run.specs.Joining.{AreTexts, IsJoinOf, IsJoinOfFiles, StopsAtTexts, StopsJoin}
use Rattle.part_run.proofs.Answering.{answers_as, stops}
use Rattle.part_run.proofs.Joins.{join_of_files, no_usage, stops_files}
use Rattle.part_run.proofs.join.join.Goals as goal

pub returns-in-Ok-clause-answer : goal.returns-in-Ok-clause-answer
returns-in-Ok-clause-answer g c =
    let k = g.K.Sink in
    let names = map string_bytes c.args.names.now in
    let opens = opens_of g.F.Files.asked g.F.Files.came c.args.files.now c.read_reports.new.files in
    let texts = lists_of c.deref.result.now in
    let read : AreTexts names opens texts = subst (λ ts. AreTexts names opens (lists_of ts)) (sym c.deref.ensures.value) c.in-Ok.ensures.ok in
    answers_as k.taken k.faults (IsJoinOf texts) (IsJoinOfFiles names opens) (StopsAtTexts texts) (StopsJoin names opens) (join_of_files names opens texts read) (stops_files names opens texts read)
    c.args.sink.now c.join_texts.new.sink c.join_texts.result c.join_texts.ensures

pub returns-in-Err-clause-answer : goal.returns-in-Err-clause-answer
returns-in-Err-clause-answer g c =
    let k = g.K.Sink in
    let names = map string_bytes c.args.names.now in
    let opens = opens_of g.F.Files.asked g.F.Files.came c.args.files.now c.read_reports.new.files in
    stops k.taken k.faults (IsJoinOfFiles names opens) (StopsJoin names opens) c.args.sink.now c.print_fault.new.sink (Run c.in-Err.fault) c.print_fault.result c.print_fault.ensures.status (no_usage names opens) c.in-Err.ensures.stopped c.print_fault.ensures.said
