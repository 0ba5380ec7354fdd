-- All are reports of their shards, or one isn't.
use Rattle.std.proofs.Common.{refl}
use Rattle.part_laws.specs.Joined.{joined}
use Rattle.report_check.specs.Findings.{lists_of}
use Rattle.report_join.specs.ShardReports.{form_told}
use Rattle.part_run.specs.Joining.{IsJoinOf, StopsAtTexts}
use Rattle.part_run.proofs.Answering.{stops, writes}
use Rattle.part_run.proofs.Joins.{no_usage_in}
use Rattle.part_run.proofs.join.join_texts.Goals as goal

pub returns-in-Err : goal.returns-in-Err
returns-in-Err g c =
    let k = g.K.Sink in
    let texts = lists_of c.args.texts.now in
    stops k.taken k.faults (IsJoinOf texts) (StopsAtTexts texts) c.args.sink.now c.print_fault.new.sink c.in-Err.fault c.print_fault.result c.print_fault.ensures.status (no_usage_in texts)
    (c.tells_second_form-second.result, c.tells_second_form-second.ensures, c.in-Err.ensures.wrong) c.print_fault.ensures.said

pub returns-in-Ok : goal.returns-in-Ok
returns-in-Ok g c =
    let k = g.K.Sink in
    let texts = lists_of c.args.texts.now in
    let second = c.tells_second_form-second.result in
    let said = c.print_joined.ensures in
    writes k.taken k.faults (IsJoinOf texts) (StopsAtTexts texts) c.args.sink.now c.print_joined.new.sink (joined (form_told second) texts) c.print_joined.result
    record { second = second; form = c.tells_second_form-second.ensures; reports = c.in-Ok.ensures.ok; text_is = refl } said.either said.done said.failed
