use Rattle.std.proofs.Common.{◌≡◌, List, ap, sym, subst}
use Rattle.shard_core.specs.Shard.{Sharded}
use Rattle.emission_text.specs.Report.{report_text}
use Rattle.report_lines.specs.Forms.{form_of}
use Rattle.emission_text.specs.Sending.{Appends, Fails}
use Rattle.scotty_run.specs.Answer.{IsAnswer, IsReportOf}
use Rattle.run_inputs.specs.Causes.{AreShardsOfFiles}
use Rattle.command_words.specs.Jobs.{job_of_run}
use Rattle.run_inputs.specs.Outside.{opens_of}
use Rattle.command_words.specs.Words.{Run}
use Rattle.run_inputs.specs.declared.status.Status.TheVariants as status
use Rattle.scotty_run.proofs.Answering.{text_is}
use Rattle.scotty_run.proofs.Jobs.{stops, writes}
use Rattle.scotty_run.proofs.command.run.Goals as goal

pub returns-in-Ok-clause-answer : goal.returns-in-Ok-clause-answer
returns-in-Ok-clause-answer g c =
    let k = g.K.Sink in
    let run = c.args.command.now in
    let form : c.command.inside.form ≡ run.form = ap (λ (r : Run). r.form) c.command.view_is in
    let opens = opens_of g.F.Files.asked g.F.Files.came c.args.files.now c.fill_shards.new.files in
    let says = c.print_report.ensures in
    let old = c.args.sink.now in
    let new = c.print_report.new.sink in
    let done = subst (λ r. c.print_report.result ≡ status.Done → Appends k.taken k.faults (report_text (form_of r) c.deref.result.now) old new) form says.done in
    let failed = subst (λ r. c.print_report.result ≡ status.WriteFault → Fails k.taken k.faults (report_text (form_of r) c.deref.result.now) old new) form says.failed in
    let files = subst (λ (shards : List Sharded). AreShardsOfFiles run opens shards) (sym c.deref.ensures.value) c.in-Ok.ensures.ok in
    writes k.taken k.faults (job_of_run run) (IsReportOf run) opens old new (report_text (form_of run.form) c.deref.result.now) (text_is run opens c.deref.result.now files) c.print_report.result says.either done failed

pub returns-in-Err-clause-answer : goal.returns-in-Err-clause-answer
returns-in-Err-clause-answer g c =
    let k = g.K.Sink in
    let run = c.args.command.now in
    let opens = opens_of g.F.Files.asked g.F.Files.came c.args.files.now c.fill_shards.new.files in
    subst (IsAnswer k.taken k.faults run opens c.args.sink.now c.print_fault.new.sink) (sym c.print_fault.ensures.status)
    (stops k.taken k.faults (job_of_run run) (IsReportOf run) opens c.args.sink.now c.print_fault.new.sink c.in-Err.fault c.in-Err.ensures.stopped c.print_fault.ensures.said)
