-- What the files came to is written, or their fault is.
use Rattle.std.proofs.Common.{sym, subst}
use Rattle.tail_text.specs.Texts.{in_vectors}
use Rattle.command_words.specs.LastWords.{job_of_last}
use Rattle.run_inputs.specs.Outside.{opens_of}
use Rattle.scotty_run.specs.Tailing.{IsLastAnswer, IsTailReportOf, tailed_text}
use Rattle.scotty_run.proofs.Jobs.{stops, writes}
use Rattle.scotty_run.proofs.LastTexts.{as_long, last_text}
use Rattle.scotty_run.proofs.command.tail.Goals as goal

pub print_tailed-requires : goal.print_tailed-requires
print_tailed-requires g c =
    let tailed = c.in-Ok.tailed in
    as_long c.args.command.now tailed.shards.items (in_vectors tailed.tails.items) (c.in-Ok.ensures.ok).tails

pub returns-in-Ok-clause-answer : goal.returns-in-Ok-clause-answer
returns-in-Ok-clause-answer g c =
    let k = g.K.Sink in
    let l = c.args.command.now in
    let opens = opens_of g.F.Files.asked g.F.Files.came c.args.files.now c.tail_files.new.files in
    let tailed = c.in-Ok.tailed in
    let own = c.in-Ok.ensures.ok in
    let says = c.print_tailed.ensures in
    writes k.taken k.faults (job_of_last l) (IsTailReportOf l) opens c.args.sink.now c.print_tailed.new.sink (tailed_text tailed)
    (last_text l opens tailed.shards.items (in_vectors tailed.tails.items) own.shards own.tails) c.print_tailed.result says.either says.done says.failed

pub returns-in-Err-clause-answer : goal.returns-in-Err-clause-answer
returns-in-Err-clause-answer g c =
    let k = g.K.Sink in
    let l = c.args.command.now in
    let opens = opens_of g.F.Files.asked g.F.Files.came c.args.files.now c.tail_files.new.files in
    subst (IsLastAnswer k.taken k.faults l opens c.args.sink.now c.print_fault.new.sink) (sym c.print_fault.ensures.status)
    (stops k.taken k.faults (job_of_last l) (IsTailReportOf l) opens c.args.sink.now c.print_fault.new.sink c.in-Err.fault c.in-Err.ensures.stopped c.print_fault.ensures.said)
