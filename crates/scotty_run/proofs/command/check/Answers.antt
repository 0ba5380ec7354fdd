use Rattle.std.proofs.Common.{sym, subst}
use Rattle.scotty_run.specs.Answer.{IsCheckAnswer}
use Rattle.run_inputs.specs.Outside.{opens_of}
use Rattle.scotty_run.proofs.Checking.{check_finds, check_stops}
use Rattle.scotty_run.proofs.command.check.Goals as goal

pub returns-in-Ok-clause-answer : goal.returns-in-Ok-clause-answer
returns-in-Ok-clause-answer g c =
    let own = c.args.command.now in
    let opens = opens_of g.F.Files.asked g.F.Files.came c.args.files.now c.find.new.files in
    check_finds g.K.Sink.taken g.K.Sink.faults own opens c.args.sink.now c.print_finding.new.sink c.in-Ok.finding c.in-Ok.ensures.ok c.print_finding.result c.print_finding.ensures

pub returns-in-Err-clause-answer : goal.returns-in-Err-clause-answer
returns-in-Err-clause-answer g c =
    let own = c.args.command.now in
    let opens = opens_of g.F.Files.asked g.F.Files.came c.args.files.now c.find.new.files in
    subst (IsCheckAnswer g.K.Sink.taken g.K.Sink.faults own opens c.args.sink.now c.print_fault.new.sink) (sym c.print_fault.ensures.status)
    (check_stops g.K.Sink.taken g.K.Sink.faults own opens c.args.sink.now c.print_fault.new.sink c.in-Err.fault c.in-Err.ensures.stopped c.print_fault.ensures.said)
