use Rattle.std.proofs.Common.{sym, subst}
use Rattle.live_board.specs.declared.watched.Watched.{Watched}
use Rattle.command_words.specs.Jobs.{job_of_watch}
use Rattle.run_inputs.specs.Outside.{opens_of}
use Rattle.scotty_run.specs.Watching.{IsBoardOf, IsWatchAnswer, watched_text}
use Rattle.scotty_run.proofs.Jobs.{stops, writes}
use Rattle.scotty_run.proofs.Boards.{board_text}
use Rattle.scotty_run.proofs.command.watch.Goals as goal

pub returns-in-Ok-clause-answer : goal.returns-in-Ok-clause-answer
returns-in-Ok-clause-answer g c =
    let k = g.K.Sink in
    let w = c.args.command.now in
    let opens = opens_of g.F.Files.asked g.F.Files.came c.args.files.now c.watch_files.new.files in
    let says = c.print_watched.ensures in
    writes k.taken k.faults (job_of_watch w) (IsBoardOf w) opens c.args.sink.now c.print_watched.new.sink (watched_text c.in-Ok.watched) (board_text w opens c.in-Ok.watched c.in-Ok.ensures.ok) c.print_watched.result says.either says.done says.failed

pub returns-in-Err-clause-answer : goal.returns-in-Err-clause-answer
returns-in-Err-clause-answer g c =
    let k = g.K.Sink in
    let w = c.args.command.now in
    let opens = opens_of g.F.Files.asked g.F.Files.came c.args.files.now c.watch_files.new.files in
    subst (IsWatchAnswer k.taken k.faults w opens c.args.sink.now c.print_fault.new.sink) (sym c.print_fault.ensures.status)
    (stops k.taken k.faults (job_of_watch w) (IsBoardOf w) opens c.args.sink.now c.print_fault.new.sink c.in-Err.fault c.in-Err.ensures.stopped c.print_fault.ensures.said)
