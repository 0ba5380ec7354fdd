-- Words are those of one command at most, so what holds of the command that was read holds of each that they tell.
use Rattle.std.proofs.Common.{◌∷◌, map, string_bytes, subst}
use Rattle.scotty_run.specs.Answer.{IsAnswer, IsCheckAnswer, IsMadeAnswer}
use Rattle.run_inputs.specs.Outside.{OpensInOrder, opens_of}
use Rattle.command_words.specs.LastWords.{LastRun}
use Rattle.scotty_run.specs.Tailing.{IsLastAnswer}
use Rattle.scotty_run.specs.Watching.{IsWatchAnswer}
use Rattle.command_words.specs.Words.{Check, Made, Run, Watch}
use Rattle.command_words.proofs.LastFacts.{one_last}
use Rattle.command_words.proofs.WordFacts.{one_check, one_made, one_run, one_watch}
use Rattle.scotty_run.proofs.command.scotty.Goals as goal

pub returns-in-Some-clause-answer : goal.returns-in-Some-clause-answer
returns-in-Some-clause-answer g c run is =
    let opens = opens_of g.F.Files.asked g.F.Files.came c.args.files.now c.run.new.files in
    subst (λ (r : Run). IsAnswer g.K.Sink.taken g.K.Sink.faults r opens c.args.sink.now c.run.new.sink c.run.result)
    (one_run (map string_bytes c.args.words.now) c.in-Some.command run c.in-Some.ensures.found is) c.run.ensures.answer

pub returns-in-Some-clause-run_opens : goal.returns-in-Some-clause-run_opens
returns-in-Some-clause-run_opens g c run is =
    let f = g.F.Files in
    subst (λ (r : Run). OpensInOrder f.asked f.came f.told (r.defs ∷ r.sources) c.args.files.now c.run.new.files)
    (one_run (map string_bytes c.args.words.now) c.in-Some.command run c.in-Some.ensures.found is) c.run.ensures.files

pub returns-in-Some-made_of-clause-made : goal.returns-in-Some-made_of-clause-made
returns-in-Some-made_of-clause-made g c m is =
    subst (λ (x : Made). IsMadeAnswer g.K.Sink.taken g.K.Sink.faults x c.args.sink.now c.make.new.sink c.make.result)
    (one_made (map string_bytes c.args.words.now) c.in-Some-made_of.command m c.in-Some-made_of.ensures.found is) c.make.ensures.answer

pub returns-in-Some-check_of-clause-check : goal.returns-in-Some-check_of-clause-check
returns-in-Some-check_of-clause-check g c k is =
    let opens = opens_of g.F.Files.asked g.F.Files.came c.args.files.now c.check.new.files in
    subst (λ (x : Check). IsCheckAnswer g.K.Sink.taken g.K.Sink.faults x opens c.args.sink.now c.check.new.sink c.check.result)
    (one_check (map string_bytes c.args.words.now) c.in-Some-check_of.command k c.in-Some-check_of.ensures.found is) c.check.ensures.answer

pub returns-in-Some-check_of-clause-check_opens : goal.returns-in-Some-check_of-clause-check_opens
returns-in-Some-check_of-clause-check_opens g c k is =
    let f = g.F.Files in
    subst (λ (x : Check). OpensInOrder f.asked f.came f.told (x.defs ∷ x.report ∷ x.sources) c.args.files.now c.check.new.files)
    (one_check (map string_bytes c.args.words.now) c.in-Some-check_of.command k c.in-Some-check_of.ensures.found is) c.check.ensures.files

pub returns-in-Some-watch_of-clause-watch : goal.returns-in-Some-watch_of-clause-watch
returns-in-Some-watch_of-clause-watch g c w is =
    let opens = opens_of g.F.Files.asked g.F.Files.came c.args.files.now c.watch.new.files in
    subst (λ (x : Watch). IsWatchAnswer g.K.Sink.taken g.K.Sink.faults x opens c.args.sink.now c.watch.new.sink c.watch.result)
    (one_watch (map string_bytes c.args.words.now) c.in-Some-watch_of.command w c.in-Some-watch_of.ensures.found is) c.watch.ensures.answer

pub returns-in-Some-watch_of-clause-watch_opens : goal.returns-in-Some-watch_of-clause-watch_opens
returns-in-Some-watch_of-clause-watch_opens g c w is =
    let f = g.F.Files in
    subst (λ (x : Watch). OpensInOrder f.asked f.came f.told (x.defs ∷ x.sources) c.args.files.now c.watch.new.files)
    (one_watch (map string_bytes c.args.words.now) c.in-Some-watch_of.command w c.in-Some-watch_of.ensures.found is) c.watch.ensures.files

pub returns-in-Some-last_of-clause-tails : goal.returns-in-Some-last_of-clause-tails
returns-in-Some-last_of-clause-tails g c l is =
    let opens = opens_of g.F.Files.asked g.F.Files.came c.args.files.now c.tail.new.files in
    subst (λ (x : LastRun). IsLastAnswer g.K.Sink.taken g.K.Sink.faults x opens c.args.sink.now c.tail.new.sink c.tail.result)
    (one_last (map string_bytes c.args.words.now) c.in-Some-last_of.command l c.in-Some-last_of.ensures.found is) c.tail.ensures.answer

pub returns-in-Some-last_of-clause-tails_open : goal.returns-in-Some-last_of-clause-tails_open
returns-in-Some-last_of-clause-tails_open g c l is =
    let f = g.F.Files in
    subst (λ (x : LastRun). OpensInOrder f.asked f.came f.told x.sources c.args.files.now c.tail.new.files)
    (one_last (map string_bytes c.args.words.now) c.in-Some-last_of.command l c.in-Some-last_of.ensures.found is) c.tail.ensures.files
