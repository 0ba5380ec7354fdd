-- Words are those of one command at most, so what holds of the command that was read holds of each that they tell.
use Rattle.std.proofs.Common.{◌∷◌, [], ℕ, List, map, string_bytes, subst}
use Rattle.run_inputs.specs.Outside.{OpensInOrder, opens_of}
use Rattle.part_run.specs.Answer.{IsAnswer}
use Rattle.part_run.specs.Joining.{IsJoinOfFiles, StopsJoin}
use Rattle.part_run.specs.Parting.{AreDefsOfFile, IsShortPart, StopsDefs, StopsPart}
use Rattle.part_run.specs.Words.{Part}
use Rattle.part_run.proofs.WordFacts.{one_defs, one_join, one_part}
use Rattle.part_run.proofs.command.scotty_part.Goals as goal

pub returns-in-Some-clause-part : goal.returns-in-Some-clause-part
returns-in-Some-clause-part g c p is =
    let opens = opens_of g.F.Files.asked g.F.Files.came c.args.files.now c.part.new.files in
    subst (λ (x : Part). IsAnswer g.K.Sink.taken g.K.Sink.faults (IsShortPart x opens) (StopsPart x opens) c.args.sink.now c.part.new.sink c.part.result)
    (one_part (map string_bytes c.args.words.now) c.in-Some.command p c.in-Some.ensures.found is) c.part.ensures.answer

pub returns-in-Some-clause-part_opens : goal.returns-in-Some-clause-part_opens
returns-in-Some-clause-part_opens g c p is =
    let f = g.F.Files in
    subst (λ (x : Part). OpensInOrder f.asked f.came f.told (x.defs ∷ x.sources) c.args.files.now c.part.new.files)
    (one_part (map string_bytes c.args.words.now) c.in-Some.command p c.in-Some.ensures.found is) c.part.ensures.files

pub returns-in-Some-defs_of-clause-defs : goal.returns-in-Some-defs_of-clause-defs
returns-in-Some-defs_of-clause-defs g c name is =
    let opens = opens_of g.F.Files.asked g.F.Files.came c.args.files.now c.defs.new.files in
    subst (λ (n : List ℕ). IsAnswer g.K.Sink.taken g.K.Sink.faults (AreDefsOfFile opens) (StopsDefs n opens) c.args.sink.now c.defs.new.sink c.defs.result)
    (one_defs (map string_bytes c.args.words.now) c.in-Some-defs_of.name.now name c.in-Some-defs_of.ensures.found is) c.defs.ensures.answer

pub returns-in-Some-defs_of-clause-defs_opens : goal.returns-in-Some-defs_of-clause-defs_opens
returns-in-Some-defs_of-clause-defs_opens g c name is =
    let f = g.F.Files in
    subst (λ (n : List ℕ). OpensInOrder f.asked f.came f.told (n ∷ []) c.args.files.now c.defs.new.files)
    (one_defs (map string_bytes c.args.words.now) c.in-Some-defs_of.name.now name c.in-Some-defs_of.ensures.found is) c.defs.ensures.files

pub returns-in-Some-join_of-clause-join : goal.returns-in-Some-join_of-clause-join
returns-in-Some-join_of-clause-join g c names is =
    let opens = opens_of g.F.Files.asked g.F.Files.came c.args.files.now c.join.new.files in
    subst (λ (ns : List (List ℕ)). IsAnswer g.K.Sink.taken g.K.Sink.faults (IsJoinOfFiles ns opens) (StopsJoin ns opens) c.args.sink.now c.join.new.sink c.join.result)
    (one_join (map string_bytes c.args.words.now) (map string_bytes c.in-Some-join_of.names.now) names c.in-Some-join_of.ensures.found is) c.join.ensures.answer

pub returns-in-Some-join_of-clause-join_opens : goal.returns-in-Some-join_of-clause-join_opens
returns-in-Some-join_of-clause-join_opens g c names is =
    let f = g.F.Files in
    subst (λ (ns : List (List ℕ)). OpensInOrder f.asked f.came f.told ns c.args.files.now c.join.new.files)
    (one_join (map string_bytes c.args.words.now) (map string_bytes c.in-Some-join_of.names.now) names c.in-Some-join_of.ensures.found is) c.join.ensures.files
