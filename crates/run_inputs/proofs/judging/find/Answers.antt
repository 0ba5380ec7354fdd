-- The definitions are read, and behind them the report and the sources.
use Rattle.std.proofs.Common.{◌∷◌, ap, inl, inr, refl, subst}
use Rattle.run_inputs.specs.Causes.{AreDefinitionsRead, StopsAtDefs}
use Rattle.run_inputs.specs.Judging.{IsFindingOfFiles, IsFoundBehind, StopsAtCheck, StopsBehindDefs}
use Rattle.run_inputs.specs.Outside.{opens_of}
use Rattle.command_words.specs.Words.{Check}
use Rattle.run_inputs.proofs.Endings.{definitions_as, ends_at, ends_behind}
use Rattle.run_inputs.proofs.judging.find.Goals as goal

pub returns-in-Err : goal.returns-in-Err
returns-in-Err g c =
    let f = g.F.Files in
    let own = c.args.command.now in
    let is = ap (λ (k : Check). k.defs) c.command.view_is in
    ends_at f.asked f.came f.told AreDefinitionsRead (StopsAtDefs c.command.inside.defs.now) (IsFindingOfFiles own) (StopsAtCheck own)
    c.command.inside.defs.now own.defs is (own.report ∷ own.sources) c.args.files.now c.read_definitions.new.files c.in-Err.fault c.in-Err.ensures
    (λ s. inl (subst (λ n. StopsAtDefs n (opens_of f.asked f.came c.args.files.now c.read_definitions.new.files) c.in-Err.fault) is s))

pub returns-in-Ok : goal.returns-in-Ok
returns-in-Ok g c =
    let f = g.F.Files in
    let own = c.args.command.now in
    let old = c.args.files.now in
    let mid = c.read_definitions.new.files in
    let new = c.find_behind.new.files in
    let defs = c.in-Ok.defs in
    ends_behind f.asked f.came f.told AreDefinitionsRead (StopsAtDefs c.command.inside.defs.now) (IsFindingOfFiles own) (StopsAtCheck own)
    c.command.inside.defs.now own.defs (ap (λ (k : Check). k.defs) c.command.view_is) (own.report ∷ own.sources) old mid new defs c.find_behind.result (IsFoundBehind own defs) (StopsBehindDefs own defs)
    c.in-Ok.ensures c.find_behind.ensures
    (λ stays read finding found. record { d = defs; definitions = definitions_as (opens_of f.asked f.came old mid) (opens_of f.asked f.came old new) defs refl stays read; found_behind = found })
    (λ stays read fault cause. inr record { d = defs; definitions = definitions_as (opens_of f.asked f.came old mid) (opens_of f.asked f.came old new) defs refl stays read; cause = cause })
