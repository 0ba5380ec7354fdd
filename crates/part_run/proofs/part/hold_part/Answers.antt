-- The definitions are read, and behind them the source.
use Rattle.std.proofs.Common.{ap, inl, inr, refl, subst}
use Rattle.run_inputs.specs.Causes.{AreDefinitionsRead, StopsAtDefs, StopsAtSources}
use Rattle.run_inputs.specs.Outside.{opens_of}
use Rattle.run_inputs.proofs.Endings.{definitions_as, ends_at, ends_behind}
use Rattle.part_run.specs.Parting.{HoldsPartIn, HoldsPartOfFiles, StopsAtPart}
use Rattle.part_run.specs.Words.{Part}
use Rattle.part_run.proofs.part.hold_part.Goals as goal

pub returns-in-Err : goal.returns-in-Err
returns-in-Err g c =
    let f = g.F.Files in
    let own = c.args.command.now in
    let is = ap (λ (p : Part). p.defs) c.command.view_is in
    ends_at f.asked f.came f.told AreDefinitionsRead (StopsAtDefs c.command.inside.defs.now) (HoldsPartOfFiles own) (StopsAtPart own)
    c.command.inside.defs.now own.defs is own.sources c.args.files.now c.read_definitions.new.files c.in-Err.fault c.in-Err.ensures
    (λ s. inl (subst (λ n. StopsAtDefs n (opens_of f.asked f.came c.args.files.now c.read_definitions.new.files) c.in-Err.fault) is s))

pub returns-in-Ok : goal.returns-in-Ok
returns-in-Ok g c =
    let f = g.F.Files in
    let own = c.args.command.now in
    let old = c.args.files.now in
    let mid = c.read_definitions.new.files in
    let new = c.part_under.new.files in
    let defs = c.in-Ok.defs in
    ends_behind f.asked f.came f.told AreDefinitionsRead (StopsAtDefs c.command.inside.defs.now) (HoldsPartOfFiles own) (StopsAtPart own)
    c.command.inside.defs.now own.defs (ap (λ (p : Part). p.defs) c.command.view_is) own.sources old mid new defs c.part_under.result
    (HoldsPartIn own.sources defs own.shards own.shard) (StopsAtSources own.sources 0 defs)
    c.in-Ok.ensures c.part_under.ensures
    (λ stays read held found. record {
      bytes = found.bytes;
      part = record { d = defs; definitions = definitions_as (opens_of f.asked f.came old mid) (opens_of f.asked f.came old new) defs refl stays read; part_in = found.part };
      held_is = found.held_is;
    })
    (λ stays read fault cause. inr record { d = defs; definitions = definitions_as (opens_of f.asked f.came old mid) (opens_of f.asked f.came old new) defs refl stays read; cause = cause })
