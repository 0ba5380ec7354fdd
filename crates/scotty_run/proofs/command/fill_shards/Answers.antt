-- The definitions are read, and behind them the sources are gathered.
use Rattle.std.proofs.Common.{ap, inl, inr, refl, subst}
use Rattle.run_inputs.specs.Causes.{AreDefinitionsRead, AreShardsOf, AreShardsOfFiles, StopsAtDefs, StopsAtFiles, StopsAtSources}
use Rattle.run_inputs.specs.Outside.{Ends, opens_of}
use Rattle.command_words.specs.Words.{Run}
use Rattle.run_inputs.proofs.Endings.{definitions_as, ends_at, ends_behind}
use Rattle.scotty_run.proofs.command.fill_shards.Goals as goal

pub returns-in-Err : goal.returns-in-Err
returns-in-Err g c =
    let f = g.F.Files in
    let run = c.args.command.now in
    ends_at f.asked f.came f.told AreDefinitionsRead (StopsAtDefs c.command.inside.defs.now) (λ opens shards. AreShardsOfFiles run opens shards.items) (StopsAtFiles run)
    c.command.inside.defs.now run.defs (ap (λ (r : Run). r.defs) c.command.view_is) run.sources c.args.files.now c.read_definitions.new.files c.in-Err.fault c.in-Err.ensures
    (λ s. inl (subst (λ n. StopsAtDefs n (opens_of f.asked f.came c.args.files.now c.read_definitions.new.files) c.in-Err.fault) (ap (λ (r : Run). r.defs) c.command.view_is) s))

pub returns-in-Ok : goal.returns-in-Ok
returns-in-Ok g c =
    let f = g.F.Files in
    let run = c.args.command.now in
    let old = c.args.files.now in
    let mid = c.read_definitions.new.files in
    let new = c.gather_sources.new.files in
    let defs = c.in-Ok.defs in
    let gathered = subst (λ (r : Run). Ends f.asked f.came f.told r.sources mid new c.gather_sources.result (λ opens (shards : _). AreShardsOf r.sources r.shards defs opens shards.items) (StopsAtSources r.sources r.shards defs)) c.command.view_is c.gather_sources.ensures in
    ends_behind f.asked f.came f.told AreDefinitionsRead (StopsAtDefs c.command.inside.defs.now) (λ opens shards. AreShardsOfFiles run opens shards.items) (StopsAtFiles run)
    c.command.inside.defs.now run.defs (ap (λ (r : Run). r.defs) c.command.view_is) run.sources old mid new defs c.gather_sources.result (λ opens shards. AreShardsOf run.sources run.shards defs opens shards.items) (StopsAtSources run.sources run.shards defs)
    c.in-Ok.ensures gathered
    (λ stays read shards filled. record { d = defs; definitions = definitions_as (opens_of f.asked f.came old mid) (opens_of f.asked f.came old new) defs refl stays read; filled = filled })
    (λ stays read fault cause. inr record { d = defs; definitions = definitions_as (opens_of f.asked f.came old mid) (opens_of f.asked f.came old new) defs refl stays read; cause = cause })
