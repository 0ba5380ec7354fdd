-- The definitions are read, and behind them the sources.
use Rattle.std.proofs.Common.{ap, inl, inr, refl, subst}
use Rattle.run_inputs.specs.Causes.{AreDefinitionsRead, StopsAtDefs, StopsAtSources}
use Rattle.run_inputs.specs.Outside.{opens_of}
use Rattle.scotty_run.specs.Watching.{IsWatchedIn, IsWatchedOfFiles, StopsAtWatch}
use Rattle.command_words.specs.Words.{Watch}
use Rattle.run_inputs.proofs.Endings.{definitions_as, ends_at, ends_behind}
use Rattle.scotty_run.proofs.watching.watch_files.Goals as goal

pub returns-in-Err : goal.returns-in-Err
returns-in-Err g c =
    let f = g.F.Files in
    let w = c.args.command.now in
    let is = ap (λ (x : Watch). x.defs) c.command.view_is in
    ends_at f.asked f.came f.told AreDefinitionsRead (StopsAtDefs c.command.inside.defs.now) (IsWatchedOfFiles w) (StopsAtWatch w)
    c.command.inside.defs.now w.defs is w.sources c.args.files.now c.read_definitions.new.files c.in-Err.fault c.in-Err.ensures
    (λ s. inl (subst (λ n. StopsAtDefs n (opens_of f.asked f.came c.args.files.now c.read_definitions.new.files) c.in-Err.fault) is s))

pub returns-in-Ok : goal.returns-in-Ok
returns-in-Ok g c =
    let f = g.F.Files in
    let w = c.args.command.now in
    let old = c.args.files.now in
    let mid = c.read_definitions.new.files in
    let new = c.watch_sources.new.files in
    let defs = c.in-Ok.defs in
    ends_behind f.asked f.came f.told AreDefinitionsRead (StopsAtDefs c.command.inside.defs.now) (IsWatchedOfFiles w) (StopsAtWatch w)
    c.command.inside.defs.now w.defs (ap (λ (x : Watch). x.defs) c.command.view_is) w.sources old mid new defs c.watch_sources.result (IsWatchedIn w defs) (StopsAtSources w.sources 1 defs)
    c.in-Ok.ensures c.watch_sources.ensures
    (λ stays read watched inside. record { d = defs; definitions = definitions_as (opens_of f.asked f.came old mid) (opens_of f.asked f.came old new) defs refl stays read; in_sources = inside })
    (λ stays read fault cause. inr record { d = defs; definitions = definitions_as (opens_of f.asked f.came old mid) (opens_of f.asked f.came old new) defs refl stays read; cause = cause })
