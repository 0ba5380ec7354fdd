-- The words tell the definitions, and behind them the sources are gathered.
use Rattle.std.proofs.Common.{◌≡◌, List, map, string_bytes, ap, refl, subst}
use Rattle.emission_text.specs.declared.fault.Fault.TheVariants.{NoMemory}
use Rattle.run_inputs.specs.Causes.{AreShardsOf, StopsAtSources}
use Rattle.command_words.specs.LastWords.{LastRun}
use Rattle.run_inputs.specs.Outside.{OpensInOrder, opens_of}
use Rattle.scotty_run.specs.Tailing.{AreShardsOfLast, StopsAtLast}
use Rattle.scotty_run.proofs.LastTexts.{none_opened, shards_as, sources_stop, stops_as}
use Rattle.run_inputs.proofs.Results.{if_err, if_ok}
use Rattle.scotty_run.proofs.tailing.last_shards.Goals as goal

pub returns-in-Err : goal.returns-in-Err
returns-in-Err g c =
    let f = g.F.Files in
    let l = c.args.command.now in
    let old = c.args.files.now in
    record {
      files = none_opened f.asked f.came f.told l.sources old;
      ok = tt;
      stopped = sources_stop l (opens_of f.asked f.came old old) NoMemory tt;
    }

pub returns-in-Ok : goal.returns-in-Ok
returns-in-Ok g c =
    let f = g.F.Files in
    let l = c.args.command.now in
    let names = map string_bytes c.command.inside.sources.now in
    let many = c.command.inside.shards in
    let defs = c.in-Ok.defs in
    let old = c.args.files.now in
    let new = c.gather_sources.new.files in
    let opens = opens_of f.asked f.came old new in
    let are = ap (λ (x : LastRun). x.sources) c.command.view_is in
    let few = ap (λ (x : LastRun). x.shards) c.command.view_is in
    let e = c.gather_sources.ensures in
    record {
      files = subst (λ ns. OpensInOrder f.asked f.came f.told ns old new) are e.files;
      ok = if_ok c.gather_sources.result (λ all. AreShardsOf names many defs opens all.items) (λ all. AreShardsOfLast l opens all.items) e.ok (λ all h. shards_as l names many defs opens all.items are few c.in-Ok.ensures h);
      stopped = if_err c.gather_sources.result (StopsAtSources names many defs opens) (StopsAtLast l opens) e.stopped (λ fault h. stops_as l names many defs opens fault are few c.in-Ok.ensures h);
    }
