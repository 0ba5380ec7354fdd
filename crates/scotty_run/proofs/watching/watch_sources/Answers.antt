-- The sources are read, and behind them watched.
use Rattle.std.proofs.Common.{◌≡◌, ◌∙◌, List, length, map, string_bytes, ap, arith, subst, sym, Ok}
use Rattle.std.proofs.lemmas.List.{length-map}
use Rattle.report_check.specs.Findings.{lists_of}
use Rattle.run_inputs.specs.Causes.{AreAllRead, StopsAtSources}
use Rattle.run_inputs.specs.Outside.{Ends, opens_of}
use Rattle.run_inputs.specs.Reading.{AreEntries}
use Rattle.scotty_run.specs.Watching.{IsFullBoard, IsWatchedIn, IsWatchedOf}
use Rattle.command_words.specs.Words.{Watch}
use Rattle.run_inputs.proofs.Results.{if_err, if_ok}
use Rattle.scotty_run.proofs.Boards.{board_stops, stops_among}
use Rattle.scotty_run.proofs.watching.watch_sources.Goals as goal

pub watch_read-requires-clause-may : goal.watch_read-requires-clause-may
watch_read-requires-clause-may g c lives bounds =
    let w = c.command.inside in
    let limits = c.command.invariant in
    let all = c.in-Ok.sources.items in
    let read = c.in-Ok.ensures.read.ok in
    let given : length (lists_of c.deref.result.now) ≡ length (lists_of all) = ap (λ (lists : List _). length (lists_of lists)) c.deref.ensures.value in
    let many : length (lists_of c.deref.result.now) ≡ length w.sources.now = given ∙ read.many ∙ length-map w.sources.now string_bytes in
    record {
      some_readers = limits.some_readers;
      few_readers = limits.few_readers;
      few_reads = limits.few_reads;
      some_sources = let some = limits.some_sources in omega (arith, some, many);
      few_sources = let few = limits.few_sources in omega (arith, few, many);
      entries = subst (λ (lists : List _). AreEntries (lists_of lists)) (sym c.deref.ensures.value) c.in-Ok.ensures.entries;
    }

pub returns-in-Err : goal.returns-in-Err
returns-in-Err g c =
    let f = g.F.Files in
    let names = map string_bytes c.command.inside.sources.now in
    let read = c.in-Err.ensures.read in
    rw (← c.command.view_is) record {
      files = read.files;
      ok = tt;
      stopped = stops_among names 1 c.args.defs.now (opens_of f.asked f.came c.args.files.now c.read_sources.new.files) c.in-Err.fault read.stopped;
    }

pub returns-in-Ok : goal.returns-in-Ok
returns-in-Ok g c =
    let f = g.F.Files in
    let w = c.args.command.now in
    let d = c.args.defs.now in
    let old = c.args.files.now in
    let new = c.read_sources.new.files in
    let opens = opens_of f.asked f.came old new in
    let sources = c.in-Ok.sources in
    let all = lists_of sources.items in
    let is = ap (λ (x : Watch). x.sources) c.command.view_is in
    let read = subst (λ names. Ends f.asked f.came f.told names old new (Ok sources) (λ os (v : _). AreAllRead names d os (lists_of v.items)) (StopsAtSources names 0 d)) is c.in-Ok.ensures.read in
    let given = ap lists_of c.deref.ensures.value in
    let own = c.command.inside in
    record {
      files = read.files;
      ok = if_ok c.watch_read.result (IsWatchedOf own.readers own.reads d (lists_of c.deref.result.now)) (IsWatchedIn w d opens) c.watch_read.ensures.watched
          (λ x h. record { all = all; sources = read.ok; watched_of = subst (λ (v : Watch). IsWatchedOf v.readers v.reads d all x) c.command.view_is (subst (λ lists. IsWatchedOf own.readers own.reads d lists x) given h) });
      stopped = if_err c.watch_read.result (IsFullBoard (lists_of c.deref.result.now)) (StopsAtSources w.sources 1 d opens) c.watch_read.ensures.full
          (λ fault h. board_stops w.sources d opens all read.ok fault (subst (λ lists. IsFullBoard lists fault) given h));
    }
