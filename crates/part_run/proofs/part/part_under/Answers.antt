-- The source is opened, read to its end, and given back.
use Rattle.std.proofs.Common.{◌≡◌, ◌∙◌, ◌∷◌, [], List, length, map, string_bytes, refl, sym, Ok}
use Rattle.stream_base.specs.declared.entry.Entry.{Entry}
use Rattle.part_laws.specs.Parts.{part_text}
use Rattle.run_inputs.specs.Outside.{opens_of}
use Rattle.run_inputs.specs.Reading.{AreDrained}
use Rattle.run_inputs.proofs.Draining.{fresh, place_at, read_of, stops_of, tells_at}
use Rattle.run_inputs.proofs.Results.{if_ok}
use Rattle.run_inputs.proofs.Returned.{came_back, opened_in_order, opening_stops}
use Rattle.part_text.specs.Holding.{IsHeld}
use Rattle.part_run.specs.Parting.{HoldsPartIn}
use Rattle.part_run.proofs.part.part_under.Goals as goal

pub part_of_first-part-requires-clause-fresh : goal.part_of_first-part-requires-clause-fresh
part_of_first-part-requires-clause-fresh g c =
    let f = g.F.Files in
    fresh g.F.Input.Source.reads g.F.Input.Source.told (length (f.asked c.args.files.now)) (f.told c.args.files.now) (map string_bytes c.command.inside.sources.now) c.args.defs.now c.in-Ok.feeds.items c.in-Ok.ensures.opened.unread

pub part_of_first-part-requires-clause-one : goal.part_of_first-part-requires-clause-one
part_of_first-part-requires-clause-one g c = c.in-Ok.ensures.opened.many ∙ c.command.invariant.one_source

pub returns-in-Err : goal.returns-in-Err
returns-in-Err g c =
    let f = g.F.Files in
    let names = map string_bytes c.command.inside.sources.now in
    let opens = opens_of f.asked f.came c.args.files.now c.open_sources.new.files in
    rw (← c.command.view_is) record {
      files = c.in-Err.ensures.files;
      ok = tt;
      stopped = opening_stops names 0 c.args.defs.now opens c.in-Err.fault c.in-Err.ensures.stopped;
    }

pub returns-in-Ok : goal.returns-in-Ok
returns-in-Ok g c =
    let f = g.F.Files in
    let reads = g.F.Input.Source.reads in
    let word = g.F.Input.Source.told in
    let names = map string_bytes c.command.inside.sources.now in
    let shards = c.command.inside.shards in
    let shard = c.command.inside.shard in
    let d = c.args.defs.now in
    let old = c.args.files.now in
    let mid = c.open_sources.new.files in
    let new = c.close_feeds.new.files in
    let base = length (f.asked old) in
    let opened = c.in-Ok.ensures.opened in
    let feeds = c.in-Ok.feeds.items in
    let read = c.part_of_first-part in
    let drained = read.new.feeds.items in
    let same = read.ensures.same in
    let closed = c.close_feeds.ensures in
    let place = place_at reads word base (f.told old) names d feeds opened.unread drained opened.many same in
    let tells = tells_at reads word base (f.told old) names d feeds opened.unread drained opened.many same in
    let many : length drained ≡ length names = same.many ∙ opened.many in
    let came = came_back f.asked f.came f.told (λ x. reads x.from) (λ x. word x.from) drained (length names) base mid new many place closed in
    let asked = closed.asked_same ∙ opened.in_order in
    let opens = opens_of f.asked f.came old new in
    let one : length feeds ≡ 1 = opened.many ∙ c.command.invariant.one_source in
    rw (← c.command.view_is) record {
      files = opened_in_order f.asked f.came f.told reads word names d (λ x. x.from) feeds drained old mid new opened many place tells closed;
      ok = if_ok read.result
          (λ held. (entries : List Entry) × AreDrained reads word feeds drained (entries ∷ []) × IsHeld (part_text shards shard entries) held)
          (HoldsPartIn names d shards shard opens) read.ensures.drained
          (λ held h. record {
            bytes = part_text shards shard h.0;
            part = record {
              entries = h.0;
              source = read_of reads word base (f.told old) names d feeds opened.unread drained opened.many same opens asked refl came (λ (all : List (List Entry)). all) (λ all. length all) (Ok (h.0 ∷ [])) (λ all. refl) (sym one) h.1;
              part_is = refl;
            };
            held_is = h.2;
          });
      stopped = stops_of reads word base (f.told old) names d feeds opened.unread drained opened.many same opens asked refl came 0 read.result read.ensures.trouble;
    }
