-- The sources are opened, read one after another, and given back.
use Rattle.std.proofs.Common.{◌≡◌, ◌∙◌, length, map, string_bytes, refl, sym}
use Rattle.std.proofs.lemmas.List.{length-map}
use Rattle.report_check.specs.Findings.{lists_of}
use Rattle.run_inputs.specs.Outside.{opens_of}
use Rattle.run_inputs.proofs.Draining.{fresh, place_at, read_of, stops_of, tells_at}
use Rattle.run_inputs.proofs.EntryFacts.{entries_of}
use Rattle.run_inputs.proofs.Returned.{came_back, opened_in_order, opening_stops}
use Rattle.run_inputs.proofs.reading.read_sources.Goals as goal

pub drain_all-read-requires-clause-fresh : goal.drain_all-read-requires-clause-fresh
drain_all-read-requires-clause-fresh g c =
    let f = g.F.Files in
    fresh g.F.Input.Source.reads g.F.Input.Source.told (length (f.asked c.args.files.now)) (f.told c.args.files.now) (map string_bytes c.args.names.now) c.args.defs.now c.in-Ok.feeds.items c.in-Ok.ensures.opened.unread

pub returns-in-Err-clause-read : goal.returns-in-Err-clause-read
returns-in-Err-clause-read g c =
    let f = g.F.Files in
    let names = map string_bytes c.args.names.now in
    let opens = opens_of f.asked f.came c.args.files.now c.open_sources.new.files in
    record {
      files = c.in-Err.ensures.files;
      ok = tt;
      stopped = opening_stops names 0 c.args.defs.now opens c.in-Err.fault c.in-Err.ensures.stopped;
    }

pub returns-in-Ok-clause-read : goal.returns-in-Ok-clause-read
returns-in-Ok-clause-read g c =
    let f = g.F.Files in
    let reads = g.F.Input.Source.reads in
    let word = g.F.Input.Source.told in
    let names = map string_bytes c.args.names.now in
    let d = c.args.defs.now in
    let old = c.args.files.now in
    let mid = c.open_sources.new.files in
    let new = c.close_feeds.new.files in
    let base = length (f.asked old) in
    let opened = c.in-Ok.ensures.opened in
    let feeds = c.in-Ok.feeds.items in
    let read = c.drain_all-read in
    let drained = read.new.feeds.items in
    let same = read.ensures.same in
    let closed = c.close_feeds.ensures in
    let place = place_at reads word base (f.told old) names d feeds opened.unread drained opened.many same in
    let tells = tells_at reads word base (f.told old) names d feeds opened.unread drained opened.many same in
    let many : length drained ≡ length names = same.many ∙ opened.many in
    let came = came_back f.asked f.came f.told (λ x. reads x.from) (λ x. word x.from) drained (length names) base mid new many place closed in
    let asked = closed.asked_same ∙ opened.in_order in
    let opens = opens_of f.asked f.came old new in
    record {
      files = opened_in_order f.asked f.came f.told reads word names d (λ x. x.from) feeds drained old mid new opened many place tells closed;
      ok = read_of reads word base (f.told old) names d feeds opened.unread drained opened.many same opens asked refl came (λ v. lists_of v.items) (λ v. length v.items) read.result (λ v. sym (length-map v.items (λ e. e.items))) read.ensures.whole read.ensures.drained;
      stopped = stops_of reads word base (f.told old) names d feeds opened.unread drained opened.many same opens asked refl came 0 read.result read.ensures.trouble;
    }

pub returns-in-Ok-clause-entries : goal.returns-in-Ok-clause-entries
returns-in-Ok-clause-entries g c =
    let f = g.F.Files in
    let opened = c.in-Ok.ensures.opened in
    let read = c.drain_all-read in
    entries_of g.F.Input.Source.reads g.F.Input.Source.told (length (f.asked c.args.files.now)) (f.told c.args.files.now) (map string_bytes c.args.names.now) c.args.defs.now c.in-Ok.feeds.items opened.unread
    (λ v. lists_of v.items) (λ v. length v.items) read.result (λ v. sym (length-map v.items (λ e. e.items))) read.ensures.whole read.ensures.entries
