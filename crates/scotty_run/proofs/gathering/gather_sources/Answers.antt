-- The sources are opened, gathered and given back; what became of them is the answer.
use Rattle.std.proofs.Common.{◌≡◌, ◌∙◌, ◌<◌, ℕ, length, map, string_bytes, All, ap, arith, refl, sym, subst}
use Rattle.std.proofs.lemmas.List.{length-map}
use Rattle.fan_in.specs.Gathering.{AreGathered}
use Rattle.fan_in.specs.declared.outcome.Outcome.TheVariants.{Done}
use Rattle.source_feed.specs.FileFeedState.{feed_view}
use Rattle.run_inputs.specs.Outside.{GivesBack, opens_of}
use Rattle.scotty_run.specs.Settling.{IsTrouble}
use Rattle.command_words.specs.Words.{AreFew}
use Rattle.scotty_run.proofs.Ends.{fresh_feeds, gathering, place_at, tells_at}
use Rattle.run_inputs.proofs.Opened.{are_placed}
use Rattle.scotty_run.proofs.Gathers.{shards_of, stops_at}
use Rattle.run_inputs.proofs.Returned.{came_back, opened_in_order, opening_stops}
use Rattle.scotty_run.proofs.gathering.gather_sources.Goals as goal

pub gather-requires-clause-fresh : goal.gather-requires-clause-fresh
gather-requires-clause-fresh g c lives bounds =
    let f = g.F.Files in
    let opened = c.in-Ok.ensures.opened in
    let names = map string_bytes c.args.names.now in
    fresh_feeds g.F.Input.Source.reads g.F.Input.Source.told (length (f.asked c.args.files.now)) (f.told c.args.files.now) names c.args.defs c.in-Ok.feeds.items (length c.args.names.now)
    (opened.many ∙ length-map c.args.names.now string_bytes) opened.unread

pub returns-in-Err : goal.returns-in-Err
returns-in-Err g c =
    let f = g.F.Files in
    let opens = opens_of f.asked f.came c.args.files.now c.open_sources.new.files in
    record {
      files = c.in-Err.ensures.files;
      ok = tt;
      stopped = opening_stops (map string_bytes c.args.names.now) c.args.shards c.args.defs opens c.in-Err.fault c.in-Err.ensures.stopped;
    }

pub returns : goal.returns
returns g c =
    let f = g.F.Files in
    let reads = g.F.Input.Source.reads in
    let word = g.F.Input.Source.told in
    let names = map string_bytes c.args.names.now in
    let old = c.args.files.now in
    let mid = c.open_sources.new.files in
    let new = c.close_feeds.new.files in
    let opened = c.in-Ok.ensures.opened in
    let feeds = c.in-Ok.feeds.items in
    let given = c.in-Err-gather.field-0.feeds.items in
    let are : given ≡ feeds = ap (λ (v : _). v.items) c.in-Err-gather.ensures.unstarted in
    let closed = subst (λ fs. GivesBack f.asked f.came f.told (λ x. reads x.from) (λ x. word x.from) fs mid new) are c.close_feeds.ensures in
    let inside : (i : ℕ) → i < length names → i < length feeds = λ i l. omega (arith, l, opened.many) in
    record {
      files = opened_in_order f.asked f.came f.told reads word names c.args.defs (λ x. x.from) feeds feeds old mid new opened opened.many
          (λ i x l. are_placed reads word (length (f.asked old)) (f.told old) names c.args.defs feeds opened.unread i x (inside i l))
          (λ i x l. (opened.unread i x (inside i l)).content) closed;
      ok = tt;
      stopped = tt;
    }

pub returns-in-Some : goal.returns-in-Some
returns-in-Some g c =
    let f = g.F.Files in
    let reads = g.F.Input.Source.reads in
    let word = g.F.Input.Source.told in
    let names = map string_bytes c.args.names.now in
    let total = c.args.shards in
    let old = c.args.files.now in
    let mid = c.open_sources.new.files in
    let new = c.close_ends.new.files in
    let base = length (f.asked old) in
    let opened = c.in-Ok.ensures.opened in
    let feeds = c.in-Ok.feeds.items in
    let ends = c.in-Ok-gather.field-0.ends.items in
    let shards = c.in-Ok-gather.field-0.shards.items in
    let size : length c.args.names.now ≡ length names = sym (length-map c.args.names.now string_bytes) in
    let were = subst (λ n. AreGathered (feed_view reads word) (λ x. (reads x.from).faults) c.args.defs n total feeds shards ends) size c.in-Ok-gather.ensures.gathered in
    let limits = subst (λ n. AreFew n total) size c.requires.few in
    let closed = c.close_ends.ensures in
    let place = place_at reads word base (f.told old) names total c.args.defs feeds ends shards opened.unread limits opened.many were in
    let tells = tells_at reads word base (f.told old) names total c.args.defs feeds ends shards opened.unread limits opened.many were in
    let came = came_back f.asked f.came f.told (λ x. reads x.feed.from) (λ x. word x.feed.from) ends (length names) base mid new were.many_ends place closed in
    let opens = opens_of f.asked f.came old new in
    let gathered = gathering reads word base (f.told old) names total c.args.defs feeds ends shards opened.unread limits opened.many were opens (closed.asked_same ∙ opened.in_order) refl came in
    let trouble = subst (λ es. IsTrouble (map (λ e. e.outcome) es) c.in-Some.fault) c.deref.ensures.value c.in-Some.ensures.some in
    record {
      files = opened_in_order f.asked f.came f.told reads word names c.args.defs (λ x. x.feed.from) feeds ends old mid new opened were.many_ends place tells closed;
      ok = tt;
      stopped = stops_at names total c.args.defs opens (map (λ e. e.outcome) ends) (map (λ e. e.feed.gave) ends) shards gathered c.in-Some.fault trouble;
    }

pub returns-in-Ok-gather : goal.returns-in-Ok-gather
returns-in-Ok-gather g c =
    let f = g.F.Files in
    let reads = g.F.Input.Source.reads in
    let word = g.F.Input.Source.told in
    let names = map string_bytes c.args.names.now in
    let total = c.args.shards in
    let old = c.args.files.now in
    let mid = c.open_sources.new.files in
    let new = c.close_ends.new.files in
    let base = length (f.asked old) in
    let opened = c.in-Ok.ensures.opened in
    let feeds = c.in-Ok.feeds.items in
    let ends = c.in-Ok-gather.field-0.ends.items in
    let shards = c.in-Ok-gather.field-0.shards.items in
    let size : length c.args.names.now ≡ length names = sym (length-map c.args.names.now string_bytes) in
    let were = subst (λ n. AreGathered (feed_view reads word) (λ x. (reads x.from).faults) c.args.defs n total feeds shards ends) size c.in-Ok-gather.ensures.gathered in
    let limits = subst (λ n. AreFew n total) size c.requires.few in
    let closed = c.close_ends.ensures in
    let place = place_at reads word base (f.told old) names total c.args.defs feeds ends shards opened.unread limits opened.many were in
    let tells = tells_at reads word base (f.told old) names total c.args.defs feeds ends shards opened.unread limits opened.many were in
    let came = came_back f.asked f.came f.told (λ x. reads x.feed.from) (λ x. word x.feed.from) ends (length names) base mid new were.many_ends place closed in
    let opens = opens_of f.asked f.came old new in
    let gathered = gathering reads word base (f.told old) names total c.args.defs feeds ends shards opened.unread limits opened.many were opens (closed.asked_same ∙ opened.in_order) refl came in
    let done = subst (λ es. All (λ o. o ≡ Done) (map (λ e. e.outcome) es)) c.deref.ensures.value c.in-None.ensures.none in
    record {
      files = opened_in_order f.asked f.came f.told reads word names c.args.defs (λ x. x.feed.from) feeds ends old mid new opened were.many_ends place tells closed;
      ok = shards_of names total c.args.defs opens (map (λ e. e.outcome) ends) (map (λ e. e.feed.gave) ends) shards gathered done;
      stopped = tt;
    }
