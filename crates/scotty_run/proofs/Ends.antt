-- What the gathering of a run's feeds says of its sources.
use Rattle.std.proofs.Common.{◌≡◌, ◌≢◌, ◌∙◌, ◌<◌, ◌+◌, ℕ, List, [], length, map, get_or, Option, Some, None, sym, subst, ap, arith, inl, inr}
use Rattle.std.specs.Prelude.{IfSome}
use Rattle.std.proofs.lemmas.List.{get_or-map, length-map, get_or_default}
use Rattle.stream_base.specs.Limits.{Definitions}
use Rattle.stream_base.specs.declared.entry.Entry.{Entry}
use Rattle.outside.specs.Outside.{Reads, Rose, back}
use Rattle.shard_core.specs.Shard.{Sharded}
use Rattle.source_feed.specs.FeedFault.{refusal_of}
use Rattle.source_feed.specs.FeedView.{FeedView, given_then}
use Rattle.source_feed.specs.FileFeedState.{FileFeedState, feed_view, stream_seen}
use Rattle.source_feed.specs.Stream.{Refusal, Stream}
use Rattle.source_feed.specs.declared.feed_fault.FeedFault.{FeedFault}
use Rattle.source_feed.specs.declared.feed_fault.FeedFault.TheVariants.{Read}
use Rattle.fan_in.specs.declared.gathered.FeedEnd.{FeedEnd}
use Rattle.fan_in.specs.declared.outcome.Outcome.{Outcome}
use Rattle.fan_in.specs.declared.outcome.Outcome.TheVariants.{Done, Fault, Full}
use Rattle.fan_in.specs.Gathering.{AreFreshFeeds, AreGathered, FeedEnded, GaveStream, HoldsFirst, IsFault, NamesOneOf}
use Rattle.run_inputs.specs.Opening.{AreUnread, IsUnread}
use Rattle.run_inputs.specs.Outside.{Asks, Opens, Telling, came_at}
use Rattle.command_words.specs.Words.{AreFew}
use Rattle.scotty_run.proofs.Gathers.{IsGathering, Shows}
use Rattle.run_inputs.proofs.Opened.{some_of}
use Rattle.run_inputs.proofs.SameFeed.{faults_before, place_stays, seen_as, word_stays}
use Rattle.run_inputs.proofs.Shown.{shows_fault, shows_whole}

-- the feeds of a run weren't read yet
pub fresh_feeds : {S : Type 0} (reads : S → Reads) (word : S → Option (List ℕ)) (base : ℕ) (told : Telling) (names : List (List ℕ)) (d : Definitions) (feeds : List (FileFeedState S)) (n : ℕ) → length feeds ≡ n → AreUnread reads word base told names d feeds → AreFreshFeeds (feed_view reads word) n feeds
fresh_feeds reads word base told names d feeds n many unread = record {
  one_each = many;
  fresh = λ i f l.
      let is = ap (feed_view reads word) (unread i f l).feed_is in
      record {
        of_source = ap (λ (v : FeedView). v.source) is;
        running = ap (λ (v : FeedView). v.ended) is;
        unanswered = ap (λ (v : FeedView). v.answered) is;
        blank = ap (λ (v : FeedView). v.gave) is;
      };
}

none_rose : (n : ℕ) → Rose 0 n → 0 < n
none_rose n (inl more) = more
none_rose n (inr last) = omega (arith, last)

not_read_done : Done ≡ Fault Read → ⊥
not_read_done e = absurd cc

not_read_full : {k : ℕ} → Full k ≡ Fault Read → ⊥
not_read_full e = absurd cc

-- one feed, as it was handed in and as it came back
module _ {S : Type 0} (reads : S → Reads) (word : S → Option (List ℕ)) (d : Definitions) (base i : ℕ) (name : Option (List ℕ)) (start now : FileFeedState S) (outcome : Outcome) (unread : IsUnread reads word (base + i) name i d start)
    (b : FeedEnded (feed_view reads word start) (feed_view reads word now) outcome (reads start.from).faults (reads now.from).faults) where
  -- what its outcome shows, where it was given back
  pub shows : (opens : Opens) → length opens.before ≡ base → came_at opens i ≡ back (reads now.from) → Shows d opens i now.gave outcome
  shows opens first came = by outcome b.gave_stream b.read b.quiet
    where
      before : (reads start.from).faults ≡ 0
      before = faults_before reads word d (base + i) i name start now unread b.of_source b.origin

      seen : (o : Option Stream) → (feed_view reads word now).whole ≡ o → stream_seen i d.every d.disorder (reads now.from) ≡ o
      seen = seen_as reads word d (base + i) i name start now unread b.of_source b.origin

      placed : (reads now.from).place ≡ length opens.before + i
      placed = place_stays reads word d (base + i) i name start now unread b.of_source b.origin ∙ ap (λ n. n + i) (sym first)

      by : (o : Outcome) → GaveStream (feed_view reads word now) o → (o ≡ Fault Read → Rose (reads start.from).faults (reads now.from).faults) → (o ≢ Fault Read → (reads now.from).faults ≡ (reads start.from).faults) → Shows d opens i now.gave o
      by Done h read quiet = shows_whole d opens i (reads now.from) came now.gave placed (quiet not_read_done ∙ before) (seen (Some (given_then now.gave None)) h)
      by (Full k) h read quiet = shows_whole d opens i (reads now.from) came now.gave placed (quiet not_read_full ∙ before) (seen (Some (given_then now.gave None)) h)
      by (Fault fault) h read quiet =
          shows_fault d opens i (reads now.from) came fault
          (λ e. none_rose (reads now.from).faults (subst (λ n. Rose n (reads now.from).faults) before (read (ap (λ (x : FeedFault). Fault x) e))))
          (refused (refusal_of fault) h)
        where
          refused : (r : Option Refusal) → IfSome r (λ refusal. (feed_view reads word now).whole ≡ Some (given_then now.gave (Some refusal))) → IfSome r (λ refusal. (entries : List Entry) × (stream_seen i d.every d.disorder (reads now.from) ≡ Some (given_then entries (Some refusal))))
          refused None x = tt
          refused (Some refusal) x = (now.gave, seen (Some (given_then now.gave (Some refusal))) x)

module _ {S : Type 0} (reads : S → Reads) (word : S → Option (List ℕ)) (base : ℕ) (told : Telling) (names : List (List ℕ)) (total : ℕ) (d : Definitions) (feeds : List (FileFeedState S)) (ends : List (FeedEnd (FileFeedState S))) (shards : List Sharded)
    (unread : AreUnread reads word base told names d feeds)
    (limits : AreFew (length names) total)
    (one_each : length feeds ≡ length names)
    (were : AreGathered (feed_view reads word) (λ f. (reads f.from).faults) d (length names) total feeds shards ends) where
  feed_at : (i : ℕ) → i < length names → FileFeedState S
  feed_at i l = some_of feeds i (omega (arith, l, one_each))

  pub end_at : (i : ℕ) → i < length names → FeedEnd (FileFeedState S)
  end_at i l = some_of ends i (let n = were.many_ends in omega (arith, l, n))

  outcome_at : (i : ℕ) (e : FeedEnd (FileFeedState S)) → i < length names → (get_or ends i e).outcome ≡ get_or (map (λ x. x.outcome) ends) i Done
  outcome_at i e l =
      let inside : i < length ends = let n = were.many_ends in omega (arith, l, n) in
      let below : i < length (map (λ (x : FeedEnd (FileFeedState S)). x.outcome) ends) = let n = length-map ends (λ (x : FeedEnd (FileFeedState S)). x.outcome) in omega (arith, inside, n) in
      sym (get_or-map (λ (x : FeedEnd (FileFeedState S)). x.outcome) ends i e e.outcome inside) ∙ get_or_default (map (λ (x : FeedEnd (FileFeedState S)). x.outcome) ends) i e.outcome Done below

  gave_at : (i : ℕ) (e : FeedEnd (FileFeedState S)) → i < length names → (get_or ends i e).feed.gave ≡ get_or (map (λ x. x.feed.gave) ends) i []
  gave_at i e l =
      let inside : i < length ends = let n = were.many_ends in omega (arith, l, n) in
      let below : i < length (map (λ (x : FeedEnd (FileFeedState S)). x.feed.gave) ends) = let n = length-map ends (λ (x : FeedEnd (FileFeedState S)). x.feed.gave) in omega (arith, inside, n) in
      sym (get_or-map (λ (x : FeedEnd (FileFeedState S)). x.feed.gave) ends i e e.feed.gave inside) ∙ get_or_default (map (λ (x : FeedEnd (FileFeedState S)). x.feed.gave) ends) i e.feed.gave [] below

  unread_at : (i : ℕ) (l : i < length names) → IsUnread reads word (base + i) (told (get_or names i [])) i d (get_or feeds i (feed_at i l))
  unread_at i l = unread i (feed_at i l) (omega (arith, l, one_each))

  -- each came from the open of its place
  pub place_at : (i : ℕ) (e : FeedEnd (FileFeedState S)) → i < length names → (reads (get_or ends i e).feed.from).place ≡ base + i
  place_at i e l =
      let b = were.back i (feed_at i l) e l in
      place_stays reads word d (base + i) i (told (get_or names i [])) (get_or feeds i (feed_at i l)) (get_or ends i e).feed (unread_at i l) b.of_source b.origin

  -- and tells what its file does
  pub tells_at : (i : ℕ) (e : FeedEnd (FileFeedState S)) → i < length names → word (get_or ends i e).feed.from ≡ told (get_or names i [])
  tells_at i e l =
      let b = were.back i (feed_at i l) e l in
      word_stays reads word d (base + i) i (told (get_or names i [])) (get_or feeds i (feed_at i l)) (get_or ends i e).feed (unread_at i l) b.of_source b.origin

  pub gathering : (opens : Opens) → Asks names opens → length opens.before ≡ base
      → ((i : ℕ) (e : FeedEnd (FileFeedState S)) → i < length names → came_at opens i ≡ back (reads (get_or ends i e).feed.from))
      → IsGathering names total d opens (map (λ e. e.outcome) ends) (map (λ e. e.feed.gave) ends) shards
  gathering opens asked first came = record {
    asked = asked;
    many = length-map ends (λ e. e.outcome) ∙ were.many_ends;
    many_gave = length-map ends (λ e. e.feed.gave) ∙ were.many_ends;
    some = limits.some_sources;
    few = limits.few_shards;
    shows = λ i l.
        let e = end_at i l in
        subst (Shows d opens i (get_or (map (λ x. x.feed.gave) ends) i [])) (outcome_at i e l)
        (subst (λ (es : List Entry). Shows d opens i es (get_or ends i e).outcome) (gave_at i e l)
        (shows reads word d base i (told (get_or names i [])) (get_or feeds i (feed_at i l)) (get_or ends i e).feed (get_or ends i e).outcome (unread_at i l) (were.back i (feed_at i l) e l) opens first (came i e l)));
    named = λ i l. let e = end_at i l in subst (NamesOneOf total) (outcome_at i e l) (were.named i e l);
    count = were.many_shards;
    none = λ empty i l. let e = end_at i l in subst IsFault (outcome_at i e l) (were.none empty i e l);
    alike = were.alike;
    parts = λ k i s m l.
        let e = end_at i l in
        subst (λ (o : Outcome). HoldsFirst total k i (get_or (map (λ x. x.feed.gave) ends) i []) o (get_or shards k s).journal) (outcome_at i e l)
        (subst (λ (es : List Entry). HoldsFirst total k i es (get_or ends i e).outcome (get_or shards k s).journal) (gave_at i e l) (were.parts k i s e m l));
  }
