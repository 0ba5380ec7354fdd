-- Feeds that are read to their ends, one after another, and what came of it.
use Rattle.std.proofs.Common.{◌≡◌, ◌∙◌, ◌<◌, ◌≤◌, ◌+◌, ◌++◌, ◌⊎◌, ℕ, List, [], ◌∷◌, length, length-set, get_or, set, Option, Some, None, Result, Ok, Err, sym, subst, ap, refl, arith, inl, inr, ⊎_elim}
use Rattle.std.specs.Prelude.{IfOk, IfErr, IfSome, IsErrOf, OnOk}
use Rattle.std.proofs.lemmas.Bool.{cases_lt}
use Rattle.std.proofs.lemmas.List.{get_or_append_left, get_or_push, get_or_read, get_or-set_other, get_or-set_same, length_push}
use Rattle.stream_base.specs.Limits.{Definitions}
use Rattle.outside.specs.Outside.{Reads, Rose, back}
use Rattle.stream_base.specs.declared.entry.Entry.{Entry}
use Rattle.source_feed.specs.FeedFault.{refusal_of}
use Rattle.source_feed.specs.FeedView.{Answers, FeedView, Steps, StepsBack, StepsNowhere, StepsOn, given_then}
use Rattle.source_feed.specs.FileFeedState.{FileFeedState, feed_view, stream_seen}
use Rattle.source_feed.specs.Gives.{CountsReads}
use Rattle.source_feed.specs.Stream.{Refusal, Stream}
use Rattle.source_feed.specs.declared.feed_fault.FeedFault.{FeedFault}
use Rattle.source_feed.specs.declared.feed_fault.FeedFault.TheVariants.{Read as FeedRead, TooLong as FeedTooLong, Row as FeedRow, NoMemory as FeedMemory}
use Rattle.emission_text.specs.declared.fault.Fault.{Fault}
use Rattle.run_inputs.specs.Causes.{AreAllRead, IsSourceRead, StopsAtSources}
use Rattle.run_inputs.specs.Opening.{AreUnread}
use Rattle.run_inputs.specs.Outside.{Asks, Opens, Telling, came_at}
use Rattle.run_inputs.specs.Reading.{AreDrained, AreFresh, AreSameFeeds, IsDrained, IsFirstTrouble, IsReadAt, IsReadOn, IsSameFeed, IsStuck, fault_of}
use Rattle.run_inputs.proofs.Opened.{some_of}
use Rattle.run_inputs.proofs.SameFeed.{faults_before, place_stays, seen_as, word_stays}
use Rattle.run_inputs.proofs.Shown.{ShowsFault, shows_fault, shows_whole}

-- ---- one feed
-- where a feed stands that has given some entries so far
pub record IsDraining (start now : FeedView) (given : List Entry) (old new : ℕ) : Type 0 where
  pub same : IsSameFeed start now
  pub unanswered : now.answered ≡ None
  pub gave : now.gave ≡ given
  pub quiet : new ≡ old

module _ (start old new : FeedView) (given : List Entry) (first before after : ℕ) (r : Result (Option Entry) FeedFault) (steps : Steps old r new) (inv : IsDraining start old given first before) where
  -- it stays the same feed
  pub drain_same : IsSameFeed start new
  drain_same = record { source = steps.source ∙ (inv.same).source; origin = steps.origin ∙ (inv.same).origin }

  -- one entry more
  pub drain_more : (entry : Entry) → r ≡ Ok (Some entry) → CountsReads old.answered before r after → IsDraining start new (given ++ entry ∷ []) first after
  drain_more entry e counts =
      let g : StepsOn old entry new = subst (λ (x : Result (Option Entry) FeedFault). Answers old x new) e steps.outcome in
      record {
        same = drain_same;
        unanswered = g.still_unanswered;
        gave = g.gave ∙ ap (λ (es : List Entry). es ++ entry ∷ []) inv.gave;
        quiet = subst (λ (x : Result (Option Entry) FeedFault). OnOk x (after ≡ before)) e counts.quiet ∙ inv.quiet;
      }

  -- nothing more
  pub drain_ends : r ≡ Ok None → IsDrained new given
  drain_ends e =
      let g : StepsNowhere old new = subst (λ (x : Result (Option Entry) FeedFault). Answers old x new) e steps.outcome in
      g.all ∙ ap (λ (es : List Entry). Some (given_then es None)) (g.gave ∙ inv.gave)

  -- or a fault
  pub drain_fails : (fault : FeedFault) → r ≡ Err fault → IsStuck new fault
  drain_fails fault e =
      let g : StepsBack old fault new = subst (λ (x : Result (Option Entry) FeedFault). Answers old x new) e steps.outcome in
      shows (refusal_of fault) g.refused
    where
      shows : (q : Option Refusal) → IfSome q (λ refusal. new.whole ≡ Some (given_then new.gave (Some refusal))) → IfSome q (λ refusal. (entries : List Entry) × (new.whole ≡ Some (given_then entries (Some refusal))))
      shows None x = tt
      shows (Some refusal) x = (new.gave, x)

  pub drain_quiet : CountsReads old.answered before r after → r ≡ Ok None → after ≡ first
  drain_quiet counts e = subst (λ (x : Result (Option Entry) FeedFault). OnOk x (after ≡ before)) e counts.quiet ∙ inv.quiet

  pub drain_rises : CountsReads old.answered before r after → IsErrOf r FeedRead → Rose first after
  drain_rises counts read = by (counts.read read)
    where
      none : {x : FeedFault} → None ≡ Some x → ⊥
      none e = cc

      by : (old.answered ≡ Some FeedRead) ⊎ Rose before after → Rose first after
      by (inl e) = absurd (none (sym inv.unanswered ∙ e))
      by (inr rose) = subst (λ n. Rose n after) inv.quiet rose

pub no_memory_is_no_read : FeedMemory ≡ FeedRead → ⊥
no_memory_is_no_read e = cc

-- a refusal that a feed shows is one that was seen, where what was seen is the same
stuck_as : (q : Option Refusal) (whole seen : Option Stream) → ((o : Option Stream) → whole ≡ o → seen ≡ o)
    → IfSome q (λ refusal. (entries : List Entry) × (whole ≡ Some (given_then entries (Some refusal)))) → IfSome q (λ refusal. (entries : List Entry) × (seen ≡ Some (given_then entries (Some refusal))))
stuck_as None whole seen is x = tt
stuck_as (Some refusal) whole seen is x = (x.0, is (Some (given_then x.0 (Some refusal))) x.1)

-- ---- feeds, one after another
module _ {S : Type 0} (reads : S → Reads) (word : S → Option (List ℕ)) where
  -- where the reading of feeds stands before the one at a place
  pub record AreDraining (old now : List (FileFeedState S)) (all : List (List Entry)) (place : ℕ) : Type 0 where
    pub same : AreSameFeeds reads word old now
    pub count : length all ≡ place
    pub drained : AreDrained reads word old now all
    pub untouched : (j : ℕ) (f : FileFeedState S) → place ≤ j → get_or now j f ≡ get_or old j f

  pub none_drained : (feeds : List (FileFeedState S)) → AreDraining feeds feeds [] 0
  none_drained feeds = record {
    same = record { many = refl; each = λ i f l. record { source = refl; origin = refl } };
    count = refl;
    drained = λ i l. absurd (let no : ⊥ = omega (arith, l) in no);
    untouched = λ j f l. refl;
  }

  -- the feed at a place was read further
  module _ (old now : List (FileFeedState S)) (all : List (List Entry)) (place : ℕ) (x new : FileFeedState S) (inside : place < length now) (is : x ≡ get_or now place x)
      (same : IsSameFeed (feed_view reads word x) (feed_view reads word new)) (inv : AreDraining old now all place) where
    -- a feed that is read is the one that stood there first
    stood : (f : FileFeedState S) → get_or old place f ≡ x
    stood f = sym (inv.untouched place f (omega arith)) ∙ sym (get_or_read now place x inside is f)

    here : (f : FileFeedState S) → get_or (set now place new) place f ≡ new
    here f = get_or-set_same now place new f inside

    there : (j : ℕ) (f : FileFeedState S) → (place ≡ j → ⊥) → get_or (set now place new) j f ≡ get_or now j f
    there j f other = get_or-set_other now place j new f (λ e. other (sym e))

    either : (j : ℕ) → (place ≡ j) ⊎ (place ≡ j → ⊥)
    either j = ⊎_elim (λ (less : j < place). inr (λ e. omega (arith, e, less))) (λ ge. ⊎_elim (λ (more : place < j). inr (λ e. omega (arith, e, more))) (λ le. inl (omega (arith, ge, le))) (cases_lt place j)) (cases_lt j place)

    pub same_more : AreSameFeeds reads word old (set now place new)
    same_more = record {
      many = length-set now place new ∙ (inv.same).many;
      each = λ i f l. ⊎_elim
          (λ (e : place ≡ i).
          subst (λ k. IsSameFeed (feed_view reads word (get_or old k f)) (feed_view reads word (get_or (set now place new) k f))) e
          (subst (λ (y : FileFeedState S). IsSameFeed (feed_view reads word y) (feed_view reads word (get_or (set now place new) place f))) (sym (stood f))
          (subst (λ (y : FileFeedState S). IsSameFeed (feed_view reads word x) (feed_view reads word y)) (sym (here f)) same)))
          (λ other. subst (λ (y : FileFeedState S). IsSameFeed (feed_view reads word (get_or old i f)) (feed_view reads word y)) (sym (there i f other)) ((inv.same).each i f l))
          (either i);
    }

    before : (i : ℕ) → i < length all → IsReadAt reads word old (set now place new) i (get_or all i [])
    before i l f =
        let count = inv.count in
        subst (λ (y : FileFeedState S). IsReadOn reads word (get_or old i f) y (get_or all i [])) (sym (there i f (λ e. omega (arith, e, l, count)))) (inv.drained i l f)

    -- to its end
    pub draining_more : (entries : List Entry) → IsDrained (feed_view reads word new) entries → (reads new.from).faults ≡ (reads x.from).faults → AreDraining old (set now place new) (all ++ entries ∷ []) (place + 1)
    draining_more entries own quiet = record {
      same = same_more;
      count = let count = inv.count in omega (arith, length_push all entries, count);
      drained = λ i l f. ⊎_elim
          (λ (less : i < length all). subst (λ (es : List Entry). IsReadOn reads word (get_or old i f) (get_or (set now place new) i f) es) (sym (get_or_append_left all (entries ∷ []) [] i less)) (before i less f))
          (λ ge.
          let count = inv.count in
          let e : length all ≡ i = omega (arith, ge, l, length_push all entries) in
          let at : place ≡ i = sym count ∙ e in
          subst (λ (es : List Entry). IsReadOn reads word (get_or old i f) (get_or (set now place new) i f) es) (sym (get_or_push all entries [] i e))
          (subst (λ k. IsReadOn reads word (get_or old k f) (get_or (set now place new) k f) entries) at
          (subst (λ (y : FileFeedState S). IsReadOn reads word y (get_or (set now place new) place f) entries) (sym (stood f))
          (subst (λ (y : FileFeedState S). IsReadOn reads word x y entries) (sym (here f)) record { drained = own; quiet = quiet }))))
          (cases_lt i (length all));
      untouched = λ j f le. there j f (λ e. omega (arith, e, le)) ∙ inv.untouched j f (omega (arith, le));
    }

    -- or up to a fault
    pub draining_stops : (cause : FeedFault) (fault : Fault) → fault ≡ fault_of place cause → IsStuck (feed_view reads word new) cause → (cause ≡ FeedRead → Rose (reads x.from).faults (reads new.from).faults)
        → IsFirstTrouble reads word old (set now place new) fault
    draining_stops cause fault answered stuck rose = record {
      source = place;
      inside = let many = (inv.same).many in omega (arith, inside, many);
      cause = cause;
      answered = answered;
      below = λ i b. let count = inv.count in (get_or all i [], before i (omega (arith, count, b)));
      stuck = λ f. subst (λ (y : FileFeedState S). IsStuck (feed_view reads word y) cause) (sym (here f)) stuck;
      failed = λ f e.
          subst (λ (y : FileFeedState S). Rose (reads y.from).faults (reads (get_or (set now place new) place f).from).faults) (sym (stood f))
          (subst (λ (y : FileFeedState S). Rose (reads x.from).faults (reads y.from).faults) (sym (here f)) (rose e));
    }

  -- ---- what the sources gave
  module _ (base : ℕ) (told : Telling) (names : List (List ℕ)) (d : Definitions) (feeds : List (FileFeedState S)) (unread : AreUnread reads word base told names d feeds) where
    pub fresh : AreFresh reads word feeds
    fresh i f l =
        let is = ap (feed_view reads word) (unread i f l).feed_is in
        record {
          running = ap (λ (v : FeedView). v.ended) is;
          unanswered = ap (λ (v : FeedView). v.answered) is;
          blank = ap (λ (v : FeedView). v.gave) is;
        }

    module _ (new : List (FileFeedState S)) (many : length feeds ≡ length names) (same : AreSameFeeds reads word feeds new) where
      start : (i : ℕ) → i < length names → FileFeedState S
      start i l = some_of feeds i (omega (arith, l, many))

      -- each came from the open of its place
      pub place_at : (i : ℕ) (f : FileFeedState S) → i < length names → (reads (get_or new i f).from).place ≡ base + i
      place_at i f l =
          let m : i < length feeds = omega (arith, l, many) in
          let s = same.each i f m in
          place_stays reads word d (base + i) i (told (get_or names i [])) (get_or feeds i f) (get_or new i f) (unread i f m) s.source s.origin

      -- and tells what its file does
      pub tells_at : (i : ℕ) (f : FileFeedState S) → i < length names → word (get_or new i f).from ≡ told (get_or names i [])
      tells_at i f l =
          let m : i < length feeds = omega (arith, l, many) in
          let s = same.each i f m in
          word_stays reads word d (base + i) i (told (get_or names i [])) (get_or feeds i f) (get_or new i f) (unread i f m) s.source s.origin

      module _ (opens : Opens) (asked : Asks names opens) (first : length opens.before ≡ base) (came : (i : ℕ) (f : FileFeedState S) → i < length names → came_at opens i ≡ back (reads (get_or new i f).from)) where
        read_at : (i : ℕ) (entries : List Entry) → i < length names → IsReadAt reads word feeds new i entries → IsSourceRead opens d i entries
        read_at i entries l h =
            let m : i < length feeds = omega (arith, l, many) in
            let f = start i l in
            let s = same.each i f m in
            let r = h f in
            let u = unread i f m in
            shows_whole d opens i (reads (get_or new i f).from) (came i f l) entries
            (place_at i f l ∙ ap (λ n. n + i) (sym first))
            (r.quiet ∙ faults_before reads word d (base + i) i (told (get_or names i [])) (get_or feeds i f) (get_or new i f) u s.source s.origin)
            (seen_as reads word d (base + i) i (told (get_or names i [])) (get_or feeds i f) (get_or new i f) u s.source s.origin (Some (given_then entries None)) r.drained)

        all_read : (all : List (List Entry)) → length all ≡ length feeds → AreDrained reads word feeds new all → AreAllRead names d opens all
        all_read all whole h = record {
          asked = asked;
          many = whole ∙ many;
          each = λ i l. read_at i (get_or all i []) l (h i (omega (arith, l, many, whole)));
        }

        pub read_of : {T : Type 0} (items : T → List (List Entry)) (size : T → ℕ) (r : Result T Fault) → ((t : T) → size t ≡ length (items t)) → IfOk r (λ t. size t ≡ length feeds) → IfOk r (λ t. AreDrained reads word feeds new (items t)) → IfOk r (λ t. AreAllRead names d opens (items t))
        read_of items size (Ok t) same whole h = all_read (items t) (sym (same t) ∙ whole) h
        read_of items size (Err fault) same whole h = tt

        stops_at : (shards : ℕ) (fault : Fault) → IsFirstTrouble reads word feeds new fault → StopsAtSources names shards d opens fault
        stops_at shards fault h = subst (StopsAtSources names shards d opens) (sym h.answered) (by h.cause (shown h))
          where
            below : (i : ℕ) → i < h.source → (entries : List Entry) × IsSourceRead opens d i entries
            below i b = let inside = h.inside in let r = h.below i b in (r.0, read_at i r.0 (omega (arith, b, inside, many)) r.1)

            shown : (t : IsFirstTrouble reads word feeds new fault) → ShowsFault d opens t.source t.cause
            shown t =
                let inside = t.inside in
                let l : t.source < length names = omega (arith, inside, many) in
                let f = start t.source l in
                let s = same.each t.source f inside in
                let u = unread t.source f inside in
                let before = faults_before reads word d (base + t.source) t.source (told (get_or names t.source [])) (get_or feeds t.source f) (get_or new t.source f) u s.source s.origin in
                shows_fault d opens t.source (reads (get_or new t.source f).from) (came t.source f l) t.cause
                (λ e. above (reads (get_or new t.source f).from).faults (subst (λ n. Rose n (reads (get_or new t.source f).from).faults) before (t.failed f e)))
                (stuck_as (refusal_of t.cause) (feed_view reads word (get_or new t.source f)).whole (stream_seen t.source d.every d.disorder (reads (get_or new t.source f).from))
                (seen_as reads word d (base + t.source) t.source (told (get_or names t.source [])) (get_or feeds t.source f) (get_or new t.source f) u s.source s.origin) (t.stuck f))
              where
                above : (n : ℕ) → Rose 0 n → 0 < n
                above n (inl more) = more
                above n (inr last) = omega (arith, last)

            by : (f : FeedFault) → ShowsFault d opens h.source f → StopsAtSources names shards d opens (fault_of h.source f)
            by FeedRead x = record { inside = let inside = h.inside in omega (arith, inside, many); asked = asked; below = below; read = x }
            by FeedTooLong x = record { inside = let inside = h.inside in omega (arith, inside, many); asked = asked; below = below; read = x }
            by (FeedRow number why) x = record { inside = let inside = h.inside in omega (arith, inside, many); asked = asked; below = below; read = x }
            by FeedMemory x = tt

        pub stops_of : {T : Type 0} (shards : ℕ) (r : Result T Fault) → IfErr r (IsFirstTrouble reads word feeds new) → IfErr r (StopsAtSources names shards d opens)
        stops_of shards (Ok t) h = tt
        stops_of shards (Err fault) h = stops_at shards fault h
