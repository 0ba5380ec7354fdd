-- The feeds and the shards of a made run.
use Rattle.std.proofs.Common.{◌≡◌, ◌∙◌, ◌<◌, ◌+◌, ◌++◌, ◌⊎◌, ℕ, List, [], ◌∷◌, All, length, map, take, get_or, ap, sym, subst, arith, inl, inr, ⊎_elim, length-append, None, Some}
use Rattle.std.specs.List.{range_with_len}
use Rattle.std.proofs.lemmas.Bool.{cases_lt}
use Rattle.std.proofs.lemmas.Grind.{flat_map-append}
use Rattle.std.proofs.lemmas.List.{append-nil, get_or-map, get_or_append_left, get_or_push, length-map, map-append, take_more}
use Rattle.std.proofs.lemmas.List.FromFn.{get_or-range_with_len, length-range_with_len}
use Rattle.stream_base.specs.Model.Changes.{standing_rows}
use Rattle.stream_base.specs.Model.Routes.{entries_from, routed}
use Rattle.stream_base.specs.declared.entry.Entry.{Entry}
use Rattle.stream_base.specs.declared.row.Row.{Row}
use Rattle.shard_core.specs.Shard.{Sharded}
use Rattle.source_feed.specs.FeedView.{FeedView, given_then}
use Rattle.source_feed.specs.Generated.{made_definitions, made_entries, made_sources, made_stream}
use Rattle.source_feed.specs.Stream.{StaysTold, Stream}
use Rattle.fan_in.specs.declared.gathered.FeedEnd.{FeedEnd}
use Rattle.fan_in.specs.declared.outcome.Outcome.{Outcome}
use Rattle.fan_in.specs.declared.outcome.Outcome.TheVariants.{Done}
use Rattle.fan_in.specs.Gathering.{AreFreshFeeds, AreGathered, GaveStream, IsFault}
use Rattle.final_rows.specs.AtEnd.{rows_of_shards}
use Rattle.scotty_run.specs.Making.{AreMadeFeeds, AreMadeShards, AreOfDefinitions, made_feed}
use Rattle.command_words.specs.Words.{IsWithinLimits, Made}
use Rattle.run_inputs.proofs.Opened.{some_of}

abbrev Feed : Type 0
Feed = FeedView

abbrev End : Type 0
End = FeedEnd Feed

-- the rows of one shard more
pub standing_more : (sources : ℕ) (shards : List Sharded) (i : ℕ) (s : Sharded) (rows own : List Row) → i < length shards → s ≡ get_or shards i s → AreOfDefinitions sources shards
    → rows ≡ rows_of_shards made_definitions sources (map (λ s. s.journal) (take i shards)) → own ≡ standing_rows s.defs s.sources s.journal
    → rows ++ own ≡ rows_of_shards made_definitions sources (map (λ s. s.journal) (take (i + 1) shards))
standing_more sources shards i s rows own l is alike before mine =
    let journal : Sharded → List Entry = λ (x : Sharded). x.journal in
    let of = alike i s l in
    let here : own ≡ standing_rows made_definitions sources s.journal =
    mine ∙ ap (λ d. standing_rows d s.sources s.journal) (ap (λ (x : Sharded). x.defs) is ∙ of.0) ∙ ap (λ n. standing_rows made_definitions n s.journal) (ap (λ (x : Sharded). x.sources) is ∙ of.1) in
    let single : own ≡ rows_of_shards made_definitions sources (s.journal ∷ []) = here ∙ sym (append-nil (standing_rows made_definitions sources s.journal)) in
    ap (λ r. r ++ own) before
    ∙ ap (λ r. rows_of_shards made_definitions sources (map journal (take i shards)) ++ r) single
    ∙ sym (flat_map-append (standing_rows made_definitions sources) (map journal (take i shards)) (s.journal ∷ []))
    ∙ ap (rows_of_shards made_definitions sources) (sym (map-append journal (take i shards) (s ∷ [])) ∙ ap (map journal) (ap (λ x. take i shards ++ x ∷ []) is ∙ sym (take_more shards i s l)))

-- a feed that came back with all its entries gave those of its stream
gave_all : (stream : Stream) (back : Feed) (outcome : Outcome) → outcome ≡ Done → GaveStream back outcome → back.whole ≡ Some stream → back.gave ≡ stream.entries
gave_all stream back outcome done gave whole =
    let all : back.whole ≡ Some (given_then back.gave None) = subst (GaveStream back) done gave in
    let is : Some (given_then back.gave None) ≡ Some stream = sym all ∙ whole in
    ap (λ (s : Stream). s.entries) (some_inj is)
  where
    some_inj : {x y : Stream} → Some x ≡ Some y → x ≡ y
    some_inj e = cc

module _ (run : Made) where
  -- one feed more
  pub made_more : (feeds : List Feed) (feed : Feed) (n : ℕ) → length feeds ≡ n → AreMadeFeeds run feeds → feed ≡ made_feed run.seed run.rows run.sources n → AreMadeFeeds run (feeds ++ feed ∷ [])
  made_more feeds feed n many h is i f l =
      ⊎_elim (λ (less : i < length feeds). get_or_append_left feeds (feed ∷ []) f i less ∙ h i f less)
      (λ ge.
      let same : n ≡ i = let size = length-append feeds (feed ∷ []) in omega (arith, ge, many, l, size) in
      get_or_push feeds feed f i (many ∙ same) ∙ is ∙ ap (made_feed run.seed run.rows run.sources) same)
      (cases_lt i (length feeds))

  -- the feeds weren't read yet
  pub fresh_feeds : (feeds : List Feed) → length feeds ≡ run.sources → AreMadeFeeds run feeds → AreFreshFeeds (λ f. f) run.sources feeds
  fresh_feeds feeds many made = record {
    one_each = many;
    fresh = λ i f l.
        let is = made i f l in
        record {
          of_source = ap (λ (s : Feed). s.source) is;
          running = ap (λ (s : Feed). s.ended) is;
          unanswered = ap (λ (s : Feed). s.answered) is;
          blank = ap (λ (s : Feed). s.gave) is;
        };
  }

  made_count : length (made_sources run.seed run.rows run.sources) ≡ run.sources
  made_count = length-map (range_with_len 0 run.sources) (made_entries run.seed run.rows run.sources) ∙ length-range_with_len 0 run.sources

  made_at : (i : ℕ) → i < run.sources → get_or (made_sources run.seed run.rows run.sources) i [] ≡ made_entries run.seed run.rows run.sources i
  made_at i l =
      let inside : i < length (range_with_len 0 run.sources) = let n = length-range_with_len 0 run.sources in omega (arith, l, n) in
      let zero : 0 + i ≡ i = omega arith in
      get_or-map (made_entries run.seed run.rows run.sources) (range_with_len 0 run.sources) i 0 [] inside ∙ ap (made_entries run.seed run.rows run.sources) (get_or-range_with_len 0 run.sources i 0 l ∙ zero)

  module _ (limits : IsWithinLimits run) (feeds : List Feed) (ends : List End) (shards : List Sharded)
      (one_each : length feeds ≡ run.sources)
      (were : AreGathered (λ f. f) (λ _. 0) made_definitions run.sources run.shards feeds shards ends)
      (made : AreMadeFeeds run feeds)
      (done : All (λ o. o ≡ Done) (map (λ e. e.outcome) ends)) where
    end_at : (i : ℕ) → i < run.sources → End
    end_at i l = some_of ends i (let n = were.many_ends in omega (arith, l, n))

    done_at : (i : ℕ) (e : End) → i < run.sources → (get_or ends i e).outcome ≡ Done
    done_at i e l =
        let outcome : End → Outcome = λ (x : End). x.outcome in
        let inside : i < length ends = let n = were.many_ends in omega (arith, l, n) in
        let below : i < length (map outcome ends) = let n = length-map ends outcome in omega (arith, inside, n) in
        sym (get_or-map outcome ends i e Done inside) ∙ done i Done below

    back : length shards ≡ run.shards
    back = by were.many_shards
      where
        by : (shards ≡ []) ⊎ (length shards ≡ run.shards) → length shards ≡ run.shards
        by (inl empty) =
            let some = (limits.few).some_sources in
            let l : 0 < run.sources = omega (arith, some) in
            let e = end_at 0 l in
            absurd (subst IsFault (done_at 0 e l) (were.none empty 0 e l))
        by (inr all) = all

    journals : List (List Entry)
    journals = map (λ s. s.journal) shards

    inside : (j : ℕ) → j < length journals → j < length shards
    unfolding journals
    inside j l = let n = length-map shards (λ (s : Sharded). s.journal) in omega (arith, l, n)

    journal_at : (j : ℕ) (s : Sharded) → j < length shards → get_or journals j [] ≡ (get_or shards j s).journal
    unfolding journals
    journal_at j s l = get_or-map (λ (x : Sharded). x.journal) shards j s [] l

    known : (j i : ℕ) (e : Entry) → j < length journals → i < length (get_or journals j []) → (get_or (get_or journals j []) i e).source < length (made_sources run.seed run.rows run.sources)
    known j i e l m =
        let l2 = inside j l in
        let s = some_of shards j l2 in
        let below = subst (λ (es : List Entry). All (λ x. x.source < run.sources) es) (sym (journal_at j s l2)) (((were.alike j s l2).journal).known).known_sources in
        let b : (get_or (get_or journals j []) i e).source < run.sources = below i e m in
        omega (arith, b, made_count)

    held : (j i : ℕ) → j < length journals → i < length (made_sources run.seed run.rows run.sources) → entries_from i (get_or journals j []) ≡ routed run.shards j (get_or (made_sources run.seed run.rows run.sources) i [])
    held j i l m =
        let l2 = inside j l in
        let li : i < run.sources = omega (arith, m, made_count) in
        let s = some_of shards j l2 in
        let f = some_of feeds i (omega (arith, li, one_each)) in
        let e = end_at i li in
        let b = were.back i f e li in
        let whole = subst (λ o. StaysTold o ((get_or ends i e).feed).whole) (ap (λ (x : Feed). x.whole) (made i f (omega (arith, li, one_each)))) b.seen in
        let gave = gave_all (made_stream run.seed run.rows run.sources i) (get_or ends i e).feed (get_or ends i e).outcome (done_at i e li) b.gave_stream whole in
        ap (entries_from i) (journal_at j s l2) ∙ (were.parts j i s e l2 li).whole (done_at i e li) ∙ ap (routed run.shards j) (gave ∙ sym (made_at i li))

    pub made_shards : AreMadeShards run shards
    unfolding journals
    made_shards = record {
      limits = limits;
      alike = λ j s l. let a = were.alike j s l in (a.defs, a.sources_are);
      lawful = record {
        count = length-map shards (λ s. s.journal) ∙ back;
        known = known;
        held = held;
      };
    }
