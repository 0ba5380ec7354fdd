-- What became of the sources of a run, by how their feeds were gathered.
use Rattle.std.proofs.Common.{◌≡◌, ◌∙◌, ◌<◌, ◌≤◌, ◌⊎◌, ℕ, List, [], ◌∷◌, All, length, map, get_or, ap, sym, subst, arith, inl, inr, length-append}
use Rattle.std.proofs.lemmas.List.{get_or-map, length-map, get_or_default}
use Rattle.stream_base.specs.Limits.{Definitions}
use Rattle.stream_base.specs.declared.entry.Entry.{Entry}
use Rattle.stream_base.specs.declared.limits.TheConstants.{JOURNAL_MAX}
use Rattle.stream_base.specs.Model.Routes.{entries_from, routed}
use Rattle.shard_core.specs.Shard.{IsJournal, Sharded}
use Rattle.source_feed.specs.declared.feed_fault.FeedFault.{FeedFault}
use Rattle.source_feed.specs.declared.feed_fault.FeedFault.TheVariants.{Read as FeedRead, TooLong as FeedTooLong, Row as FeedRow, NoMemory as FeedMemory}
use Rattle.emission_text.specs.declared.fault.Fault.{Fault}
use Rattle.fan_in.specs.declared.outcome.Outcome.{Outcome}
use Rattle.fan_in.specs.declared.outcome.Outcome.TheVariants.{Done, Full, Fault as Failed}
use Rattle.fan_in.specs.Gathering.{HoldsFirst, IsFault, IsGathered, NamesOneOf}
use Rattle.run_inputs.specs.Causes.{AreAllRead, AreShardsOf, IsOverfull, IsSourceRead, StopsAtSources, count_routed}
use Rattle.run_inputs.specs.Outside.{Asks, Opens}
use Rattle.run_inputs.specs.Reading.{fault_of}
use Rattle.scotty_run.specs.Settling.{IsTrouble}
use Rattle.scotty_run.proofs.Counting.{sum_beyond}
use Rattle.run_inputs.proofs.Shown.{ShowsFault}

-- what the outcome of a source shows of it
abbrev pub Shows : Definitions → Opens → ℕ → List Entry → Outcome → Type 0
Shows d opens i entries Done = IsSourceRead opens d i entries
Shows d opens i entries (Full k) = IsSourceRead opens d i entries
Shows d opens i entries (Failed fault) = ShowsFault d opens i fault

-- what the gathering of a run's sources came to
pub record IsGathering (names : List (List ℕ)) (total : ℕ) (d : Definitions) (opens : Opens) (outcomes : List Outcome) (gave : List (List Entry)) (shards : List Sharded) : Type 0 where
  pub asked : Asks names opens
  pub many : length outcomes ≡ length names
  pub many_gave : length gave ≡ length names
  pub some : 1 ≤ length names
  pub few : total ≤ 16
  pub shows : (i : ℕ) → i < length names → Shows d opens i (get_or gave i []) (get_or outcomes i Done)
  pub named : (i : ℕ) → i < length names → NamesOneOf total (get_or outcomes i Done)
  pub count : (shards ≡ []) ⊎ (length shards ≡ total)
  pub none : shards ≡ [] → (i : ℕ) → i < length names → IsFault (get_or outcomes i Done)
  pub alike : (k : ℕ) (s : Sharded) → k < length shards → IsGathered d (length names) (get_or shards k s)
  pub parts : (k i : ℕ) (s : Sharded) → k < length shards → i < length names
      → HoldsFirst total k i (get_or gave i []) (get_or outcomes i Done) (get_or shards k s).journal

-- an outcome that isn't a fault shows that its source was read whole
read_by : (d : Definitions) (opens : Opens) (i : ℕ) (entries : List Entry) (o : Outcome) → ¬ (IsFault o) → Shows d opens i entries o → IsSourceRead opens d i entries
read_by d opens i entries Done none h = h
read_by d opens i entries (Full k) none h = h
read_by d opens i entries (Failed f) none h = absurd (none tt)

no_fault_done : (o : Outcome) → o ≡ Done → ¬ (IsFault o)
no_fault_done o is h = subst IsFault is h

some_shard : (k : ℕ) (xs : List Sharded) → k < length xs → Sharded
some_shard k [] l = absurd (let no : ⊥ = omega (arith, l) in no)
some_shard k (x ∷ xs) l = x

module _ (names : List (List ℕ)) (total : ℕ) (d : Definitions) (opens : Opens) (outcomes : List Outcome) (gave : List (List Entry)) (shards : List Sharded) (g : IsGathering names total d opens outcomes gave shards) where
  source_read : (i : ℕ) → i < length names → ¬ (IsFault (get_or outcomes i Done)) → IsSourceRead opens d i (get_or gave i [])
  source_read i l none = read_by d opens i (get_or gave i []) (get_or outcomes i Done) none (g.shows i l)

  -- where no outcome is a fault, all sources were read whole
  all_read : ((i : ℕ) → i < length names → ¬ (IsFault (get_or outcomes i Done))) → AreAllRead names d opens gave
  all_read none = record { asked = g.asked; many = g.many_gave; each = λ i l. source_read i l (none i l) }

  -- and all shards came back
  all_back : (i : ℕ) → i < length names → ¬ (IsFault (get_or outcomes i Done)) → length shards ≡ total
  all_back i l none = by g.count
    where
      by : (shards ≡ []) ⊎ (length shards ≡ total) → length shards ≡ total
      by (inl empty) = absurd (none (g.none empty i l))
      by (inr all) = all

  journals : List (List Entry)
  journals = map (λ s. s.journal) shards

  journal_at : (k : ℕ) (s : Sharded) → k < length shards → get_or journals k [] ≡ (get_or shards k s).journal
  unfolding journals
  journal_at k s l =
      let below : k < length (map (λ (x : Sharded). x.journal) shards) = let n = length-map shards (λ (x : Sharded). x.journal) in omega (arith, l, n) in
      get_or_default (map (λ (x : Sharded). x.journal) shards) k [] s.journal below ∙ get_or-map (λ (x : Sharded). x.journal) shards k s s.journal l

  -- the shards of a run whose outcomes are all done
  pub shards_of : All (λ o. o ≡ Done) outcomes → AreShardsOf names total d opens shards
  unfolding journals
  shards_of done = record {
    all = gave;
    sources = all_read (λ i l. no_fault_done (get_or outcomes i Done) (is_done i l));
    alike = λ k s l. let a = g.alike k s l in (a.defs, a.sources_are);
    lawful = record {
      count = count;
      known = known;
      held = held;
    };
    few = let n = back in let m = g.few in omega (arith, n, m);
    journals = λ k s l. let a = g.alike k s l in subst (λ n. IsJournal n (get_or shards k s).journal) (sym a.sources_are) a.journal;
  }
    where
      is_done : (i : ℕ) → i < length names → get_or outcomes i Done ≡ Done
      is_done i l = done i Done (let m = g.many in omega (arith, l, m))

      back : length shards ≡ total
      back = let some = g.some in all_back 0 (omega (arith, some)) (no_fault_done (get_or outcomes 0 Done) (is_done 0 (omega (arith, some))))

      count : length journals ≡ total
      count = length-map shards (λ s. s.journal) ∙ back

      inside : (k : ℕ) → k < length journals → k < length shards
      inside k l = let n = length-map shards (λ (s : Sharded). s.journal) in omega (arith, l, n)

      known : (k i : ℕ) (e : Entry) → k < length journals → i < length (get_or journals k []) → (get_or (get_or journals k []) i e).source < length gave
      known k i e l m =
          let l2 = inside k l in
          let s = some_shard k shards l2 in
          let at = journal_at k s l2 in
          let below = subst (λ (j : List Entry). All (λ x. x.source < length names) j) (sym at) (((g.alike k s l2).journal).known).known_sources in
          let b : (get_or (get_or journals k []) i e).source < length names = below i e m in
          let many = g.many_gave in
          omega (arith, b, many)

      held : (k s : ℕ) → k < length journals → s < length gave → entries_from s (get_or journals k []) ≡ routed total k (get_or gave s [])
      held k i l m =
          let l2 = inside k l in
          let s = some_shard k shards l2 in
          let n = g.many_gave in
          let li : i < length names = omega (arith, m, n) in
          ap (entries_from i) (journal_at k s l2) ∙ (g.parts k i s l2 li).whole (is_done i li)

  -- a shard that an outcome names as full, where none is a fault
  overfull : (i k : ℕ) → i < length names → get_or outcomes i Done ≡ Full k → ((j : ℕ) → j < length names → ¬ (IsFault (get_or outcomes j Done))) → IsOverfull names total d opens k
  overfull i k l is none = record {
    inside = below;
    all = gave;
    sources = all_read none;
    many = many;
  }
    where
      below : k < total
      below = subst (NamesOneOf total) is (g.named i l)

      there : k < length shards
      there = let n = all_back i l (none i l) in omega (arith, below, n)

      many : JOURNAL_MAX < count_routed total gave k
      many =
          let s = some_shard k shards there in
          let journal = (get_or shards k s).journal in
          let n = g.many_gave in
          let mine = g.parts k i s there l in
          let full : length journal ≡ JOURNAL_MAX = mine.full is in
          let lacks : length (entries_from i journal) < length (routed total k (get_or gave i [])) = mine.lacks is in
          let each : (j : ℕ) → j < length gave → length (entries_from j journal) ≤ length (routed total k (get_or gave j [])) =
          λ j m.
          let prefix = (g.parts k j s there (omega (arith, m, n))).prefix in
          let sizes = ap length prefix.1 in
          omega (arith, sizes, length-append (entries_from j journal) prefix.0) in
          let known = subst (λ (x : ℕ). All (λ e. e.source < x) journal) (sym n) (((g.alike k s there).journal).known).known_sources in
          let beyond = sum_beyond (λ es. length (routed total k es)) journal gave i known each (omega (arith, l, n)) lacks in
          omega (arith, full, beyond)

  -- the fault of the first source that has one stops the run
  first_fault : (source : ℕ) → source < length names → (cause : FeedFault) → get_or outcomes source Done ≡ Failed cause → ((i : ℕ) → i < source → ¬ (IsFault (get_or outcomes i Done)))
      → StopsAtSources names total d opens (fault_of source cause)
  first_fault source l cause is none = by cause (shown cause (subst (Shows d opens source (get_or gave source [])) is (g.shows source l)))
    where
      below : (i : ℕ) → i < source → (entries : List Entry) × IsSourceRead opens d i entries
      below i m = (get_or gave i [], source_read i (omega (arith, m, l)) (none i m))

      shown : (f : FeedFault) → Shows d opens source (get_or gave source []) (Failed f) → ShowsFault d opens source f
      shown f h = h

      by : (f : FeedFault) → ShowsFault d opens source f → StopsAtSources names total d opens (fault_of source f)
      by FeedRead h = record { inside = l; asked = g.asked; below = below; read = h }
      by FeedTooLong h = record { inside = l; asked = g.asked; below = below; read = h }
      by (FeedRow number why) h = record { inside = l; asked = g.asked; below = below; read = h }
      by FeedMemory h = tt

  -- what the outcomes are answered with stops the run
  pub stops_at : (fault : Fault) → IsTrouble outcomes fault → StopsAtSources names total d opens fault
  stops_at fault (inl h) =
      let many = g.many in
      let inside = h.inside in
      let l : h.source < length names = omega (arith, inside, many) in
      subst (StopsAtSources names total d opens) (sym h.answered)
      (first_fault h.source l h.cause (h.met Done) (λ i b. h.below i Done b))
  stops_at fault (inr h) =
      let many = g.many in
      let (i, l, is) = h.least.0 in
      let li : i < length names = omega (arith, l, many) in
      let at : get_or outcomes i Done ≡ Full h.shard = get_or_default outcomes i Done (Full h.shard) l ∙ is in
      subst (StopsAtSources names total d opens) (sym h.answered)
      (overfull i h.shard li at (λ j m. h.no_faults j Done (omega (arith, m, many))))
