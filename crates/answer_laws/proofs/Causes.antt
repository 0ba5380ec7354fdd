-- Why told files stop a run: one cause, but for which of the shards is named that are too full.
use Rattle.std.proofs.Common.{◌≡◌, ◌≢◌, ◌∙◌, ◌≤◌, ◌<◌, ◌+◌, ◌⊎◌, inl, inr, ℕ, Bool, false, List, [], ◌∷◌, length, take, get_or, Some, None, ap, sym, subst, refl, arith, cond, leb, length-append, Ok, Err}
use Rattle.std.proofs.lemmas.List.{ext_get_or}
use Rattle.std.proofs.lemmas.Bool.{cases_lt}
use Rattle.std.proofs.lemmas.Bool.Decides.{nat_tests}
use Rattle.std.specs.Prelude.{nat_le}
use Rattle.stream_base.specs.Limits.{Definitions}
use Rattle.stream_base.specs.declared.entry.Entry.{Entry}
use Rattle.stream_base.specs.declared.limits.TheConstants.{JOURNAL_MAX}
use Rattle.outside.specs.Outside.{KeepsWord, Reads}
use Rattle.source_feed.specs.Events.{stream_of}
use Rattle.source_feed.specs.FeedView.{given_then}
use Rattle.source_feed.specs.Stream.{Refusal, Stream, bad_record, only_refused, too_long}
use Rattle.source_feed.specs.declared.whole.TheConstants.{SOURCE_MAX}
use Rattle.window_defs.specs.Reading.{reading_of}
use Rattle.window_defs.specs.declared.read.TheConstants.{BYTES_MAX}
use Rattle.window_defs.specs.declared.defs_fault.DefsFault.{DefsFault}
use Rattle.window_defs.specs.declared.defs_fault.DefsFault.TheVariants.{Long}
use Rattle.emission_text.specs.declared.fault.Fault.{Fault}
use Rattle.emission_text.specs.declared.fault.Fault.TheVariants.{Usage, Defs, Unopened, Row, Read, FullSource, FullShard, ReportOpen, ReportRead, ReportFull, NoMemory}
use Rattle.run_inputs.specs.Causes.{AreAllRead, AreRefused, IsInTrouble, StopsAtDefs, StopsAtSources, count_routed, stream_at}
use Rattle.scotty_run.specs.InMemory.{Tells}
use Rattle.run_inputs.specs.Outside.{Asks, Opens, Telling, came_at}
use Rattle.run_inputs.specs.Statuses.{status_of}
use Rattle.run_inputs.specs.declared.status.Status.TheVariants as status
use Rattle.answer_laws.specs.Once.{AreWell}
use Rattle.answer_laws.proofs.Told.{source_told, tells_both, well_at, well_back, well_before, well_is_quiet, well_is_unrefused, word_is_all}

-- too many bytes are refused as definitions
long_is_refused : (bytes : List ℕ) → BYTES_MAX < length bytes → reading_of bytes ≡ Err Long
unfolding reading_of
long_is_refused bytes h =
    let long : leb (length bytes) BYTES_MAX ≡ false = grind (arith, nat_tests) in
    rw long refl

-- and as a source
long_is_too_long : (d : Definitions) (source : ℕ) (bytes : List ℕ) → SOURCE_MAX < length bytes → (stream_at d source bytes).refusal ≡ Some too_long
long_is_too_long d source bytes h =
    let long : nat_le (length bytes) SOURCE_MAX ≡ false = grind (arith, nat_tests) in
    ap (λ (b : Bool). let s : Stream = cond b (stream_of source d.every d.disorder bytes) (only_refused too_long) in s.refusal) long

-- the fault for the refusal of a source
abbrev pub refusal_fault : ℕ → Refusal → Fault
refusal_fault source too_long = FullSource source
refusal_fault source (bad_record number why) = Row source number why

module _ (told : Telling) where
  -- the bytes of a file are refused as definitions
  abbrev pub IsEarly : List ℕ → Fault → Type 0
  IsEarly name fault = (cause : DefsFault) × (fault ≡ Defs cause) × Tells told name (λ bytes. reading_of bytes ≡ Err cause)

  module _ (d : Definitions) (names : List (List ℕ)) where
    -- the bytes of a source spell its entries
    abbrev pub Spells : ℕ → List Entry → Type 0
    Spells i entries = Tells told (get_or names i []) (λ bytes. stream_at d i bytes ≡ given_then entries None)

    -- the bytes of all sources do
    pub record AreToldAll (all : List (List Entry)) : Type 0 where
      pub many : length all ≡ length names
      pub each : (i : ℕ) → i < length names → Spells i (get_or all i [])

    -- this is the first source whose bytes are refused
    pub record IsFirstRefused (source : ℕ) (refusal : Refusal) : Type 0 where
      pub inside : source < length names
      pub below : (i : ℕ) → i < source → (entries : List Entry) × Spells i entries
      pub own : Tells told (get_or names source []) (λ bytes. (stream_at d source bytes).refusal ≡ Some refusal)

    abbrev pub IsTroubled : Fault → Type 0
    IsTroubled fault = (source : ℕ) × (refusal : Refusal) × (fault ≡ refusal_fault source refusal) × IsFirstRefused source refusal

    -- too much goes to this shard
    pub record IsOverfullOf (shards k : ℕ) : Type 0 where
      pub inside : k < shards
      pub all : List (List Entry)
      pub sources : AreToldAll all
      pub many : JOURNAL_MAX < count_routed shards all k

    abbrev pub IsFullOf : ℕ → Fault → Type 0
    IsFullOf shards fault = (k : ℕ) × (fault ≡ FullShard k) × IsOverfullOf shards k

    spells_once : (i : ℕ) (a b : List Entry) → Spells i a → Spells i b → a ≡ b
    spells_once i a b p q =
        let (bytes, x, y) = tells_both told (get_or names i []) (λ bytes. stream_at d i bytes ≡ given_then a None) (λ bytes. stream_at d i bytes ≡ given_then b None) p q in
        ap (λ (s : Stream). s.entries) (sym x ∙ y)

    -- bytes that spell entries aren't refused
    spells_no_refusal : (i : ℕ) (a : List Entry) (refusal : Refusal) → Spells i a → Tells told (get_or names i []) (λ bytes. (stream_at d i bytes).refusal ≡ Some refusal) → ⊥
    spells_no_refusal i a refusal p q =
        let (bytes, x, y) = tells_both told (get_or names i []) (λ bytes. stream_at d i bytes ≡ given_then a None) (λ bytes. (stream_at d i bytes).refusal ≡ Some refusal) p q in
        let none : None ≡ Some refusal = sym (ap (λ (s : Stream). s.refusal) x) ∙ y in
        cc

    -- the entries of all sources are decided
    pub all_once : (a b : List (List Entry)) → AreToldAll a → AreToldAll b → a ≡ b
    all_once a b p q =
        let m = p.many in
        ext_get_or [] a b (p.many ∙ sym q.many) (λ i l. let s : i < length names = omega (arith, l, m) in spells_once i (get_or a i []) (get_or b i []) (p.each i s) (q.each i s))

    pub all_or_troubled : (all : List (List Entry)) (fault : Fault) → AreToldAll all → IsTroubled fault → ⊥
    all_or_troubled all fault p (source, refusal, e, t) = spells_no_refusal source (get_or all source []) refusal (p.each source t.inside) t.own

    -- the first refused source is one, and so is its refusal
    pub trouble_once : (a b : Fault) → IsTroubled a → IsTroubled b → a ≡ b
    trouble_once a b (i, x, e, p) (j, y, f, q) = by (cases_lt i j) (cases_lt j i)
      where
        refusals : (s : ℕ) (x y : Refusal) → Tells told (get_or names s []) (λ bytes. (stream_at d s bytes).refusal ≡ Some x) → Tells told (get_or names s []) (λ bytes. (stream_at d s bytes).refusal ≡ Some y) → x ≡ y
        refusals s x y p q =
            let (bytes, u, v) = tells_both told (get_or names s []) (λ bytes. (stream_at d s bytes).refusal ≡ Some x) (λ bytes. (stream_at d s bytes).refusal ≡ Some y) p q in
            let same : Some x ≡ Some y = sym u ∙ v in
            cc

        by : (i < j) ⊎ (j ≤ i) → (j < i) ⊎ (i ≤ j) → a ≡ b
        by (inl l) m = let r = q.below i l in absurd (spells_no_refusal i r.0 x r.1 p.own)
        by (inr l) (inl m) = let r = p.below j m in absurd (spells_no_refusal j r.0 y r.1 q.own)
        by (inr l) (inr m) =
            let s : i ≡ j = omega (arith, l, m) in
            let own = subst (λ (n : ℕ). Tells told (get_or names n []) (λ bytes. (stream_at d n bytes).refusal ≡ Some x)) s p.own in
            e ∙ ap (λ (n : ℕ). refusal_fault n x) s ∙ ap (refusal_fault j) (refusals j x y own q.own) ∙ sym f

  module _ (opens : Opens) (well : AreWell told opens) where
    -- all that was read is told
    pub all_of_read : (names : List (List ℕ)) (d : Definitions) (all : List (List Entry)) → AreAllRead names d opens all → AreToldAll d names all
    all_of_read names d all h = record {
      many = h.many;
      each = λ i l. source_told told opens well names d i (get_or all i []) h.asked l (h.each i l);
    }

    trouble_of : (names : List (List ℕ)) (d : Definitions) (source : ℕ) (P : Reads → Type 0) (refusal : Refusal) → IsInTrouble names d opens source P
        → ((reads : Reads) (bytes : List ℕ) → P reads → KeepsWord reads bytes → (stream_at d source bytes).refusal ≡ Some refusal)
        → IsFirstRefused d names source refusal
    trouble_of names d source P refusal h shows =
        let inside = h.inside in
        let (reads, came, p) = h.read in
        let t = well_back told (get_or names source []) (came_at opens source) reads (well_at told opens well names h.asked source inside) came in
        record {
          inside = inside;
          below = λ i l. let r = h.below i l in (r.0, source_told told opens well names d i r.0 h.asked (omega (arith, l, inside)) r.1);
          own = (t.0, t.1, shows reads t.0 p t.2);
        }

    -- more than so many bytes were read of what is told
    more_told : (limit : ℕ) (reads : Reads) (bytes : List ℕ) → limit < length reads.given → KeepsWord reads bytes → limit < length bytes
    more_told limit reads bytes l h = let n = ap length h.parts ∙ length-append reads.given h.left in omega (arith, l, n)

    -- what sources stop a run with
    pub sources_stop : (names : List (List ℕ)) (shards : ℕ) (d : Definitions) (fault : Fault) → status_of fault ≢ status.NoMemory → StopsAtSources names shards d opens fault → IsTroubled d names fault ⊎ IsFullOf d names shards fault
    sources_stop names shards d Usage served h = absurd h
    sources_stop names shards d (Defs cause) served h = absurd h
    sources_stop names shards d (Unopened None) served h = absurd h
    sources_stop names shards d (Unopened (Some source)) served h = absurd (well_is_unrefused (told (get_or names source [])) (came_at opens source) (well_before told opens well names source h.inside h.asked) h.failed)
    sources_stop names shards d (Row source number why) served h =
        inl (
          source,
          bad_record number why,
          refl,
          trouble_of names d source _ (bad_record number why) h
              (λ reads bytes p k. ap (λ (b : List ℕ). (stream_at d source b).refusal) (word_is_all reads bytes p.ended k) ∙ p.refused),
        )
    sources_stop names shards d (Read None) served h = absurd h
    sources_stop names shards d (Read (Some source)) served h =
        let (reads, came, failed) = h.read in
        absurd (well_is_quiet (told (get_or names source [])) (came_at opens source) reads (well_at told opens well names h.asked source h.inside) came failed)
    sources_stop names shards d (FullSource source) served h =
        inl (source, too_long, refl, trouble_of names d source _ too_long h (λ reads bytes p k. long_is_too_long d source bytes (more_told SOURCE_MAX reads bytes p k)))
    sources_stop names shards d (FullShard k) served h = inr (k, refl, record { inside = h.inside; all = h.all; sources = all_of_read names d h.all h.sources; many = h.many })
    sources_stop names shards d ReportOpen served h = absurd h
    sources_stop names shards d ReportRead served h = absurd h
    sources_stop names shards d ReportFull served h = absurd h
    sources_stop names shards d NoMemory served h = absurd (served refl)

    refused_told : (name : List ℕ) (cause : DefsFault) → status_of (Defs cause) ≢ status.NoMemory → Asks (name ∷ []) opens → AreRefused opens cause → Tells told name (λ bytes. reading_of bytes ≡ Err cause)
    refused_told name cause served asked (inl (reads, came, p)) =
        let t = well_back told name (came_at opens 0) reads (well_at told opens well (name ∷ []) asked 0 (omega arith)) came in
        (t.0, t.1, ap reading_of (word_is_all reads t.0 p.0 t.2) ∙ p.1)
    refused_told name cause served asked (inr (inl (long, (reads, came, many)))) =
        let t = well_back told name (came_at opens 0) reads (well_at told opens well (name ∷ []) asked 0 (omega arith)) came in
        (t.0, t.1, long_is_refused t.0 (more_told BYTES_MAX reads t.0 many t.2) ∙ ap (λ (c : DefsFault). Err c) (sym long))
    refused_told name cause served asked (inr (inr none)) = absurd (served (ap (λ (c : DefsFault). status_of (Defs c)) none))

    -- what definitions stop a run with
    pub defs_stop : (name : List ℕ) (fault : Fault) → status_of fault ≢ status.NoMemory → StopsAtDefs name opens fault → IsEarly name fault
    defs_stop name Usage served h = absurd h
    defs_stop name (Defs cause) served h = (cause, refl, refused_told name cause served h.0 h.1)
    defs_stop name (Unopened place) served h = absurd (well_is_unrefused (told name) (came_at opens 0) (well_at told opens well (name ∷ []) h.1 0 (omega arith)) h.2)
    defs_stop name (Row source number why) served h = absurd h
    defs_stop name (Read place) served h =
        let (reads, came, failed) = h.2 in
        absurd (well_is_quiet (told name) (came_at opens 0) reads (well_at told opens well (name ∷ []) h.1 0 (omega arith)) came failed)
    defs_stop name (FullSource source) served h = absurd h
    defs_stop name (FullShard k) served h = absurd h
    defs_stop name ReportOpen served h = absurd h
    defs_stop name ReportRead served h = absurd h
    defs_stop name ReportFull served h = absurd h
    defs_stop name NoMemory served h = absurd (served refl)

  -- definitions are read once
  pub early_once : (name : List ℕ) (a b : Fault) → IsEarly name a → IsEarly name b → a ≡ b
  early_once name a b (x, e, p) (y, f, q) =
      let (bytes, u, v) = tells_both told name (λ bytes. reading_of bytes ≡ Err x) (λ bytes. reading_of bytes ≡ Err y) p q in
      let same : x ≡ y = let r : Err x ≡ Err y = sym u ∙ v in cc in
      e ∙ ap (λ (c : DefsFault). Defs c) same ∙ sym f

  pub early_or_read : (name : List ℕ) (fault : Fault) (d : Definitions) → IsEarly name fault → Tells told name (λ bytes. reading_of bytes ≡ Ok d) → ⊥
  early_or_read name fault d (x, e, p) q =
      let (bytes, u, v) = tells_both told name (λ bytes. reading_of bytes ≡ Err x) (λ bytes. reading_of bytes ≡ Ok d) p q in
      let r : Err x ≡ Ok d = sym u ∙ v in
      cc

  pub definitions_once : (name : List ℕ) (d e : Definitions) → Tells told name (λ bytes. reading_of bytes ≡ Ok d) → Tells told name (λ bytes. reading_of bytes ≡ Ok e) → d ≡ e
  definitions_once name d e p q =
      let (bytes, u, v) = tells_both told name (λ bytes. reading_of bytes ≡ Ok d) (λ bytes. reading_of bytes ≡ Ok e) p q in
      let r : Ok d ≡ Ok e = sym u ∙ v in
      cc

-- the opens at which sources stop a run
pub asked_by : (names : List (List ℕ)) (shards : ℕ) (d : Definitions) (opens : Opens) (fault : Fault) → status_of fault ≢ status.NoMemory → StopsAtSources names shards d opens fault → (some : List (List ℕ)) × Asks some opens
asked_by names shards d opens Usage served h = absurd h
asked_by names shards d opens (Defs cause) served h = absurd h
asked_by names shards d opens (Unopened None) served h = absurd h
asked_by names shards d opens (Unopened (Some source)) served h = (take (source + 1) names, h.asked)
asked_by names shards d opens (Row source number why) served h = (names, h.asked)
asked_by names shards d opens (Read None) served h = absurd h
asked_by names shards d opens (Read (Some source)) served h = (names, h.asked)
asked_by names shards d opens (FullSource source) served h = (names, h.asked)
asked_by names shards d opens (FullShard k) served h = (names, (h.sources).asked)
asked_by names shards d opens ReportOpen served h = absurd h
asked_by names shards d opens ReportRead served h = absurd h
asked_by names shards d opens ReportFull served h = absurd h
asked_by names shards d opens NoMemory served h = absurd (served refl)
