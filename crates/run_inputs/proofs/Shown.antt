-- What was read of a source, by the stream that its bytes were seen to spell.
use Rattle.std.proofs.Common.{◌≡◌, ◌≢◌, ◌∙◌, ◌<◌, ◌+◌, ℕ, Bool, true, false, List, [], ◌∷◌, length, Result, Ok, Err, Some, None, refl, ap, arith, sym, cond}
use Rattle.std.specs.Prelude.{nat_le, nat_lt, IfSome, ⊤}
use Rattle.std.proofs.lemmas.Bool.Decides.{nat_tests}
use Rattle.stream_base.specs.Limits.{Definitions}
use Rattle.stream_base.specs.declared.entry.Entry.{Entry}
use Rattle.outside.specs.Outside.{Reads, back}
use Rattle.outside.specs.Whole.{all_read}
use Rattle.csv.specs.Reading.{default_config, records, strip_bom}
use Rattle.stream_base.specs.declared.what.What.{What}
use Rattle.source_feed.specs.Record.{is_header, what_of}
use Rattle.source_feed.specs.declared.row_why.RowWhy.{RowWhy}
use Rattle.source_feed.specs.Events.{events_from, events_of, stream_of, with_record}
use Rattle.source_feed.specs.FeedFault.{refusal_of}
use Rattle.source_feed.specs.FeedView.{given_then}
use Rattle.source_feed.specs.FileFeedState.{source_stream, stream_seen}
use Rattle.source_feed.specs.Stream.{Stream, bad_record, only_refused, too_long}
use Rattle.source_feed.specs.declared.feed_fault.FeedFault.{FeedFault}
use Rattle.source_feed.specs.declared.feed_fault.FeedFault.TheVariants.{Read as FeedRead, TooLong as FeedTooLong, Row as FeedRow, NoMemory as FeedMemory}
use Rattle.source_feed.specs.declared.whole.TheConstants.{SOURCE_MAX}
use Rattle.run_inputs.specs.Causes.{HasFailedRead, IsRefusedAt, IsSourceRead}
use Rattle.run_inputs.specs.Outside.{CameBack, Opens, came_at}

-- the reads of a source whose end was seen, with no fault
same_reads : (place : ℕ) (reads : Reads) → reads.place ≡ place → reads.ended ≡ true → reads.faults ≡ 0 → reads ≡ all_read place reads.given
same_reads place reads p e f =
    ap (λ (n : ℕ). let r : Reads = record { place = n; given = reads.given; ended = reads.ended; faults = reads.faults } in r) p
    ∙ ap (λ (b : Bool). let r : Reads = record { place = place; given = reads.given; ended = b; faults = reads.faults } in r) e
    ∙ ap (λ (n : ℕ). let r : Reads = record { place = place; given = reads.given; ended = true; faults = n } in r) f

-- no record is refused as a source that is too long
pub no_record_is_too_long : (number : ℕ) (rows : List (List (List ℕ))) → (events_from number rows).refusal ≡ Some too_long → ⊥
unfolding events_from
no_record_is_too_long number [] h = cc
no_record_is_too_long number (first ∷ later) h = by (what_of first) (no_record_is_too_long (number + 1) later) h
  where
    by : (what : Result What RowWhy) → ((events_from (number + 1) later).refusal ≡ Some too_long → ⊥) → (with_record number what (events_from (number + 1) later)).refusal ≡ Some too_long → ⊥
    by (Ok what) none h = none h
    by (Err why) none h = cc

no_events_are_too_long : (rows : List (List (List ℕ))) → (events_of rows).refusal ≡ Some too_long → ⊥
no_events_are_too_long [] h = no_record_is_too_long 1 [] h
no_events_are_too_long (first ∷ later) h = by (is_header first) h
  where
    by : (b : Bool) → (cond b (events_from 2 later) (events_from 1 (first ∷ later))).refusal ≡ Some too_long → ⊥
    by true h = no_record_is_too_long 2 later h
    by false h = no_record_is_too_long 1 (first ∷ later) h

-- what was seen of a source is the stream of its bytes, where they are too many, or where the end was seen
record IsSeen (source every disorder : ℕ) (reads : Reads) (stream : Stream) : Type 0 where
  spelled : source_stream source every disorder reads.given ≡ stream
  long : stream.refusal ≡ Some too_long → SOURCE_MAX < length reads.given
  ended : stream ≢ only_refused too_long → reads.ended ≡ true

seen : (source every disorder : ℕ) (reads : Reads) (stream : Stream) → stream_seen source every disorder reads ≡ Some stream → IsSeen source every disorder reads stream
seen source every disorder reads stream e = by (nat_lt SOURCE_MAX (length reads.given)) reads.ended refl refl e
  where
    short : (n : ℕ) → nat_lt SOURCE_MAX n ≡ false → nat_le n SOURCE_MAX ≡ true
    short n h = grind (arith, nat_tests)

    more : (n : ℕ) → nat_lt SOURCE_MAX n ≡ true → SOURCE_MAX < n
    more n h = grind (arith, nat_tests)

    long : (n : ℕ) → nat_lt SOURCE_MAX n ≡ true → nat_le n SOURCE_MAX ≡ false
    long n h = grind (arith, nat_tests)

    by : (many ended : Bool) → nat_lt SOURCE_MAX (length reads.given) ≡ many → reads.ended ≡ ended
        → cond many (Some (only_refused too_long)) (cond ended (Some (stream_of source every disorder reads.given)) None) ≡ Some stream
        → IsSeen source every disorder reads stream
    by true ended l r h =
        let is : only_refused too_long ≡ stream = cc in
        record {
          spelled = ap (λ b. cond b (stream_of source every disorder reads.given) (only_refused too_long)) (long (length reads.given) l) ∙ is;
          long = λ e. more (length reads.given) l;
          ended = λ other. absurd (other (sym is));
        }
    by false true l r h = record {
      spelled = ap (λ b. cond b (stream_of source every disorder reads.given) (only_refused too_long)) (short (length reads.given) l) ∙ cc;
      long = λ e.
          let is : stream_of source every disorder reads.given ≡ stream = cc in
          absurd (no_events_are_too_long (records default_config (strip_bom reads.given)) (ap (λ (t : Stream). t.refusal) is ∙ e));
      ended = λ other. r;
    }
    by false false l r h = absurd (cc)

none_some : {X : Type 0} {x : X} → None ≡ Some x → ⊥
none_some e = cc

some_inj : {X : Type 0} {x y : X} → Some x ≡ Some y → x ≡ y
some_inj e = cc

too_long_is_no_row : (number : ℕ) (why : _) → too_long ≡ bad_record number why → ⊥
too_long_is_no_row number why e = cc

-- what the answer of a feed to a fault shows of its source
abbrev pub ShowsFault : Definitions → Opens → ℕ → FeedFault → Type 0
ShowsFault d opens i FeedRead = CameBack opens i HasFailedRead
ShowsFault d opens i FeedTooLong = CameBack opens i (λ reads. SOURCE_MAX < length reads.given)
ShowsFault d opens i (FeedRow number why) = CameBack opens i (IsRefusedAt d i number why)
ShowsFault d opens i FeedMemory = ⊤

module _ (d : Definitions) (opens : Opens) (i : ℕ) (reads : Reads) (came : came_at opens i ≡ back reads) where
  -- a source that was read to its end, with no refusal and no fault
  pub shows_whole : (entries : List Entry) → reads.place ≡ length opens.before + i → reads.faults ≡ 0 → stream_seen i d.every d.disorder reads ≡ Some (given_then entries None) → IsSourceRead opens d i entries
  shows_whole entries place quiet e =
      let s = seen i d.every d.disorder reads (given_then entries None) e in
      let ended = s.ended (λ h. none_some (ap (λ (t : Stream). t.refusal) h)) in
      record {
        bytes = reads.given;
        whole = came ∙ ap back (same_reads (length opens.before + i) reads place ended quiet);
        spelled = s.spelled;
      }

  -- a source that shows a fault
  pub shows_fault : (fault : FeedFault) → (fault ≡ FeedRead → 0 < reads.faults)
      → IfSome (refusal_of fault) (λ refusal. (entries : List Entry) × (stream_seen i d.every d.disorder reads ≡ Some (given_then entries (Some refusal))))
      → ShowsFault d opens i fault
  shows_fault FeedRead failed h = (reads, came, failed refl)
  shows_fault FeedTooLong failed h =
      let s = seen i d.every d.disorder reads (given_then h.0 (Some too_long)) h.1 in
      (reads, came, s.long refl)
  shows_fault (FeedRow number why) failed h =
      let s = seen i d.every d.disorder reads (given_then h.0 (Some (bad_record number why))) h.1 in (
        reads,
        came,
        record {
          ended = s.ended (λ e. too_long_is_no_row number why (some_inj (sym (ap (λ (t : Stream). t.refusal) e))));
          refused = ap (λ (t : Stream). t.refusal) s.spelled;
        },
      )
  shows_fault FeedMemory failed h = tt
