-- What a call of `next` on rows gives, by their fields.
use Rattle.std.proofs.Common.{◌≡◌, ◌++◌, ◌<◌, ◌≤◌, ◌^◌, ℕ, List, [], ◌∷◌, map, Bool, true, false, not, leb, Option, Some, None, Ok, Err, refl, sym, ap, subst, ◌∙◌, append_assoc, arith}
use Rattle.std.specs.Prelude.{◌+◌, ◌-◌, ◌&&◌, nat_lt, IfSome, if◌then◌else◌}
use Rattle.std.proofs.lemmas.Bool.{and_parts, leb-true}
use Rattle.std.proofs.lemmas.Bool.Decides.{nat_tests}
use Rattle.std.proofs.lemmas.List.{map-append}
use Rattle.std.proofs.lemmas.List.Sums.{fold-append}
use Rattle.stream_base.specs.declared.entry.Entry.{Entry}
use Rattle.stream_base.specs.declared.limits.TheConstants.{TIME_MAX}
use Rattle.stream_base.specs.declared.what.What.{What}
use Rattle.stream_base.specs.declared.what.What.TheVariants.{Tuple, Mark, Water, Idle, End}
use Rattle.stream_base.specs.Model.Journals.{is_entry_within}
use Rattle.stream_base.specs.Model.What.{is_progress, is_what_within}
use Rattle.stream_base.specs.Key.{is_key}
use Rattle.stream_base.specs.Limits.{is_value}
use Rattle.source_feed.specs.Events.{Events, ending, is_made}
use Rattle.source_feed.specs.EventsLeft.{IsInnerEvent, TookEvent, no_events, events_after, with_event}
use Rattle.source_feed.specs.FeedFault.{Ends, row_refusal_of}
use Rattle.source_feed.specs.Gives.{Gives}
use Rattle.source_feed.specs.Pace.{as_waters, made_by, paced, paced_over, stream_from, told_by, told_from, waking_by, with_waiting}
use Rattle.source_feed.specs.RecordsLeft.{records_left}
use Rattle.source_feed.specs.RowsView.{AreInner, WaitsWhileOpen, state_at}
use Rattle.source_feed.specs.Stream.{Stream, bad_record, entry_of, nothing_left, only_refused, with_first}
use Rattle.source_feed.specs.declared.pace.Pace.{Pace}
use Rattle.source_feed.specs.declared.row_why.RowWhy.{RowWhy}
use Rattle.source_feed.specs.declared.row_fault.RowFault.{RowFault}
use Rattle.source_feed.specs.declared.row_fault.RowFault.TheVariants.{Refused, NoMemory}
use Rattle.source_feed.specs.declared.rows.Stage.{Stage}
use Rattle.source_feed.specs.declared.rows.Stage.TheVariants.{Open, Ended, Stopped}
use Rattle.source_feed.proofs.Closing.{closes_at}
use Rattle.csv.specs.declared.reader.Reader.{Reader}

-- what is told changes no source
same_source : (pace : Pace) (what : What) → (paced pace what).source ≡ pace.source
same_source pace (Tuple key time value) = refl
same_source pace (Mark key time) = refl
same_source pace (Water time) = refl
same_source pace Idle = refl
same_source pace End = refl

same_source_over : (pace : Pace) (told : List What) → (paced_over pace told).source ≡ pace.source
same_source_over pace [] = refl
same_source_over pace (what ∷ told) = same_source_over (paced pace what) told ∙ same_source pace what

-- an entry is within the limits where its source and its event are
pub entry_within : (source : ℕ) (what : What) → source < 2 ^ 16 → is_what_within what ≡ true → is_entry_within (entry_of source what) ≡ true
entry_within source what small within =
    let below : nat_lt source (2 ^ 16) ≡ true = grind (arith, nat_tests) in
    rw (below, within) refl

water_within : (time : ℕ) → time ≤ TIME_MAX → IsInnerEvent (Water time)
water_within time within = record { within = grind (arith, nat_tests); inner = refl }

-- no time is beyond the limit
pub record IsBounded (pace : Pace) : Type 0 where
  pub greatest : pace.greatest ≤ TIME_MAX
  pub water : pace.water ≤ TIME_MAX

bounded_on : (pace : Pace) (what : What) → IsBounded pace → is_what_within what ≡ true → IsBounded (paced pace what)
bounded_on pace (Tuple key time value) h w =
    let below : time ≤ TIME_MAX = leb-true time TIME_MAX (and_parts (leb time TIME_MAX) (is_value value && is_key key) w).0 in
    let greatest : pace.greatest ≤ TIME_MAX = h.greatest in
    record { greatest = omega arith; water = h.water }
bounded_on pace (Mark key time) h w = h
bounded_on pace (Water time) h w =
    let below : time ≤ TIME_MAX = leb-true time TIME_MAX w in
    let water : pace.water ≤ TIME_MAX = h.water in
    record { greatest = h.greatest; water = omega arith }
bounded_on pace Idle h w = record { greatest = h.greatest; water = h.water }
bounded_on pace End h w = record { greatest = h.greatest; water = h.water }

bounded_over : (pace : Pace) (told : List What) → IsBounded pace → AreInner told → IsBounded (paced_over pace told)
bounded_over pace [] h w = h
bounded_over pace (what ∷ told) h w = bounded_over (paced pace what) told (bounded_on pace what h w.0.within) w.1

pub inner_water : (made : Option ℕ) → IfSome made (λ time. time ≤ TIME_MAX) → AreInner (as_waters made)
inner_water None h = tt
inner_water (Some time) h = (water_within time h, tt)

waking_small : (pace : Pace) (what : What) → IsBounded pace → IfSome (waking_by pace what) (λ time. time ≤ TIME_MAX)
waking_small pace what h = either (pace.idle && not (is_progress what))
  where
    either : (b : Bool) → IfSome (if b then Some pace.water else None) (λ time. time ≤ TIME_MAX)
    either true = h.water
    either false = tt

made_small : (pace : Pace) (what : What) → IsBounded pace → IfSome (made_by pace what) (λ time. time ≤ TIME_MAX)
made_small pace (Tuple key time value) h = either (is_made pace.every pace.tuples)
  where
    either : (b : Bool) → IfSome (if b then Some (pace.greatest - pace.disorder) else None) (λ t. t ≤ TIME_MAX)
    either true = let g : pace.greatest ≤ TIME_MAX = h.greatest in omega arith
    either false = tt
made_small pace (Mark key time) h = tt
made_small pace (Water time) h = tt
made_small pace Idle h = tt
made_small pace End h = tt

all-append : (xs ys : List What) → AreInner xs → AreInner ys → AreInner (xs ++ ys)
all-append [] ys h g = g
all-append (x ∷ xs) ys h g = (h.0, all-append xs ys h.1 g)

-- what is told of an event is within the limits, and no end
pub inner_told : (pace : Pace) (what : What) → IsBounded pace → IsInnerEvent what → AreInner (told_by pace what)
inner_told pace what h event =
    let waking = inner_water (waking_by pace what) (waking_small pace what h) in
    let woken = bounded_over pace (as_waters (waking_by pace what)) h waking in
    let reached = bounded_on (paced_over pace (as_waters (waking_by pace what))) what woken event.within in
    all-append (as_waters (waking_by pace what)) _ waking
    (event, inner_water (made_by (paced (paced_over pace (as_waters (waking_by pace what))) what) what) (made_small (paced (paced_over pace (as_waters (waking_by pace what))) what) what reached))

pub bounded_told : (pace : Pace) (what : What) → IsBounded pace → IsInnerEvent what → IsBounded (paced_over pace (told_by pace what))
bounded_told pace what h event = bounded_over pace (told_by pace what) h (inner_told pace what h event)

-- of an event at most one tuple is told
waters_keep_tuples : (pace : Pace) (made : Option ℕ) → (paced_over pace (as_waters made)).tuples ≡ pace.tuples
waters_keep_tuples pace None = refl
waters_keep_tuples pace (Some time) = refl

one_tuple : (pace : Pace) (what : What) → (paced pace what).tuples ≤ pace.tuples + 1
one_tuple pace (Tuple key time value) = omega arith
one_tuple pace (Mark key time) = omega arith
one_tuple pace (Water time) = omega arith
one_tuple pace Idle = omega arith
one_tuple pace End = omega arith

pub tuples_told : (pace : Pace) (what : What) → (paced_over pace (told_by pace what)).tuples ≤ pace.tuples + 1
tuples_told pace what =
    let waking = as_waters (waking_by pace what) in
    let woken = paced_over pace waking in
    let made = made_by (paced woken what) what in
    let all : paced_over pace (told_by pace what) ≡ paced_over (paced woken what) (as_waters made) = fold-append paced pace waking (what ∷ as_waters made) in
    let kept : (paced_over (paced woken what) (as_waters made)).tuples ≡ (paced woken what).tuples = waters_keep_tuples (paced woken what) made in
    let one : (paced woken what).tuples ≤ woken.tuples + 1 = one_tuple woken what in
    let same : woken.tuples ≡ pace.tuples = waters_keep_tuples pace (waking_by pace what) in
    rw all (omega arith)

-- of what is left, the first that is told of an event comes first
stream_event : (pace : Pace) (what first : What) (rest : List What) (new : Events) → first ∷ rest ≡ told_by pace what
    → with_first (entry_of (paced_over pace (told_by pace what)).source first) (with_waiting (paced_over pace (told_by pace what)).source rest (stream_from (paced_over pace (told_by pace what)) new))
    ≡ with_waiting pace.source [] (stream_from pace (with_event what new))
unfolding told_from
stream_event pace what first rest new told =
    let later = told_from (paced_over pace (told_by pace what)) new.events in
    let entries : List Entry → Stream = λ entries. record { entries = entries; refusal = new.refusal } in
    rw (same_source_over pace (told_by pace what))
    (ap entries
    (sym (map-append (entry_of pace.source) (first ∷ rest) (later ++ ending new.refusal))
    ∙ ap (map (entry_of pace.source)) (ap (λ (t : List What). t ++ (later ++ ending new.refusal)) told ∙ sym (append_assoc (told_by pace what) later (ending new.refusal)))))

gave_event : (pace : Pace) (waiting rest : List What) (old new : Events) (what first : What) → waiting ≡ [] → old ≡ with_event what new → first ∷ rest ≡ told_by pace what
    → Some (with_first (entry_of (paced_over pace (told_by pace what)).source first) (with_waiting (paced_over pace (told_by pace what)).source rest (stream_from (paced_over pace (told_by pace what)) new)))
    ≡ Some (with_waiting pace.source waiting (stream_from pace old))
gave_event pace waiting rest old new what first w e told = rw (w, e) (ap (λ (stream : Stream). Some stream) (stream_event pace what first rest new told))

gave_end : (pace : Pace) (waiting : List What) (old : Events) → waiting ≡ [] → old ≡ no_events
    → Some (with_first (entry_of pace.source End) nothing_left) ≡ Some (with_waiting pace.source waiting (stream_from pace old))
unfolding told_from
gave_end pace waiting old m e = rw (m, e) refl

stream_refused : (pace : Pace) (waiting : List What) (old : Events) (number : ℕ) (why : RowWhy) → waiting ≡ [] → old ≡ record { events = []; refusal = Some (bad_record number why) }
    → with_waiting pace.source waiting (stream_from pace old) ≡ only_refused (bad_record number why)
unfolding told_from
stream_refused pace waiting old number why m e = rw (m, e) refl

-- what waited is given
pub gives_waiting : (pace : Pace) (waiting rest : List What) (number : ℕ) (records : List (List (List ℕ))) (stage : Stage) (what : What)
    → WaitsWhileOpen stage waiting → waiting ≡ what ∷ rest → pace.source < 2 ^ 16 → AreInner waiting
    → Gives row_refusal_of (state_at pace waiting (events_after number records) stage) (Ok (Some (entry_of pace.source what))) (state_at pace rest (events_after number records) stage)
gives_waiting pace waiting rest number records Open what waits is small inner =
    let own : AreInner (what ∷ rest) = subst AreInner is inner in record {
      source = refl;
      whole = closes_at pace waiting number records Open inner;
      whole_after = closes_at pace rest number records Open own.1;
      outcome = record {
        running = refl;
        unanswered = refl;
        own = refl;
        within = entry_within pace.source what small own.0.within;
        given = rw is refl;
        end = sym own.0.inner;
        still_unanswered = refl;
      };
    }
gives_waiting pace waiting rest number records Ended what waits is small inner = cc (waits, is)
gives_waiting pace waiting rest number records (Stopped fault) what waits is small inner = cc (waits, is)

-- of the event of a record the first that is told is given
pub gives_event : {R : Type 0} (left : R → Option (List ℕ)) (number after : ℕ) (old new : Reader R) (pace : Pace) (waiting rest : List What) (what first : What)
    → waiting ≡ [] → pace.source < 2 ^ 16 → IsBounded pace → first ∷ rest ≡ told_by pace what → TookEvent left number after old new (Ok (Some what))
    → Gives row_refusal_of (state_at pace waiting (events_after number (records_left left old)) Open) (Ok (Some (entry_of (paced_over pace (told_by pace what)).source first)))
    (state_at (paced_over pace (told_by pace what)) rest (events_after after (records_left left new)) Open)
gives_event left number after old new pace waiting rest what first w small bounded told took =
    let inner : AreInner (first ∷ rest) = subst AreInner (sym told) (inner_told pace what bounded took.event) in
    let same = same_source_over pace (told_by pace what) in record {
      source = same;
      whole = closes_at pace waiting number (records_left left old) Open (subst AreInner (sym w) tt);
      whole_after = closes_at (paced_over pace (told_by pace what)) rest after (records_left left new) Open inner.1;
      outcome = record {
        running = refl;
        unanswered = refl;
        own = same;
        within = entry_within (paced_over pace (told_by pace what)).source first (rw same small) inner.0.within;
        given = gave_event pace waiting rest (events_after number (records_left left old)) (events_after after (records_left left new)) what first w took.next told;
        end = sym inner.0.inner;
        still_unanswered = refl;
      };
    }

-- where no record is left, the end is given
pub gives_end : {R : Type 0} (left : R → Option (List ℕ)) (number after : ℕ) (old new : Reader R) (pace : Pace) (waiting : List What)
    → waiting ≡ [] → pace.source < 2 ^ 16 → TookEvent left number after old new (Ok None)
    → Gives row_refusal_of (state_at pace waiting (events_after number (records_left left old)) Open) (Ok (Some (entry_of pace.source End)))
    (state_at pace waiting (events_after after (records_left left new)) Ended)
gives_end left number after old new pace waiting m small took = record {
  source = refl;
  whole = closes_at pace waiting number (records_left left old) Open (subst AreInner (sym m) tt);
  whole_after = refl;
  outcome = record {
    running = refl;
    unanswered = refl;
    own = refl;
    within = entry_within pace.source End small refl;
    given = gave_end pace waiting (events_after number (records_left left old)) m took;
    end = refl;
    still_unanswered = refl;
  };
}

-- a refused record, and want of memory, are answered
fault_shown : {R : Type 0} (left : R → Option (List ℕ)) (number after : ℕ) (old new : Reader R) (pace : Pace) (waiting : List What) (later : Events) (fault : RowFault)
    → waiting ≡ [] → TookEvent left number after old new (Err fault)
    → Ends (row_refusal_of fault) (state_at pace waiting (events_after number (records_left left old)) Open).rest (state_at pace waiting later (Stopped fault)).rest
fault_shown left number after old new pace waiting later (Refused record_number why) m took =
    let stream = stream_refused pace waiting (events_after number (records_left left old)) record_number why m took in
    (stream, ap (λ (s : Stream). Some s) (sym stream))
fault_shown left number after old new pace waiting later NoMemory m took = tt

pub gives_fault : {R : Type 0} (left : R → Option (List ℕ)) (number after : ℕ) (old new : Reader R) (pace : Pace) (waiting : List What) (fault : RowFault)
    → waiting ≡ [] → TookEvent left number after old new (Err fault)
    → Gives row_refusal_of (state_at pace waiting (events_after number (records_left left old)) Open) (Err fault) (state_at pace waiting (events_after after (records_left left new)) (Stopped fault))
gives_fault left number after old new pace waiting fault m took = record {
  source = refl;
  whole = closes_at pace waiting number (records_left left old) Open (subst AreInner (sym m) tt);
  whole_after = closes_at pace waiting after (records_left left new) (Stopped fault) tt;
  outcome = record {
    running = refl;
    again = tt;
    refused = fault_shown left number after old new pace waiting (events_after after (records_left left new)) fault m took;
    still_running = refl;
    answered = refl;
  };
}

-- behind the end nothing is given
pub gives_nothing : (pace : Pace) (waiting : List What) (events : Events) → Gives row_refusal_of (state_at pace waiting events Ended) (Ok None) (state_at pace waiting events Ended)
gives_nothing pace waiting events = record {
  source = refl;
  whole = refl;
  whole_after = refl;
  outcome = record { ended = refl; unanswered = refl; kept = refl; still_ended = refl; still_unanswered = refl };
}

-- a fault that was answered is answered again
still_shown : (pace : Pace) (waiting : List What) (events : Events) (fault : RowFault)
    → Ends (row_refusal_of fault) (state_at pace waiting events (Stopped fault)).rest (state_at pace waiting events (Stopped fault)).rest
still_shown pace waiting events (Refused number why) = (refl, refl)
still_shown pace waiting events NoMemory = tt

pub gives_again : (pace : Pace) (waiting : List What) (number : ℕ) (records : List (List (List ℕ))) (fault : RowFault)
    → Gives row_refusal_of (state_at pace waiting (events_after number records) (Stopped fault)) (Err fault) (state_at pace waiting (events_after number records) (Stopped fault))
gives_again pace waiting number records fault = record {
  source = refl;
  whole = closes_at pace waiting number records (Stopped fault) tt;
  whole_after = closes_at pace waiting number records (Stopped fault) tt;
  outcome = record { running = refl; again = refl; refused = still_shown pace waiting (events_after number records) fault; still_running = refl; answered = refl };
}
