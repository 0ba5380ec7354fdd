-- The events of the records that are left, one after another.
use Rattle.std.proofs.Common.{◌≡◌, ◌<◌, ◌+◌, ◌^◌, ℕ, List, [], ◌∷◌, length, Bool, true, false, refl, arith, ◌∙◌}
use Rattle.std.specs.Prelude.{◌==◌, Result, Ok, Err, Option, Some, IfOk, if◌then◌else◌}
use Rattle.std.proofs.lemmas.Bool.Decides.{nat_tests}
use Rattle.csv.specs.declared.reader.Reader.{Reader}
use Rattle.stream_base.specs.declared.what.What.{What}
use Rattle.source_feed.specs.Record.{is_header, what_of}
use Rattle.source_feed.specs.RecordsLeft.{TookRecord, records_left}
use Rattle.source_feed.specs.Events.{events_of, events_from}
use Rattle.source_feed.specs.EventsLeft.{TookData, no_events, events_after, with_event}
use Rattle.source_feed.specs.Stream.{bad_record}
use Rattle.source_feed.specs.declared.row_why.RowWhy.{RowWhy}

-- where no record is left, nothing is events
nothing_after : (number : ℕ) → events_after number [] ≡ no_events
unfolding events_from
nothing_after number = each (number == 0)
  where
    each : (b : Bool) → (if b then events_of [] else events_from (number + 1) []) ≡ no_events
    each true = refl
    each false = refl

pub nothing_more : (number : ℕ) (records : List (List (List ℕ))) → records ≡ [] → events_after number records ≡ no_events
nothing_more number records e = rw e (nothing_after number)

-- a header in the first place is no event
pub after_header : (number : ℕ) (records : List (List (List ℕ))) (first : List (List ℕ)) (rest : List (List (List ℕ)))
    → number + 1 ≡ 1 → is_header first ≡ true → records ≡ first ∷ rest → events_after number records ≡ events_from (number + 1 + 1) rest
after_header number records first rest n h e =
    let z : number ≡ 0 = omega arith in
    rw (e, z, h) refl

none_from : (n : ℕ) → events_from n [] ≡ no_events
unfolding events_from
none_from n = refl

-- the read behind a header in the first place
pub header_read : {R E : Type 0} (left : R → Option (List ℕ)) (old mid new : Reader R) (number : ℕ) (first fields : List (List ℕ)) (answer : Result Bool E)
    → number + 1 ≡ 1 → is_header first ≡ true
    → number + length (records_left left old) < 2 ^ 64
    → records_left left old ≡ first ∷ records_left left mid
    → IfOk answer (TookRecord left mid new fields)
    → IfOk answer (TookData left number (number + 1 + 1) old new fields)
header_read left old mid new number first fields (Ok true) n h few e t =
    let events = after_header number (records_left left old) first (records_left left mid) n h e in
    let size : length (records_left left old) ≡ length (records_left left mid) + 1 = rw e (omega arith) in
    let size_mid : length (records_left left mid) ≡ length (records_left left new) + 1 = rw t.1 (omega arith) in
    (record { readable = t.0; few = omega arith; further = omega arith }, rw (← t.1) events)
header_read left old mid new number first fields (Ok false) n h few e t =
    let events = after_header number (records_left left old) first (records_left left mid) n h e in
    rw t at events ∙ none_from (number + 1 + 1)
header_read left old mid new number first fields (Err e') n h few e t = tt

-- the event of the first record comes first
event_first : (number : ℕ) (fields : List (List ℕ)) (rest : List (List (List ℕ))) (what : What)
    → 0 < number → what_of fields ≡ Ok what → events_from number (fields ∷ rest) ≡ with_event what (events_after number rest)
unfolding events_from
event_first number fields rest what p e =
    let nonzero : (number == 0) ≡ false = grind (arith, nat_tests) in
    rw (e, nonzero) refl

pub event_next : (before number : ℕ) (fields : List (List ℕ)) (rest : List (List (List ℕ))) (what : What)
    → before < number → what_of fields ≡ Ok what → events_from number (fields ∷ rest) ≡ with_event what (events_after number rest)
event_next before number fields rest what p e = event_first number fields rest what (omega arith) e

-- a refused record is the refusal
pub refuses : (number : ℕ) (fields : List (List ℕ)) (rest : List (List (List ℕ))) (why : RowWhy)
    → what_of fields ≡ Err why → events_from number (fields ∷ rest) ≡ record { events = []; refusal = Some (bad_record number why) }
unfolding events_from
refuses number fields rest why e = rw e refl
