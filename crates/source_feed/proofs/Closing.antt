-- A stream closes with the end of its source, its only one, or has none and a refusal comes.
use Rattle.std.proofs.Common.{◌≡◌, ◌++◌, ◌&&◌, ℕ, List, [], ◌∷◌, map, Option, Some, None, Bool, true, false, not, Result, Ok, Err, refl, subst, ◌∙◌, append_assoc}
use Rattle.std.specs.Prelude.{◌+◌, ◌==◌, ◌||◌, ℤ, codes, length, nat_le, IfOk, if◌then◌else◌}
use Rattle.std.specs.Str.{bytes_eq}
use Rattle.std.specs.List.{list_all}
use Rattle.std.proofs.lemmas.Bool.{and_parts}
use Rattle.std.proofs.lemmas.List.{map-append}
use Rattle.std.proofs.lemmas.List.Folds.{list_all-append, list_all-map}
use Rattle.csv.specs.Reading.{default_config, records, strip_bom}
use Rattle.stream_base.specs.Model.What.{is_end}
use Rattle.stream_base.specs.declared.what.What.{What}
use Rattle.stream_base.specs.declared.what.What.TheVariants.{Tuple, Mark, Water, Idle, End}
use Rattle.source_feed.specs.FeedState.{Closes}
use Rattle.source_feed.specs.Pace.{as_waters, made_by, paced, paced_over, stream_from, told_by, told_from, waking_by, with_waiting}
use Rattle.source_feed.specs.Record.{◌>>=◌, field, idle_of, is_empty, is_header, key_in, mark_of, time_in, tuple_of, value_in, water_of, what_of}
use Rattle.source_feed.specs.Events.{Events, ending, stream_of, events_of, events_from, with_record}
use Rattle.source_feed.specs.RowsView.{AreInner, WhileOpen, state_at}
use Rattle.source_feed.specs.EventsLeft.{events_after}
use Rattle.source_feed.specs.Stream.{IsWhole, Stream, Refusal, entry_of, is_inner}
use Rattle.source_feed.specs.declared.pace.Pace.{Pace}
use Rattle.source_feed.specs.declared.row_why.RowWhy.{RowWhy}
use Rattle.source_feed.specs.declared.row_why.RowWhy.TheVariants.{Kind, Fields}
use Rattle.source_feed.specs.declared.row_fault.RowFault.TheVariants.{Refused, NoMemory}
use Rattle.source_feed.specs.declared.rows.Stage.{Stage}
use Rattle.source_feed.specs.declared.rows.Stage.TheVariants.{Open, Ended, Stopped}
use Rattle.source_feed.proofs.Made.{stream_alike}

-- an event that isn't the end
abbrev pub is_inner_what : What → Bool
is_inner_what what = not (is_end what)

-- the same, as a fact
abbrev IsInner : What → Type 0
IsInner what = is_inner_what what ≡ true

tuple_cases : (b : Bool) (t : Result ℕ RowWhy) (v : Result ℤ RowWhy) (k : Result (List ℕ) RowWhy)
    → IfOk (if b then (t >>= λ time. v >>= λ value. k >>= λ key. Ok (Tuple key time value)) else Err Fields) IsInner
tuple_cases true (Ok t) (Ok v) (Ok k) = refl
tuple_cases true (Ok t) (Ok v) (Err why) = tt
tuple_cases true (Ok t) (Err why) k = tt
tuple_cases true (Err why) v k = tt
tuple_cases false t v k = tt

mark_cases : (b : Bool) (t : Result ℕ RowWhy) (k : Result (List ℕ) RowWhy)
    → IfOk (if b then (t >>= λ time. k >>= λ key. Ok (Mark key time)) else Err Fields) IsInner
mark_cases true (Ok t) (Ok k) = refl
mark_cases true (Ok t) (Err why) = tt
mark_cases true (Err why) k = tt
mark_cases false t k = tt

water_cases : (b : Bool) (t : Result ℕ RowWhy) → IfOk (if b then (t >>= λ time. Ok (Water time)) else Err Fields) IsInner
water_cases true (Ok t) = refl
water_cases true (Err why) = tt
water_cases false t = tt

idle_cases : (b : Bool) → IfOk (if b then Ok Idle else Err Fields) IsInner
idle_cases true = refl
idle_cases false = tt

kind_cases : (a b c d : Bool) (tuple mark water idle : Result What RowWhy) → IfOk tuple IsInner → IfOk mark IsInner → IfOk water IsInner → IfOk idle IsInner
    → IfOk (if a then tuple else if b then mark else if c then water else if d then idle else Err Kind) IsInner
kind_cases true b c d tuple mark water idle t m w i = t
kind_cases false true c d tuple mark water idle t m w i = m
kind_cases false false true d tuple mark water idle t m w i = w
kind_cases false false false true tuple mark water idle t m w i = i
kind_cases false false false false tuple mark water idle t m w i = tt

what_inner : (fields : List (List ℕ)) → IfOk (what_of fields) IsInner
what_inner fields =
    kind_cases (bytes_eq (field fields 0) (codes "t")) (bytes_eq (field fields 0) (codes "m")) (bytes_eq (field fields 0) (codes "w")) (bytes_eq (field fields 0) (codes "i"))
    (tuple_of fields) (mark_of fields) (water_of fields) (idle_of fields)
    (tuple_cases (length fields == 4) (time_in (field fields 1)) (value_in (field fields 2)) (key_in (field fields 3)))
    (mark_cases ((length fields == 4) && is_empty (field fields 2)) (time_in (field fields 1)) (key_in (field fields 3)))
    (water_cases ((length fields == 2) || ((length fields == 4) && is_empty (field fields 2) && is_empty (field fields 3))) (time_in (field fields 1)))
    (idle_cases ((length fields == 1) || ((length fields == 4) && is_empty (field fields 1) && is_empty (field fields 2) && is_empty (field fields 3))))

record_inner : (number : ℕ) (first : Result What RowWhy) (later : Events) → IfOk first IsInner → list_all is_inner_what later.events ≡ true → list_all is_inner_what (with_record number first later).events ≡ true
record_inner number (Ok what) later h k = rw (h, k) refl
record_inner number (Err why) later h k = refl

from_inner : (number : ℕ) (records : List (List (List ℕ))) → list_all is_inner_what (events_from number records).events ≡ true
unfolding events_from
from_inner number [] = refl
from_inner number (first ∷ later) = record_inner number (what_of first) (events_from (number + 1) later) (what_inner first) (from_inner (number + 1) later)

if_inner : (b : Bool) (x y : Events) → list_all is_inner_what x.events ≡ true → list_all is_inner_what y.events ≡ true → list_all is_inner_what (if b then x else y).events ≡ true
if_inner true x y h k = h
if_inner false x y h k = k

by_inner : (records : List (List (List ℕ))) → list_all is_inner_what (events_of records).events ≡ true
by_inner [] = from_inner 1 []
by_inner (first ∷ later) = if_inner (is_header first) (events_from 2 later) (events_from 1 (first ∷ later)) (from_inner 2 later) (from_inner 1 (first ∷ later))

after_inner : (number : ℕ) (records : List (List (List ℕ))) → list_all is_inner_what (events_after number records).events ≡ true
after_inner number records = if_inner (number == 0) (events_of records) (events_from (number + 1) records) (by_inner records) (from_inner (number + 1) records)

water_made_inner : (made : Option ℕ) → list_all is_inner_what (as_waters made) ≡ true
water_made_inner None = refl
water_made_inner (Some time) = refl

pub both_inner : (a b : List What) → list_all is_inner_what a ≡ true → list_all is_inner_what b ≡ true → list_all is_inner_what (a ++ b) ≡ true
both_inner a b h k = rw (list_all-append is_inner_what a b, h, k) refl

told_inner : (pace : Pace) (what : What) → is_inner_what what ≡ true → list_all is_inner_what (told_by pace what) ≡ true
told_inner pace what h =
    let made = as_waters (made_by (paced (paced_over pace (as_waters (waking_by pace what))) what) what) in
    both_inner (as_waters (waking_by pace what)) (what ∷ made) (water_made_inner (waking_by pace what))
    (rw h (water_made_inner (made_by (paced (paced_over pace (as_waters (waking_by pace what))) what) what)))

made_inner : (pace : Pace) (events : List What) → list_all is_inner_what events ≡ true → list_all is_inner_what (told_from pace events) ≡ true
unfolding told_from
made_inner pace [] h = refl
made_inner pace (what ∷ later) h =
    let both = and_parts (is_inner_what what) (list_all is_inner_what later) h in
    both_inner (told_by pace what) (told_from (paced_over pace (told_by pace what)) later) (told_inner pace what both.0) (made_inner (paced_over pace (told_by pace what)) later both.1)

-- the entries of inner events
entries_inner : (source : ℕ) (events : List What) → list_all is_inner_what events ≡ true → list_all is_inner (map (entry_of source) events) ≡ true
entries_inner source events h = list_all-map is_inner (entry_of source) events ∙ h

pub whole_from : (source : ℕ) (a b : List What) (refusal : Option Refusal) → list_all is_inner_what a ≡ true → list_all is_inner_what b ≡ true
    → IsWhole source false (record { entries = map (entry_of source) a ++ map (entry_of source) (b ++ ending refusal); refusal = refusal })
whole_from source a b None h k = record {
  before = map (entry_of source) (a ++ b);
  closes = rw (map-append (entry_of source) b (End ∷ []), map-append (entry_of source) a b, append_assoc) refl;
  only = entries_inner source (a ++ b) (both_inner a b h k);
}
whole_from source a b (Some refusal) h k =
    rw (list_all-append is_inner (map (entry_of source) a) (map (entry_of source) (b ++ [])), entries_inner source a h, entries_inner source (b ++ []) (both_inner b [] k refl)) refl

-- the stream while records are read
whole_stream : (pace : Pace) (waiting : List What) (s : Events) → list_all is_inner_what waiting ≡ true → list_all is_inner_what s.events ≡ true
    → IsWhole pace.source false (with_waiting pace.source waiting (stream_from pace s))
whole_stream pace waiting s w h = whole_from pace.source waiting (told_from pace s.events) s.refusal w (made_inner pace s.events h)

pub inner_waiting : (waiting : List What) → AreInner waiting → list_all is_inner_what waiting ≡ true
inner_waiting [] h = refl
inner_waiting (what ∷ waiting) h = rw (h.0.inner, inner_waiting waiting h.1) refl

-- the stream of a source by its bytes
whole_bytes : (source every disorder : ℕ) (bytes : List ℕ) → IsWhole source false (stream_of source every disorder bytes)
whole_bytes source every disorder bytes =
    let P : Stream → Type 0 = IsWhole source false in
    let s = events_of (records default_config (strip_bom bytes)) in
    subst P (stream_alike source every disorder s)
    (whole_stream (record { source = source; every = every; disorder = disorder; tuples = 0; greatest = 0; idle = false; water = 0 }) [] s refl (by_inner (records default_config (strip_bom bytes))))

-- rows close rightly at any stage
pub closes_at : (pace : Pace) (waiting : List What) (number : ℕ) (records : List (List (List ℕ))) (stage : Stage) → WhileOpen stage (AreInner waiting) → Closes (state_at pace waiting (events_after number records) stage)
closes_at pace waiting number records Open w = whole_stream pace waiting (events_after number records) (inner_waiting waiting w) (after_inner number records)
closes_at pace waiting number records Ended w = refl
closes_at pace waiting number records (Stopped (Refused n why)) w = refl
closes_at pace waiting number records (Stopped NoMemory) w = tt
