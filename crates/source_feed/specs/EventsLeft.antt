-- The events of the records that a reader has left.
use Rattle.std.specs.Prelude.{◌≡◌, ◌<◌, ◌+◌, ◌^◌, ◌==◌, ℕ, Bool, true, false, List, [], ◌∷◌, length, Option, None, Some, Result, Ok, Err, IfOk, ⊤, if◌then◌else◌}
use Rattle.stream_base.specs.declared.what.What.{What}
use Rattle.stream_base.specs.Model.What.{is_end, is_what_within}
use Rattle.csv.specs.declared.reader.Reader.{Reader}
use Rattle.source_feed.specs.RecordsLeft.{IsReadable, records_left}
use Rattle.source_feed.specs.Events.{Events, events_from, events_of}
use Rattle.source_feed.specs.Stream.{bad_record}
use Rattle.source_feed.specs.declared.row_fault.RowFault.{RowFault}
use Rattle.source_feed.specs.declared.row_fault.RowFault.TheVariants.{Refused, NoMemory}
use Rattle.source_feed.specs.declared.row_why.RowWhy.{RowWhy}

-- the events of records behind so many others
abbrev pub events_after : ℕ → List (List (List ℕ)) → Events
events_after number records =
    if number == 0 then events_of records else events_from (number + 1) records

-- no event is left
abbrev pub no_events : Events
no_events = record { events = []; refusal = None }

-- one event more in front
abbrev pub with_event : What → Events → Events
with_event what later = record { events = what ∷ later.events; refusal = later.refusal }

module _ {R : Type 0} (left : R → Option (List ℕ)) where
  -- the reader goes on behind a record of this number
  pub record GoesOn (old new : ℕ) (reader : Reader R) : Type 0 where
    pub readable : IsReadable left reader
    pub few : new + length (records_left left reader) < 2 ^ 64
    pub further : old < new

  -- a read took the next record that isn't a header in the first place, if there was one
  abbrev pub TookData : ℕ → ℕ → Reader R → Reader R → List (List ℕ) → Bool → Type 0
  TookData number after old new fields true =
      GoesOn number after new
      × (events_after number (records_left left old)
      ≡ events_from after (fields ∷ records_left left new))
  TookData number after old new fields false =
      events_after number (records_left left old) ≡ no_events

-- the event is within the limits, and isn't the end
pub record IsInnerEvent (what : What) : Type 0 where
  pub within : is_what_within what ≡ true
  pub inner : is_end what ≡ false

-- by a reading of records these fields spell the answer: an event, which is an inner one, or a fault
pub record Spells (reading : List (List ℕ) → Result What RowWhy) (fields : List (List ℕ)) (answer : Result What RowWhy) : Type 0 where
  pub value : answer ≡ reading fields
  pub event : IfOk answer IsInnerEvent

module _ {R : Type 0} (left : R → Option (List ℕ)) where
  -- a read took the record of this event, the next one
  pub record TookEventOf (number after : ℕ) (old new : Reader R) (what : What) : Type 0 where
    pub on : GoesOn left number after new
    pub event : IsInnerEvent what
    pub next : events_after number (records_left left old)
        ≡ with_event what (events_after after (records_left left new))

  -- a read answered the next event
  abbrev pub TookEvent : ℕ → ℕ → Reader R → Reader R → Result (Option What) RowFault → Type 0
  TookEvent number after old new (Ok (Some what)) = TookEventOf number after old new what
  TookEvent number after old new (Ok None) = events_after number (records_left left old) ≡ no_events
  TookEvent number after old new (Err (Refused record_number why)) =
      events_after number (records_left left old)
      ≡ record { events = []; refusal = Some (bad_record record_number why) }
  TookEvent number after old new (Err NoMemory) = ⊤
