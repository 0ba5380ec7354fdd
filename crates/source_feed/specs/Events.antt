-- The stream of a source by its bytes: the events of its records, and the made watermarks.
use Rattle.std.specs.Prelude.{◌==◌, ◌&&◌, ◌+◌, ◌-◌, ◌%◌, ◌++◌, ℕ, max, Bool, true, false, not, List, [], ◌∷◌, length, map, filter, fold, Option, None, Some, Result, Ok, Err, if◌then◌else◌, nat_le}
use Rattle.csv.specs.Reading.{default_config, records, strip_bom}
use Rattle.stream_base.specs.declared.what.What.{What}
use Rattle.stream_base.specs.declared.what.What.TheVariants.{Tuple, Water, End}
use Rattle.stream_base.specs.Model.What.{is_idle_word, is_progress, water_time}
use Rattle.source_feed.specs.Record.{is_header, what_of}
use Rattle.source_feed.specs.Stream.{Refusal, bad_record, Stream, entry_of}
use Rattle.source_feed.specs.declared.row_why.RowWhy.{RowWhy}

-- the events of the records before the first refused one, and that one's refusal, if one is refused
pub record Events : Type 0 where
  pub events : List What
  pub refusal : Option Refusal

-- one record more in front, which has this number
abbrev pub with_record : ℕ → Result What RowWhy → Events → Events
with_record number (Ok what) later = record { events = what ∷ later.events; refusal = later.refusal }
with_record number (Err why) later = record { events = []; refusal = Some (bad_record number why) }

-- the events of records, numbered from this number on
unfoldable pub events_from : ℕ → List (List (List ℕ)) → Events
events_from number [] = record { events = []; refusal = None }
events_from number (first ∷ later) = with_record number (what_of first) (events_from (number + 1) later)

-- the events of a source's records, numbered from 1; a header in the first place is no event
abbrev pub events_of : List (List (List ℕ)) → Events
events_of [] = events_from 1 []
events_of (first ∷ later) = if is_header first then events_from 2 later else events_from 1 (first ∷ later)

-- a tuple
abbrev pub is_tuple : What → Bool
is_tuple (Tuple key time value) = true
is_tuple _ = false

-- the time of a tuple, and 0 for anything else
abbrev pub tuple_time : What → ℕ
tuple_time (Tuple key time value) = time
tuple_time _ = 0

-- how many tuples there are
abbrev pub tuple_count : List What → ℕ
tuple_count events = length (filter is_tuple events)

-- the greatest time of the tuples, and 0 where there is none
abbrev pub greatest_time : List What → ℕ
greatest_time events = fold (λ greatest what. max greatest (tuple_time what)) 0 events

-- a watermark is made after each tuple whose number, from 1, is a multiple of `every`, if that is at least 1
abbrev pub is_made : ℕ → ℕ → Bool
is_made every count = nat_le 1 every && (count % every == 0)

-- the watermark that is made after an event behind what was told, if one is: the greatest time so far minus `disorder`, or 0
abbrev pub made_after : ℕ → ℕ → List What → What → List What
made_after every disorder told what =
    if is_tuple what && is_made every (tuple_count (told ++ what ∷ []))
    then Water (greatest_time (told ++ what ∷ []) - disorder) ∷ []
    else []

-- the last word on its progress of a source that told so much says that it is idle
abbrev pub tells_idle : List What → Bool
tells_idle told = fold (λ idle what. if is_progress what then is_idle_word what else idle) false told

-- the greatest time of the watermarks that were told, and 0 where there is none
abbrev pub told_water : List What → ℕ
told_water told = fold (λ greatest what. max greatest (water_time what)) 0 told

-- a source that is idle wakes with its next tuple or mark: in front of that stands a watermark of the greatest time that its watermarks had
abbrev pub waking_before : List What → What → List What
waking_before told what = if tells_idle told && not (is_progress what) then Water (told_water told) ∷ [] else []

-- what is told of an event behind what was told: the watermark that wakes its source, the event, and the watermark that is made after it
abbrev pub told_of : ℕ → ℕ → List What → What → List What
told_of every disorder told what =
    let waking = waking_before told what in
    waking ++ what ∷ made_after every disorder (told ++ waking) what

-- what is told of events behind what was told
unfoldable pub with_watermarks : ℕ → ℕ → List What → List What → List What
with_watermarks every disorder told [] = []
with_watermarks every disorder told (what ∷ later) =
    let more = told_of every disorder told what in
    more ++ with_watermarks every disorder (told ++ more) later

-- an end comes last, where no refusal does
abbrev pub ending : Option Refusal → List What
ending None = End ∷ []
ending (Some refusal) = []

-- the stream of a source by the events of its records
abbrev pub stream_by : ℕ → ℕ → ℕ → Events → Stream
stream_by source every disorder s =
    record {
      entries = map (entry_of source) (with_watermarks every disorder [] s.events ++ ending s.refusal);
      refusal = s.refusal;
    }

-- the stream of a source with these bytes: its events and made watermarks, and then its end;
-- or those before the first refused record, and then that refusal
abbrev pub stream_of : ℕ → ℕ → ℕ → List ℕ → Stream
stream_of source every disorder bytes =
    stream_by source every disorder (events_of (records default_config (strip_bom bytes)))
