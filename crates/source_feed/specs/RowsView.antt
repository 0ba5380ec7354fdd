-- The rows of a source by their fields.
use Rattle.std.specs.Prelude.{◌≡◌, ◌≤◌, ◌<◌, ◌+◌, ◌^◌, Bool, true, false, List, [], length, Option, None, Some, ⊤}
use Rattle.std.specs.List.{AllByRecursion}
use Rattle.stream_base.specs.declared.what.What.{What}
use Rattle.stream_base.specs.declared.limits.TheConstants.{TIME_MAX}
use Rattle.source_feed.specs.Events.{Events}
use Rattle.source_feed.specs.EventsLeft.{IsInnerEvent, events_after}
use Rattle.source_feed.specs.FeedState.{FeedState}
use Rattle.source_feed.specs.Pace.{stream_from, waiting_of, with_waiting}
use Rattle.source_feed.specs.RecordsLeft.{IsReadable, records_left, text_left}
use Rattle.source_feed.specs.Stream.{Stream, bad_record, nothing_left, only_refused}
use Rattle.source_feed.specs.declared.pace.Pace.{Pace}
use Rattle.source_feed.specs.declared.row_fault.RowFault.{RowFault}
use Rattle.source_feed.specs.declared.row_fault.RowFault.TheVariants.{Refused, NoMemory}
use Rattle.source_feed.specs.declared.rows.Stage.{Stage}
use Rattle.source_feed.specs.declared.rows.Stage.TheVariants.{Open, Ended, Stopped}
use Rattle.source_feed.specs.declared.rows.Rows.TheInside.{Inside}

-- the stream that is left at a stage, with what waits in front, by the events that are left
abbrev pub rest_at : Pace → List What → Events → Stage → Option Stream
rest_at pace waiting events Open = Some (with_waiting pace.source waiting (stream_from pace events))
rest_at pace waiting events Ended = Some nothing_left
rest_at pace waiting events (Stopped (Refused number why)) = Some (only_refused (bad_record number why))
rest_at pace waiting events (Stopped NoMemory) = None

-- the end was given
abbrev pub is_ended : Stage → Bool
is_ended Ended = true
is_ended _ = false

-- the fault that was answered
abbrev pub fault_of : Stage → Option RowFault
fault_of (Stopped fault) = Some fault
fault_of _ = None

-- the rows of a source that is so far, at a stage, as a feed
abbrev pub state_at : Pace → List What → Events → Stage → FeedState RowFault
state_at pace waiting events stage =
    record {
      source = pace.source;
      ended = is_ended stage;
      answered = fault_of stage;
      rest = rest_at pace waiting events stage;
    }

-- the rows by their fields
abbrev pub rows_state : Inside → FeedState RowFault
rows_state a =
    state_at a.pace (waiting_of a.waiting) (events_after a.number (records_left text_left a.reader)) a.stage

-- the fact holds while records are read
abbrev pub WhileOpen : Stage → Type 0 → Type 0
WhileOpen Open P = P
WhileOpen _ P = ⊤

-- something waits only while records are read
abbrev pub WaitsWhileOpen : Stage → List What → Type 0
WaitsWhileOpen Open waiting = ⊤
WaitsWhileOpen _ waiting = waiting ≡ []

-- what waits is within the limits, and no end
abbrev pub AreInner : List What → Type 0
AreInner waiting = AllByRecursion IsInnerEvent waiting

-- the reader stands between two records, the counters can't wrap, and no time is beyond the limit
pub record IsRunning (a : Inside) : Type 0 where
  pub readable : WhileOpen a.stage (IsReadable text_left a.reader)
  pub few : WhileOpen a.stage (a.number + length (records_left text_left a.reader) < 2 ^ 64)
  pub tuples : WhileOpen a.stage (a.pace.tuples ≤ a.number)
  pub waits : WaitsWhileOpen a.stage (waiting_of a.waiting)
  pub greatest : a.pace.greatest ≤ TIME_MAX
  pub water : a.pace.water ≤ TIME_MAX
  pub waiting : AreInner (waiting_of a.waiting)
