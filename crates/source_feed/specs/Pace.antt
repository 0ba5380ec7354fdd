-- The watermarks of a source, by what it remembers of all that it told.
use Rattle.std.specs.Prelude.{◌+◌, ◌-◌, ◌++◌, ◌&&◌, ℕ, max, true, false, not, List, [], ◌∷◌, map, fold, Option, None, Some, if◌then◌else◌}
use Rattle.stream_base.specs.declared.what.What.{What}
use Rattle.stream_base.specs.declared.what.What.TheVariants.{Tuple, Mark, Water, Idle, End}
use Rattle.stream_base.specs.Model.What.{is_progress}
use Rattle.source_feed.specs.Events.{Events, ending, is_made}
use Rattle.source_feed.specs.Stream.{Stream, entry_of}
use Rattle.source_feed.specs.declared.pace.Pace.{Pace}
use Rattle.source_feed.specs.declared.waiting.Waiting.{Waiting}

-- what a source remembers once it told one thing more
abbrev pub paced : Pace → What → Pace
paced pace (Tuple key time value) = record pace { tuples = pace.tuples + 1; greatest = max pace.greatest time }
paced pace (Mark key time) = pace
paced pace (Water time) = record pace { idle = false; water = max pace.water time }
paced pace Idle = record pace { idle = true }
paced pace End = record pace { idle = false }

-- a watermark, if there is one
abbrev pub as_waters : Option ℕ → List What
as_waters None = []
as_waters (Some time) = Water time ∷ []

-- the watermark that wakes a source in front of an event
abbrev pub waking_by : Pace → What → Option ℕ
waking_by pace what = if pace.idle && not (is_progress what) then Some pace.water else None

-- the watermark that is made after an event by a source that remembers it
abbrev pub made_by : Pace → What → Option ℕ
made_by pace (Tuple key time value) = if is_made pace.every pace.tuples then Some (pace.greatest - pace.disorder) else None
made_by pace (Mark key time) = None
made_by pace (Water time) = None
made_by pace Idle = None
made_by pace End = None

-- what a source remembers once it told all of these
abbrev pub paced_over : Pace → List What → Pace
paced_over pace told = fold paced pace told

-- what is told of an event
abbrev pub told_by : Pace → What → List What
told_by pace what =
    let waking = as_waters (waking_by pace what) in
    let reached = paced (paced_over pace waking) what in
    waking ++ what ∷ as_waters (made_by reached what)

-- what is told of events
unfoldable pub told_from : Pace → List What → List What
told_from pace [] = []
told_from pace (what ∷ later) = told_by pace what ++ told_from (paced_over pace (told_by pace what)) later

-- the stream that a source has left, by the events of its records
abbrev pub stream_from : Pace → Events → Stream
stream_from pace s =
    record { entries = map (entry_of pace.source) (told_from pace s.events ++ ending s.refusal); refusal = s.refusal }

-- the same, with what waits in front
abbrev pub with_waiting : ℕ → List What → Stream → Stream
with_waiting source waiting stream =
    record { entries = map (entry_of source) waiting ++ stream.entries; refusal = stream.refusal }

-- an event, if there is one
abbrev pub as_events : Option What → List What
as_events None = []
as_events (Some what) = what ∷ []

-- what waits to be told: an event, and behind it a watermark
abbrev pub waiting_of : Waiting → List What
waiting_of w = as_events w.event ++ as_waters w.made
