-- What is told of a window by its kind alone, but for its instances: its limits, which kinds are alike, its lengths, and where it cuts.
use Rattle.std.specs.Prelude.{◌≤◌, ◌<◌, ◌+◌, ◌-◌, ◌*◌, ◌/◌, ◌||◌, ◌&&◌, ◌⊎◌, ℕ, Bool, true, false, nat_lt, nat_le, if◌then◌else◌}
use Rattle.stream_base.specs.declared.limits.TheConstants.{TIME_MAX, JOURNAL_MAX, LENGTH_RATIO_MAX}
use Rattle.stream_base.specs.declared.kind.Kind.{Kind}
use Rattle.stream_base.specs.declared.kind.Kind.TheVariants.{Tumbling, Sliding, Session, Marks, Events}

-- a number from 1 up to a limit
abbrev pub is_from_one_to : ℕ → ℕ → Bool
is_from_one_to most n = nat_le 1 n && nat_le n most

-- the numbers of a kind are within their limits
abbrev pub is_kind_within : Kind → Bool
is_kind_within (Tumbling length) = is_from_one_to TIME_MAX length
is_kind_within (Sliding length slide) =
    is_from_one_to TIME_MAX length && (nat_le 1 slide && (nat_le slide length && nat_le length (LENGTH_RATIO_MAX * slide)))
is_kind_within (Session gap) = is_from_one_to TIME_MAX gap
is_kind_within Marks = true
is_kind_within (Events count) = is_from_one_to JOURNAL_MAX count

-- the same as facts
abbrev pub IsKindWithin : Kind → Type 0
IsKindWithin (Tumbling length) = (1 ≤ length) × (length ≤ TIME_MAX)
IsKindWithin (Sliding length slide) = (1 ≤ length) × (length ≤ TIME_MAX) × (1 ≤ slide) × (slide ≤ length) × (length ≤ LENGTH_RATIO_MAX * slide)
IsKindWithin (Session gap) = (1 ≤ gap) × (gap ≤ TIME_MAX)
IsKindWithin Marks = Unit {0}
IsKindWithin (Events count) = (1 ≤ count) × (count ≤ JOURNAL_MAX)

-- whether a window is tumbling or sliding
abbrev pub is_timed : Kind → Bool
is_timed (Tumbling length) = true
is_timed (Sliding length slide) = true
is_timed (Session gap) = false
is_timed Marks = false
is_timed (Events count) = false

-- whether a window is one of sessions
abbrev pub is_session : Kind → Bool
is_session (Tumbling length) = false
is_session (Sliding length slide) = false
is_session (Session gap) = true
is_session Marks = false
is_session (Events count) = false

-- a window of event counts
abbrev pub is_events : Kind → Bool
is_events (Tumbling length) = false
is_events (Sliding length slide) = false
is_events (Session gap) = false
is_events Marks = false
is_events (Events count) = true

-- the length of the intervals of a tumbling or sliding window, and 0 for the other kinds
abbrev pub length_of : Kind → ℕ
length_of (Tumbling length) = length
length_of (Sliding length slide) = length
length_of (Session gap) = 0
length_of Marks = 0
length_of (Events count) = 0

-- how far one interval starts behind the other, and 0 for the other kinds
abbrev pub slide_of : Kind → ℕ
slide_of (Tumbling length) = length
slide_of (Sliding length slide) = slide
slide_of (Session gap) = 0
slide_of Marks = 0
slide_of (Events count) = 0

-- how many events an instance of a window of this kind has, where the window counts them
abbrev pub events_in : Kind → ℕ
events_in (Tumbling length) = 0
events_in (Sliding length slide) = 0
events_in (Session gap) = 0
events_in Marks = 0
events_in (Events count) = count

-- some start k * slide, or some end k * slide + length, lies after low and at or before high
abbrev pub HasBound : ℕ → ℕ → ℕ → ℕ → Type 0
HasBound length slide low high =
    (k : ℕ) × (((low < k * slide) × (k * slide ≤ high)) ⊎ ((low < k * slide + length) × (k * slide + length ≤ high)))

-- a window cuts between two times: one of its starts or ends lies after the first and at or before the second, or they are at least its gap apart
abbrev pub CutsBetween : Kind → ℕ → ℕ → Type 0
CutsBetween (Tumbling length) low high = HasBound length length low high
CutsBetween (Sliding length slide) low high = HasBound length slide low high
CutsBetween (Session gap) low high = gap ≤ high - low
CutsBetween Marks low high = ⊥
CutsBetween (Events count) low high = ⊥

-- how many of the times offset, offset + slide, offset + 2 * slide and so on are at most t
abbrev pub bounds_up_to : ℕ → ℕ → ℕ → ℕ
bounds_up_to offset slide t = if nat_lt t offset then 0 else (t - offset) / slide + 1

-- one of these times lies after low and at or before high
abbrev pub has_bound : ℕ → ℕ → ℕ → ℕ → Bool
has_bound offset slide low high = nat_lt (bounds_up_to offset slide low) (bounds_up_to offset slide high)

-- whether a window cuts between two times, as it is computed
abbrev pub cuts_between : Kind → ℕ → ℕ → Bool
cuts_between (Tumbling length) low high = has_bound 0 length low high
cuts_between (Sliding length slide) low high = has_bound 0 slide low high || has_bound length slide low high
cuts_between (Session gap) low high = nat_le gap (high - low)
cuts_between Marks low high = false
cuts_between (Events count) low high = false
