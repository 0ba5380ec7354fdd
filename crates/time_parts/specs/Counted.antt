-- What the part of a window of event counts is in contracts, and what it promises.
use Rattle.std.specs.Prelude.{◌≡◌, ◌≤◌, ◌<◌, ◌+◌, ◌-◌, ◌*◌, ℕ, true, false, length, slice_get}
use Rattle.std.specs.Option.{option_map_or}
use Rattle.std.proofs.Common.{arith}
use Rattle.stream_base.specs.Limits.{Definitions}
use Rattle.stream_base.specs.Model.Changes.{Moment}
use Rattle.stream_base.specs.Kinds.{is_events}
use Rattle.window_laws.specs.After.{at_water}
use Rattle.count_shift.specs.Counting.{count_of, later, move_changes, put_changes}
use Rattle.count_shift.specs.Lane.{FollowsTuples, Laned}
use Rattle.count_shift.proofs.Behind.{follows_later}
use Rattle.key_parts.specs.Calls.{window_kind}

-- there is a window at a place, and it counts events
abbrev pub CountsAt : Definitions → ℕ → Type 0
CountsAt d window =
    option_map_or (λ def. is_events def.kind) (slice_get d.windows window) false ≡ true

-- the window counts events, and the lane has the tuples of a key, but for whole first instances that lie at or before the watermark minus the lateness: no tuple that is still accepted shifts them
pub record Counts (d : Definitions) (window : ℕ) (m : Moment) (lane : Laned) : Type 0 where
  pub counts : CountsAt d window
  pub follows : FollowsTuples (count_of (window_kind d window)) (m.water - d.lateness) m.kept lane

-- how many instances a tuple at a time changes
abbrev pub shift_room : Definitions → ℕ → ℕ → ℕ → Laned → ℕ
shift_room d window time water lane = put_changes (count_of (window_kind d window)) lane.kept time water

-- how many instances a move completes
abbrev pub fill_room : Definitions → ℕ → ℕ → ℕ → Laned → ℕ
fill_room d window old new lane = move_changes (count_of (window_kind d window)) lane.kept old new

-- fewer tuples are kept than twice as many as lie behind the watermark minus the lateness and fill one instance
abbrev pub KeepsFew : Definitions → ℕ → ℕ → Laned → Type 0
KeepsFew d window water lane =
    length lane.kept < 2 * (later lane.kept (water - d.lateness) + count_of (window_kind d window))

-- at a later watermark the lane counts on
pub counts_on : (d : Definitions) (window : ℕ) (m : Moment) (new : ℕ) (lane : Laned) → Counts d window m lane → m.water ≤ new → Counts d window (at_water m new) lane
counts_on d window m new lane stood rises = record {
  counts = stood.counts;
  follows = follows_later (count_of (window_kind d window)) (m.water - d.lateness) (new - d.lateness) m.kept lane (omega arith) stood.follows;
}
