-- What the part of a tumbling or sliding window is in contracts, and what it promises.
use Rattle.std.proofs.Common.{◌≡◌, ◌∙◌, ◌≤◌, ◌-◌, ℕ, ℤ, true, List, [], length, Option, ap, subst, sym}
use Rattle.stream_base.specs.Limits.{Definitions}
use Rattle.stream_base.specs.declared.former.Former.{Former}
use Rattle.stream_base.specs.declared.func.Func.{Func}
use Rattle.stream_base.specs.declared.func.Func.TheVariants.{Count}
use Rattle.stream_base.specs.declared.kind.Kind.TheVariants.{Marks}
use Rattle.stream_base.specs.Laws.{completions}
use Rattle.stream_base.specs.Model.Changes.{Moment}
use Rattle.window_laws.specs.After.{at_water}
use Rattle.slice_lists.specs.Runs.{runs_within}
use Rattle.window_laws.specs.Walk.{next_start_of}
use Rattle.agg_store.specs.Stored.{IsAsBefore, IsStore, Stored, tuples_of}
use Rattle.time_lanes.specs.Held.{partials_of}
use Rattle.time_lanes.specs.Lane.{Knows, MissesNoSlice, Laned}
use Rattle.time_lanes.specs.Late.{complete_holding, formers_of}
use Rattle.time_lanes.specs.Moves.{completed_starts, slices_between, slices_due, slices_in_last}
use Rattle.time_lanes.specs.Spans.{is_served, last_end_by}
use Rattle.time_lanes.proofs.StayFacts.{last_by}
use Rattle.time_lanes.proofs.WaitFacts.{serves_on as lane_serves_on}
use Rattle.key_parts.specs.Calls.{window_at, window_kind}
use Rattle.key_parts.specs.Held.{IsHeld}

-- the lane of a window, what it has told of what stands before a tuple comes, and for how much of that there is room
pub record Timed (M : Type 0) : Type 0 where
  pub lane : Laned M
  pub formers : List (Option Former)
  pub room : ℕ

-- the window at a place is tumbling or sliding
abbrev pub IsTimedAt : Definitions → ℕ → Type 0
IsTimedAt d window = is_served d.windows window ≡ true

-- and partials that show such functions show that of the window
pub record IsTimedShown (serves : Func → Type 0) (d : Definitions) (window : ℕ) : Type 0 where
  pub timed : IsTimedAt d window
  pub shown : serves (window_at d window).func

-- the window is tumbling or sliding, its function can be shown, and its lane knows the slices of a store at the watermark of a key
pub record Serves {M : Type 0} (serves : Func → Type 0) (of_values : List ℤ → M) (d : Definitions) (window : ℕ) (m : Moment) (s : Stored) (lane : Laned M) : Type 0 where
  pub timed : IsTimedAt d window
  pub shown : serves (window_at d window).func
  pub knows : Knows of_values (window_kind d window) m.water s lane

-- it has told what stands of the complete intervals that hold a time
abbrev pub HasTold : {M : Type 0} → Definitions → ℕ → Moment → ℕ → Timed M → Type 0
HasTold d window m time p = p.formers ≡ formers_of (window_at d window) time m.water m.kept

-- how many complete intervals hold a time
abbrev pub late_room : Definitions → ℕ → ℕ → ℕ → ℕ
late_room d window time water = length (complete_holding (window_kind d window) time water)

-- the lane has room for the slices that a move takes up
abbrev pub CanMove : {M : Type 0} → Definitions → ℕ → Stored → ℕ → ℕ → Laned M → Type 0
CanMove d window s old new lane = length (slices_due (window_kind d window) lane s old new) ≤ lane.spare

-- how many intervals a move completes
abbrev pub rows_due : Definitions → ℕ → Stored → ℕ → ℕ → ℕ
rows_due d window s old new = length (completed_starts (window_kind d window) (tuples_of s) old new)

-- the start of the first interval that ends after the watermark minus the lateness
abbrev pub open_from : Definitions → ℕ → ℕ → ℕ
open_from d window water = next_start_of (window_kind d window) (water - d.lateness)

-- the end of the last interval that is complete at a watermark, and 0 where there is none
abbrev pub complete_up_to : Definitions → ℕ → ℕ → ℕ
complete_up_to d window water = last_end_by (window_kind d window) water

-- the lane misses none of the slices in the intervals that are complete at a watermark
abbrev pub MissesNone : {M : Type 0} → Definitions → ℕ → ℕ → Stored → Laned M → Type 0
MissesNone d window water s lane = MissesNoSlice (window_kind d window) water s lane

-- how many slices lie in the intervals that a move completes
abbrev pub slices_completed : Definitions → ℕ → Stored → ℕ → ℕ → ℕ
slices_completed d window s old new = length (slices_between (window_kind d window) s old new)

-- how many lie in the last one that is complete at a watermark
abbrev pub slices_of_last : Definitions → ℕ → Stored → ℕ → ℕ
slices_of_last d window s water = length (slices_in_last (window_kind d window) s water)

-- the room of the store makes no difference
pub serves_with_room : {M : Type 0} {serves : Func → Type 0} {of_values : List ℤ → M} (d : Definitions) (window : ℕ) (m : Moment) (s more : Stored) (lane : Laned M) → IsAsBefore s more → Serves serves of_values d window m s lane → Serves serves of_values d window m more lane
serves_with_room {M} {serves} {of_values} d window m s more lane same stood = record {
  timed = stood.timed;
  shown = stood.shown;
  knows = record {
    reached = stood.knows.reached;
    edge = stood.knows.edge;
    held = λ fresh. subst (λ slices. lane.partials ≡ partials_of of_values (runs_within (next_start_of (window_kind d window) m.water) lane.to slices)) (sym same.slices) (stood.knows.held fresh);
  };
}

-- nor to what it misses
pub misses_with_room : {M : Type 0} (d : Definitions) (window water : ℕ) (s more : Stored) (lane : Laned M) → IsAsBefore s more → MissesNone d window water s lane → MissesNone d window water more lane
misses_with_room d window water s more lane same ahead = record {
  fresh = ahead.fresh;
  none_missed = ap (runs_within lane.to (last_end_by (window_kind d window) water)) same.slices ∙ ahead.none_missed;
}

-- what is complete at a watermark ends by it
pub complete_in_time : (d : Definitions) (window water : ℕ) → complete_up_to d window water ≤ water
complete_in_time d window water = last_by (window_kind d window) water

-- up to a later watermark at which nothing becomes complete it serves on
pub serves_on : {M : Type 0} {serves : Func → Type 0} {of_values : List ℤ → M} (d : Definitions) (window : ℕ) (key : List ℕ) (m : Moment) (n : ℕ) (s : Stored) (lane : Laned M) (new : ℕ) → IsStore s → IsHeld d m n s → Serves serves of_values d window m s lane → m.water ≤ new → completions key m new (window, window_at d window) ≡ [] → Serves serves of_values d window (at_water m new) s lane
serves_on d window key m n s lane new store held stood rises none = record {
  timed = stood.timed;
  shown = stood.shown;
  knows = lane_serves_on d.windows window (record { kind = Marks; func = Count }) key m n new s lane stood.timed held.may_leave.kinds store held.tuples rises none stood.knows;
}
