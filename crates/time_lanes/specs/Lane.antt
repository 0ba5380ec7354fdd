-- What a lane is in contracts, and what it knows of the slices of its key.
use Rattle.std.specs.Prelude.{◌≡◌, ◌≤◌, ◌*◌, ℕ, ℤ, Bool, false, List, [], length, if◌then◌else◌}
use Rattle.stream_base.specs.declared.kind.Kind.{Kind}
use Rattle.stream_base.specs.Kinds.{length_of, slide_of}
use Rattle.slice_lists.specs.Runs.{runs_within}
use Rattle.window_laws.specs.Walk.{next_start_of}
use Rattle.agg_store.specs.Stored.{Stored}
use Rattle.time_lanes.specs.Held.{partials_of}
use Rattle.time_lanes.specs.Spans.{IsEdge, last_end_by}

-- the partials of the slices that it holds, oldest first; up to where it holds them; whether one of them has changed since; for how many more there is room; and what is left of the steps that were paid for
pub record Laned (M : Type 0) : Type 0 where
  pub partials : List M
  pub to : ℕ
  pub stale : Bool
  pub spare : ℕ
  pub credit : ℕ

-- what is left of a lane that lets all go where one of the slices has changed
abbrev pub fresh_partials : {M : Type 0} → Laned M → List M
fresh_partials lane = if lane.stale then [] else lane.partials

abbrev pub fresh_to : {M : Type 0} → Laned M → ℕ
fresh_to lane = if lane.stale then 0 else lane.to

-- what a lane knows of the slices at a watermark: unless it is stale, it holds the partials of those that the next interval needs, up to an end that the watermark has reached
pub record Knows {M : Type 0} (of_values : List ℤ → M) (kind : Kind) (water : ℕ) (s : Stored) (lane : Laned M) : Type 0 where
  pub reached : lane.to ≤ last_end_by kind water
  pub edge : IsEdge (length_of kind) (slide_of kind) lane.to
  pub held : lane.stale ≡ false
      → lane.partials ≡ partials_of of_values (runs_within (next_start_of kind water) lane.to s.slices)

-- and it misses none of those in the intervals that are complete
pub record MissesNoSlice {M : Type 0} (kind : Kind) (water : ℕ) (s : Stored) (lane : Laned M) : Type 0 where
  pub fresh : lane.stale ≡ false
  pub none_missed : runs_within lane.to (last_end_by kind water) s.slices ≡ []

-- where it knows the slices at a watermark, it knows them after at another
abbrev pub KnowsOn : {M : Type 0} → (List ℤ → M) → Kind → Stored → ℕ → ℕ → Laned M → Laned M → Type 0
KnowsOn of_values kind s water later old new =
    Knows of_values kind water s old → Knows of_values kind later s new

-- only room differs
pub record IsAsBefore {M : Type 0} (old new : Laned M) : Type 0 where
  pub partials : new.partials ≡ old.partials
  pub to : new.to ≡ old.to
  pub stale : new.stale ≡ old.stale
  pub credit : new.credit ≡ old.credit

-- the same, and there is no less room
pub record HasMoreRoom {M : Type 0} (old new : Laned M) : Type 0 where
  pub kept : IsAsBefore old new
  pub spare : old.spare ≤ new.spare

-- it holds the same slices, with the same room and credit
pub record HoldsTheSame {M : Type 0} (old new : Laned M) : Type 0 where
  pub partials : new.partials ≡ old.partials
  pub to : new.to ≡ old.to
  pub spare : new.spare ≡ old.spare
  pub credit : new.credit ≡ old.credit

-- it let all go where one of the slices had changed, and lost no room by it; at most five steps are left on credit for each slice that it holds
pub record IsRefreshed {M : Type 0} (old new : Laned M) : Type 0 where
  pub stale : new.stale ≡ false
  pub partials : new.partials ≡ fresh_partials old
  pub to : new.to ≡ fresh_to old
  pub spare : old.spare ≤ new.spare
  pub credit : new.credit ≤ old.credit
  pub little : new.credit ≤ 5 * length new.partials

-- the slices up to each end of an interval stay that lies at or before a time
abbrev pub IsSameUpTo : Kind → ℕ → Stored → Stored → Type 0
IsSameUpTo kind time old new =
    (low edge : ℕ) → IsEdge (length_of kind) (slide_of kind) edge → edge ≤ time
    → runs_within low edge new.slices ≡ runs_within low edge old.slices
