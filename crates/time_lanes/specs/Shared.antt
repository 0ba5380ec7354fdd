-- What the complete intervals that hold a late tuple share.
use Rattle.std.specs.Prelude.{◌≤◌, ◌+◌, ◌-◌, ◌*◌, ℕ, List, length, slice_index_or}
use Rattle.stream_base.specs.declared.def.Def.{Def}
use Rattle.stream_base.specs.declared.kept.Kept.{Kept}
use Rattle.stream_base.specs.declared.kind.Kind.{Kind}
use Rattle.slice_lists.specs.Runs.{runs_within}
use Rattle.stream_base.specs.Kinds.{length_of}
use Rattle.agg_store.specs.Stored.{Stored}
use Rattle.time_lanes.specs.Calls.{OfWindow}
use Rattle.time_lanes.specs.Late.{complete_holding}

-- the slices that begin in a window's complete intervals that hold a time, from the start of the first one up to the end of the last
abbrev pub slices_holding : Kind → ℕ → ℕ → Stored → List (List Kept)
slices_holding kind time water s =
    let lows = complete_holding kind time water in
    runs_within (slice_index_or lows 0 0) (slice_index_or lows (length lows - 1) 0 + length_of kind) s.slices

-- there are at most 64 of these intervals, and at most 32 slices for each
pub record AreFewAt (kind : Kind) (time water : ℕ) (s : Stored) : Type 0 where
  pub intervals : length (complete_holding kind time water) ≤ 64
  pub slices : length (slices_holding kind time water s) ≤ 32 * length (complete_holding kind time water)

-- where they are few, at most one step was made for each of these slices, and four for each interval
abbrev pub IsSharedAt : Kind → ℕ → ℕ → Stored → ℕ → ℕ → Type 0
IsSharedAt kind time water s steps later =
    AreFewAt kind time water s
    → later ≤ steps + length (slices_holding kind time water s) + 4 * length (complete_holding kind time water)

-- the same of the window at a place
abbrev pub SharesAt : List Def → ℕ → ℕ → ℕ → Stored → ℕ → ℕ → Type 0
SharesAt windows window time water s steps later =
    OfWindow windows window (λ w. IsSharedAt w.kind time water s steps later)
