-- When a lane may be called, and what it costs to append.
use Rattle.std.specs.Prelude.{◌≡◌, ◌≤◌, ◌+◌, ◌-◌, ◌*◌, ℕ, true, List, Vec, vec_capacity, vec_len}
use Rattle.stream_base.specs.Model.Moments.{IsWater}
use Rattle.stream_base.specs.declared.def.Def.{Def}
use Rattle.stream_base.specs.declared.func.Func.{Func}
use Rattle.stream_base.specs.declared.limits.TheConstants.{TIME_MAX}
use Rattle.agg_store.specs.Stored.{Stored}
use Rattle.time_lanes.specs.Spans.{IsServedOver, IsWindowAt, is_served}

-- of the window at a place
abbrev pub OfWindow : List Def → ℕ → (Def → Type 0) → Type 0
OfWindow windows window Holds = (def : Def) → IsWindowAt windows window def → Holds def

-- a vector has so many elements more
abbrev pub GrowsBy : {X Z : Type 0} → ℕ → Vec X Z → Vec X Z → Type 0
GrowsBy count old new = vec_len new ≡ vec_len old + count

-- partials that show such functions show that of the window at a place
abbrev pub ShowsWindow : (Func → Type 0) → List Def → ℕ → Type 0
ShowsWindow serves windows window = (def : Def) → IsWindowAt windows window def → serves def.func

-- the window at a place is tumbling or sliding, and its intervals may hold a time
pub record MayHold (windows : List Def) (window time : ℕ) : Type 0 where
  pub served : is_served windows window ≡ true
  pub in_time : time ≤ TIME_MAX

-- the same, where a tuple of that time comes under a watermark
pub record MayComeTo (windows : List Def) (window time water : ℕ) : Type 0 where
  pub holds : MayHold windows window time
  pub is_water : IsWater water

-- the window at a place is served over the slices of a store, under a watermark
pub record IsServedUnder (windows : List Def) (window : ℕ) (s : Stored) (water : ℕ) : Type 0 where
  pub over : IsServedOver windows window s
  pub is_water : IsWater water

-- the same, where the watermark moves to another
pub record MayFollow (windows : List Def) (window : ℕ) (s : Stored) (old new : ℕ) : Type 0 where
  pub stands : IsServedUnder windows window s old
  pub is_water : IsWater new

-- what was appended took no memory, and so many steps each at most
pub record AppendsWithin {X Z : Type 0} (each : ℕ) (old new : Vec X Z) (steps later : ℕ) : Type 0 where
  pub capacity : vec_capacity new ≡ vec_capacity old
  pub cost : later ≤ steps + each * (vec_len new - vec_len old)
