-- The window that a lane serves, and how its intervals lie.
use Rattle.std.specs.Prelude.{◌≡◌, ◌≤◌, ◌+◌, ◌-◌, ◌*◌, ◌/◌, ◌⊎◌, ℕ, Bool, true, false, List, Some, slice_get, nat_lt, if◌then◌else◌}
use Rattle.std.specs.Option.{option_map_or}
use Rattle.stream_base.specs.declared.def.Def.{Def}
use Rattle.stream_base.specs.declared.kept.Kept.{Kept}
use Rattle.stream_base.specs.declared.kind.Kind.{Kind}
use Rattle.stream_base.specs.declared.limits.TheConstants.{TIME_MAX}
use Rattle.stream_base.specs.Laws.{TimesDoNotFall}
use Rattle.stream_base.specs.Kinds.{is_timed, length_of, slide_of}
use Rattle.agg_store.specs.Stored.{IsSliced, Stored}
use Rattle.slice_lists.specs.Slices.{joined}
use Rattle.slice_lists.specs.Runs.{IsAligned}

-- the window at a place is this one
abbrev pub IsWindowAt : List Def → ℕ → Def → Type 0
IsWindowAt windows window def = slice_get windows window ≡ Some def

-- there is a window at a place, and it is tumbling or sliding
abbrev pub is_served : List Def → ℕ → Bool
is_served windows window = option_map_or (λ def. is_timed def.kind) (slice_get windows window) false

-- the window at a place is tumbling or sliding, and slices part at the bounds of all windows
pub record IsServedOver (windows : List Def) (window : ℕ) (s : Stored) : Type 0 where
  pub served : is_served windows window ≡ true
  pub sliced : IsSliced windows s

-- intervals move on, overlap or touch, and are no longer than times are great
pub record IsSpan (length slide : ℕ) : Type 0 where
  pub moves : 1 ≤ slide
  pub overlaps : slide ≤ length
  pub short : length ≤ TIME_MAX

-- the end of the last interval that ends at or before a time, and 0 where there is none
abbrev pub last_end : ℕ → ℕ → ℕ → ℕ
last_end length slide time =
    if nat_lt time length then 0 else (time - length) / slide * slide + length

-- the same of a window that is tumbling or sliding
abbrev pub last_end_by : Kind → ℕ → ℕ
last_end_by kind time = last_end (length_of kind) (slide_of kind) time

-- 0, or the end of an interval
abbrev pub IsEdge : ℕ → ℕ → ℕ → Type 0
IsEdge length slide time = (time ≡ 0) ⊎ ((k : ℕ) × (time ≡ k * slide + length))

-- over tuples in event order no slice has tuples on both sides of a start or an end
pub record ArePartedAt (length slide : ℕ) (slices : List (List Kept)) : Type 0 where
  pub starts : TimesDoNotFall (joined slices) → (k : ℕ) → IsAligned slices (k * slide)
  pub ends : TimesDoNotFall (joined slices) → (k : ℕ) → IsAligned slices (k * slide + length)
