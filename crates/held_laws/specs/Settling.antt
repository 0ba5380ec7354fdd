-- Up to which time the tuples of a key are settled.
use Rattle.std.specs.Prelude.{◌≡◌, ◌≤◌, ◌<◌, ◌-◌, ◌⊎◌, ℕ, true, false, length, All}
use Rattle.std.specs.List.{Contains}
use Rattle.stream_base.specs.Limits.{Definitions}
use Rattle.stream_base.specs.declared.kept.Kept.{Kept}
use Rattle.stream_base.specs.Model.Changes.{Moment}
use Rattle.stream_base.specs.Model.Slices.{is_settled}
use Rattle.agg_store.specs.Stored.{Stored, tuples_of}
use Rattle.key_parts.specs.Calls.{window_at}
use Rattle.key_parts.specs.Moves.{SettlesUpTo}

-- up to a time for each window, by its place, and no further the tuples of a key are settled in it
abbrev pub EachSettlesUpTo : Definitions → Moment → (ℕ → ℕ) → Type 0
EachSettlesUpTo d m times = (i : ℕ) → i < length d.windows → SettlesUpTo d.lateness m (window_at d i) (times i)

-- up to a time and no further the tuples of a key are settled
pub record IsSettledUpTo (d : Definitions) (m : Moment) (time : ℕ) : Type 0 where
  pub before : (x : Kept) → Contains m.kept x → x.time < time → is_settled d m x ≡ true
  pub behind : (x : Kept) → Contains m.kept x → time ≤ x.time → is_settled d m x ≡ false

-- a time is the least of the watermark minus the lateness and of the times for the windows
pub record IsLeast (d : Definitions) (water : ℕ) (times : ℕ → ℕ) (time : ℕ) : Type 0 where
  pub by_water : time ≤ water - d.lateness
  pub by_each : (i : ℕ) → i < length d.windows → time ≤ times i
  pub is_one : (time ≡ water - d.lateness) ⊎ ((i : ℕ) × (i < length d.windows) × (time ≡ times i))

-- none of the tuples in the store of a key is settled
abbrev pub NoneSettled : Definitions → Moment → Stored → Type 0
NoneSettled d m s = All (λ x. is_settled d m x ≡ false) (tuples_of s)
