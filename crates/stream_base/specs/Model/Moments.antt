-- A tuple, a watermark and a moment of a key, by what they are made of.
use Rattle.std.specs.Prelude.{◌≡◌, ◌≤◌, ◌⊎◌, ℕ, ℤ, List}
use Rattle.stream_base.specs.declared.kept.Kept.{Kept}
use Rattle.stream_base.specs.declared.limits.TheConstants.{FINAL, TIME_MAX}
use Rattle.stream_base.specs.Model.Changes.{Moment}

-- a watermark: a time, or the final one
abbrev pub IsWater : ℕ → Type 0
IsWater water = (water ≤ TIME_MAX) ⊎ (water ≡ FINAL)

-- a key's tuples and marks under a watermark
abbrev pub moment : List Kept → List ℕ → ℕ → Moment
moment kept marks water = record { kept = kept; marks = marks; water = water }

-- a tuple at a position
abbrev pub kept_at : ℕ → ℕ → ℤ → Kept
kept_at position time value = record { position = position; time = time; value = value }
