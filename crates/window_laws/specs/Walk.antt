-- The walk over the intervals that a move of the watermark completes.
use Rattle.std.specs.Prelude.{◌≡◌, ◌≤◌, ◌<◌, ◌+◌, ◌-◌, ◌*◌, ◌/◌, ◌&&◌, ◌⊎◌, ℕ, List, [], ◌∷◌, filter, map, nat_le, All}
use Rattle.std.specs.List.{Contains}
use Rattle.stream_base.specs.declared.kept.Kept.{Kept}
use Rattle.stream_base.specs.declared.kind.Kind.{Kind}
use Rattle.stream_base.specs.Model.Windows.{Instance, interval, starts_of}
use Rattle.stream_base.specs.Kinds.{length_of, slide_of}

-- the first multiple of the slide whose interval ends after a time
abbrev pub next_start : ℕ → ℕ → ℕ → ℕ
next_start length slide time = (time + slide - length) / slide * slide

-- the starts from one on of the intervals that hold a tuple and end at or before the new watermark
abbrev pub due_from : ℕ → ℕ → List Kept → ℕ → ℕ → List ℕ
due_from length slide kept from new =
    filter (λ low. nat_le from low && nat_le (low + length) new) (starts_of length slide kept)

-- the instances over the intervals that start so
abbrev pub intervals_at : ℕ → List Kept → List ℕ → List Instance
intervals_at length kept lows = map (λ low. interval low (low + length) kept) lows

-- the tuple is one at or after a time, and none stands between
pub record IsFirstFrom (kept : List Kept) (from : ℕ) (x : Kept) : Type 0 where
  pub member : Contains kept x
  pub after : from ≤ x.time
  pub first : All (λ y. (y.time < from) ⊎ (x.time ≤ y.time)) kept

-- the next interval of the walk: none is due where it ends after the new watermark, else it is the first, and the rest is due from the start behind it
pub record WalksOn (length slide : ℕ) (kept : List Kept) (from low new : ℕ) : Type 0 where
  pub multiple : (k : ℕ) × (low ≡ k * slide)
  pub ends : new < low + length → due_from length slide kept from new ≡ []
  pub goes_on : low + length ≤ new
      → due_from length slide kept from new ≡ low ∷ due_from length slide kept (low + slide) new

-- the same of a window that is tumbling or sliding
abbrev pub next_start_of : Kind → ℕ → ℕ
next_start_of kind time = next_start (length_of kind) (slide_of kind) time
