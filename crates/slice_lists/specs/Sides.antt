-- What stands at the sides of a place among slices.
use Rattle.std.specs.Prelude.{◌≡◌, ◌≤◌, ◌<◌, ◌+◌, ◌⊎◌, ℕ, suc, Bool, true, false, List, [], length, slice_index_or}
use Rattle.stream_base.specs.declared.kept.Kept.{Kept}
use Rattle.stream_base.specs.Model.Windows.{first_time, last_time}
use Rattle.stream_base.specs.Places.{IsPlaceOf}

-- a time lies inside the slice before the place, or there is no cut from its last tuple on
abbrev pub IsNearBefore : (ℕ → ℕ → Bool) → List (List Kept) → ℕ → ℕ → Type 0
IsNearBefore cut slices at time =
    (i : ℕ) × (at ≡ suc i) × ((time < last_time (slice_index_or slices i [])) ⊎ (cut (last_time (slice_index_or slices i [])) time ≡ false))

-- the slice before the place, if there is one, ends before the time, with a cut between
abbrev pub IsApartBefore : (ℕ → ℕ → Bool) → List (List Kept) → ℕ → ℕ → Type 0
IsApartBefore cut slices at time =
    (i : ℕ) → at ≡ suc i → (last_time (slice_index_or slices i []) ≤ time) × (cut (last_time (slice_index_or slices i [])) time ≡ true)

-- there is a slice behind the place, and no cut up to its first tuple
abbrev pub IsNearBehind : (ℕ → ℕ → Bool) → List (List Kept) → ℕ → ℕ → Type 0
IsNearBehind cut slices at time = (at < length slices) × (cut time (first_time (slice_index_or slices at [])) ≡ false)

-- there is a cut up to the first tuple of the slice behind the place, if there is one
abbrev pub IsApartBehind : (ℕ → ℕ → Bool) → List (List Kept) → ℕ → ℕ → Type 0
IsApartBehind cut slices at time = at < length slices → cut time (first_time (slice_index_or slices at [])) ≡ true

-- the place from which on slices are entered: the one before, where the time is near to that slice, or else this one
abbrev pub IsFirstEntered : (ℕ → ℕ → Bool) → List (List Kept) → ℕ → ℕ → ℕ → Type 0
IsFirstEntered cut slices at time from =
    (IsNearBefore cut slices at time × (from + 1 ≡ at)) ⊎ (IsApartBefore cut slices at time × (from ≡ at))

-- the place up to which they are
abbrev pub IsLastEntered : (ℕ → ℕ → Bool) → List (List Kept) → ℕ → ℕ → ℕ → Type 0
IsLastEntered cut slices at time to =
    (IsNearBehind cut slices at time × (to ≡ at + 1)) ⊎ (IsApartBehind cut slices at time × (to ≡ at))

-- the slice at a place has tuples before a time and from it on, and is the last that begins before it
pub record IsAcrossAt (slices : List (List Kept)) (time at : ℕ) : Type 0 where
  pub within : at < length slices
  pub before : first_time (slice_index_or slices at []) < time
  pub behind : time ≤ last_time (slice_index_or slices at [])
  pub place : IsPlaceOf first_time slices time (at + 1)
