-- Slices as lists of tuples, and how one shows.
use Rattle.std.specs.Prelude.{◌≡◌, ◌≤◌, ◌<◌, ◌+◌, ◌-◌, ◌^◌, ◌++◌, ℕ, ℤ, List, [], ◌∷◌, length, take, drop, map, suc, filter, slice_index_or, nat_lt, nat_le, All, FitsSigned}
use Rattle.std.specs.Int.{w64}
use Rattle.std.specs.List.{flat_map}
use Rattle.stream_base.specs.declared.kept.Kept.{Kept}
use Rattle.stream_base.specs.declared.limits.TheConstants.{TIME_MAX}
use Rattle.stream_base.specs.Model.Journal.{put_in_order}
use Rattle.stream_base.specs.Model.Windows.{first_time, last_time}
use Rattle.slice_lists.specs.Runs.{AreInOrder}
use Rattle.slice_lists.specs.declared.slice.Slice.{Slice}

-- the tuples of slices, one slice behind another
abbrev pub joined : List (List Kept) → List Kept
joined slices = flat_map (λ run. run) slices

-- the values of tuples
abbrev pub values_of : List Kept → List ℤ
values_of tuples = map (λ x. x.value) tuples

-- a slice as it shows
abbrev pub slice_of : List Kept → Slice
slice_of run = record { low = first_time run; high = last_time run; number = length run }

-- what holds of the slices of every store: times don't fall inside a slice and rise from one to the next, none is above the greatest time, each value is a number of 64 bits, and 64 bits count the tuples
pub record AreSlices (slices : List (List Kept)) : Type 0 where
  pub ordered : AreInOrder slices
  pub in_time : All (λ x. x.time ≤ TIME_MAX) (joined slices)
  pub values : All (λ x. FitsSigned w64 x.value) (joined slices)
  pub counted : length (joined slices) < 2 ^ 64

-- slices as lists of tuples, and for how many more tuples there is room
pub record Sliced : Type 0 where
  pub slices : List (List Kept)
  pub spare : ℕ

-- the slices from one place up to another
abbrev pub slices_between : ℕ → ℕ → List (List Kept) → List (List Kept)
slices_between from to slices = take (to - from) (drop from slices)

-- the slices from one place up to another have become one, with a tuple more
abbrev pub entered_at : ℕ → ℕ → Kept → List (List Kept) → List (List Kept)
entered_at from to x slices =
    take from slices ++ put_in_order (joined (slices_between from to slices)) x ∷ drop to slices

-- a slice has become two: its tuples before a time, and those from it on
abbrev pub split_at : ℕ → ℕ → List (List Kept) → List (List Kept)
split_at at time slices =
    let run = slice_index_or slices at [] in
    take at slices ++ filter (λ x. nat_lt x.time time) run ∷ filter (λ x. nat_le time x.time) run ∷ drop (suc at) slices

-- a tuple may enter the slices from one place up to another, which then are one: there is room, they are at most two neighbours with the time between them, and all is in order then
pub record CanEnter (from to : ℕ) (x : Kept) (s : Sliced) : Type 0 where
  pub room : 1 ≤ s.spare
  pub order : from ≤ to
  pub within : to ≤ length s.slices
  pub few : to ≤ from + 2
  pub time : x.time ≤ TIME_MAX
  pub value : FitsSigned w64 x.value
  pub ordered : AreInOrder (entered_at from to x s.slices)
  pub between : to ≡ from + 2
      → (last_time (slice_index_or s.slices from []) ≤ x.time) × (x.time < first_time (slice_index_or s.slices (suc from) []))

-- a slice may be split at a time: there is room, and it has tuples before the time and from it on
pub record CanSplit (at time : ℕ) (s : Sliced) : Type 0 where
  pub room : 1 ≤ s.spare
  pub within : at < length s.slices
  pub before : first_time (slice_index_or s.slices at []) < time
  pub behind : time ≤ last_time (slice_index_or s.slices at [])
