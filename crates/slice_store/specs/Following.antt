-- Slices and their partials: when a tuple may enter them, and that the partials follow what becomes of the slices.
use Rattle.std.specs.Prelude.{◌≡◌, ◌≤◌, ◌+◌, ◌-◌, ℕ, ℤ, List, [], length, map, nat_le, slice_index_or, if◌then◌else◌}
use Rattle.stream_base.specs.declared.kept.Kept.{Kept}
use Rattle.stream_base.specs.Model.Windows.{first_time, last_time}
use Rattle.partials.specs.Apart.{SpendsNear, Sums}
use Rattle.slice_lists.specs.Slices.{AreSlices, CanEnter, CanSplit, Sliced}
use Rattle.agg_store.specs.Stored.{partial_of}

-- a tuple may enter the slices from one place up to another, which are as every store has them: the partials are those of the slices, and there is room for one more
pub record MayEnter {M : Type 0} (of_values : List ℤ → M) (from to : ℕ) (x : Kept) (runs : Sliced) (partials : Sums M) : Type 0 where
  pub holds : AreSlices runs.slices
  pub can : CanEnter from to x runs
  pub spare : 1 ≤ partials.spare
  pub stand : partials.pairs ≡ map (partial_of of_values) runs.slices

-- a slice may be split at a time, and the slices are as every store has them: the partials are those of the slices, and there is room for one more
pub record MaySplit {M : Type 0} (of_values : List ℤ → M) (at time : ℕ) (runs : Sliced) (partials : Sums M) : Type 0 where
  pub holds : AreSlices runs.slices
  pub can : CanSplit at time runs
  pub spare : 1 ≤ partials.spare
  pub stand : partials.pairs ≡ map (partial_of of_values) runs.slices

-- the slices have become these, as every store has them, and the partials are theirs again; one room at most was used of both, and the reach grew by one at most
pub record Follow {M : Type 0} (of_values : List ℤ → M) (these : List (List Kept)) (runs : Sliced) (partials : Sums M) (runs' : Sliced) (partials' : Sums M) : Type 0 where
  pub slices : runs'.slices ≡ these
  pub holds : AreSlices runs'.slices
  pub stand : partials'.pairs ≡ map (partial_of of_values) runs'.slices
  pub room : runs.spare ≤ runs'.spare + 1
  pub spare : partials.spare ≤ partials'.spare + 1
  pub reach : partials'.reach ≤ partials.reach + 1

-- how many tuples of a slice are folded anew for one that comes at a time in it: none where it comes behind them all, and else all with that one
abbrev pub refolded : ℕ → List Kept → ℕ
refolded time run = if nat_le (last_time run) time then 0 else length run + 1

-- where a tuple enters one slice, and doesn't come before that, the steps go by as many levels as are near where so many slices lie behind it, and by how many tuples are folded anew
abbrev pub EntersNear : (ℕ → ℕ → Type 0) → ℕ → ℕ → Kept → List (List Kept) → ℕ → ℕ → ℕ → Type 0
EntersNear Near from to x slices reach made makes =
    to ≡ from + 1 → first_time (slice_index_or slices from []) ≤ x.time
    → SpendsNear Near (length slices - to) reach (2 + refolded x.time (slice_index_or slices from [])) made makes
