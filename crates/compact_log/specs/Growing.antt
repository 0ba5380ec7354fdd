-- What becomes of a list of which cells tell places.
use Rattle.std.specs.Prelude.{◌≡◌, ◌≤◌, ◌<◌, ◌+◌, ℕ, List, Vec, length, slice_get, vec_capacity, vec_len}

-- whatever stood at a place stands there still
pub record Keeps {X : Type 0} (old new : List X) : Type 0 where
  pub longer : length old ≤ length new
  pub same : (k : ℕ) → k < length old → slice_get new k ≡ slice_get old k

-- a vector took in one element more or none, in the room that it had
pub record Grows {X Z : Type 0} (old new : Vec X Z) : Type 0 where
  pub keeps : Keeps old.items new.items
  pub number : vec_len new ≤ vec_len old + 1
  pub capacity : vec_capacity new ≡ vec_capacity old
