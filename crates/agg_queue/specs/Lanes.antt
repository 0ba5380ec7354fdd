-- What the cells of a queue are in contracts.
use Rattle.std.specs.Prelude.{◌≡◌, ℕ, List}
use Rattle.agg_queue.specs.Queue.{Queue}

-- the values and the aggregates beside them, front first, and for how many more there is room
pub record Lanes (M : Type 0) : Type 0 where
  pub values : List M
  pub aggregates : List M
  pub spare : ℕ

-- the cells as a queue of their values
abbrev pub queue_of : {M : Type 0} → Lanes M → Queue M
queue_of cells = record { items = cells.values; spare = cells.spare }

-- no cell comes or goes, and each keeps its value: only aggregates may change
pub record KeepsValues {M : Type 0} (old new : Lanes M) : Type 0 where
  pub values : new.values ≡ old.values
  pub spare : new.spare ≡ old.spare
