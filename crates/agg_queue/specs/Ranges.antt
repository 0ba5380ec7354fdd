-- How a de-amortized banker's aggregator keeps its aggregates, and how far its work has come.
use Rattle.std.specs.Prelude.{◌≡◌, ◌≤◌, ◌<◌, ◌+◌, ℕ, List, length, take, drop, slice_index_or}
use Rattle.std.specs.List.{All}
use Rattle.agg_laws.specs.Laws.{total}
use Rattle.agg_queue.specs.Lanes.{Lanes, KeepsValues}
use Rattle.agg_queue.specs.declared.bounds.Bounds.{Bounds}

-- what the values from one place up to another come to
abbrev pub total_within : {M : Type 0} → M → (M → M → M) → List M → ℕ → ℕ → M
total_within empty op values from to = total empty op (drop from (take to values))

-- the cells from one place up to another are a range of them
pub record IsRange (from to end : ℕ) : Type 0 where
  pub order : from ≤ to
  pub within : to ≤ end

-- the boundaries are in order, and none is behind the end
pub record AreInOrder (bounds : Bounds) (end : ℕ) : Type 0 where
  pub left : bounds.left ≤ bounds.right
  pub right : bounds.right ≤ bounds.accumulator
  pub accumulator : bounds.accumulator ≤ bounds.back
  pub back : bounds.back ≤ end

-- the aggregates of the front, left, right, accumulator and back ranges: each runs from its place up to the back boundary, up to the right boundary, from the right boundary up to its place, up to the back boundary, and from the back boundary up to its place
pub record KeepsTotals {M : Type 0} (IsValue : M → Type 0) (empty : M) (op : M → M → M) (values aggregates : List M) (bounds : Bounds) : Type 0 where
  pub are_values : All IsValue values
  pub aligned : length aggregates ≡ length values
  pub order : AreInOrder bounds (length values)
  pub front : (i : ℕ) → i < bounds.left → slice_index_or aggregates i empty ≡ total_within empty op values i bounds.back
  pub left : (i : ℕ) → bounds.left ≤ i → i < bounds.right → slice_index_or aggregates i empty ≡ total_within empty op values i bounds.right
  pub right : (i : ℕ) → bounds.right ≤ i → i < bounds.accumulator → slice_index_or aggregates i empty ≡ total_within empty op values bounds.right (i + 1)
  pub accumulator : (i : ℕ) → bounds.accumulator ≤ i → i < bounds.back → slice_index_or aggregates i empty ≡ total_within empty op values i bounds.back
  pub back : (i : ℕ) → bounds.back ≤ i → i < length values → slice_index_or aggregates i empty ≡ total_within empty op values bounds.back (i + 1)

-- the cells keep their values, and have the aggregates that the boundaries ask for now
pub record SetsBounds {M : Type 0} (IsValue : M → Type 0) (empty : M) (op : M → M → M) (old new : Lanes M) (bounds : Bounds) : Type 0 where
  pub kept : KeepsValues old new
  pub totals : KeepsTotals IsValue empty op new.values new.aggregates bounds

-- between two calls: the left and the right range are equally long, and unless there is no item, the front range is longer by one than the back range
pub record IsBalanced (bounds : Bounds) (end : ℕ) : Type 0 where
  pub halves : bounds.left + bounds.accumulator ≡ bounds.right + bounds.right
  pub some : 0 < end → 0 < bounds.back
  pub ahead : 0 < end → bounds.left + bounds.back ≡ end + 1

-- after an item came or went: the front range is only as long as the back range, or there is no front and at most one item
pub record IsBehind (bounds : Bounds) (end : ℕ) : Type 0 where
  pub halves : bounds.left + bounds.accumulator ≡ bounds.right + bounds.right
  pub few : bounds.back ≡ 0 → end ≤ 1
  pub even : 0 < bounds.back → bounds.left + bounds.back ≡ end
