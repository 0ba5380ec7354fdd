-- What a store keeps of its parts.
use Rattle.std.specs.Prelude.{◌≡◌, ℕ, ℤ, List, map}
use Rattle.std.specs.List.Sorted.{IsStrictlyIncreasing}
use Rattle.stream_base.specs.declared.kept.Kept.{Kept}
use Rattle.slice_lists.specs.Slices.{AreSlices}
use Rattle.agg_store.specs.Stored.{partial_of}

-- the slices are as every store has them, the marks rise, and under the time of its first tuple stands the partial of each slice
pub record AreInside {M : Type 0} (of_values : List ℤ → M) (slices : List (List Kept)) (marks : List ℕ) (pairs : List (ℕ × M)) : Type 0 where
  pub holds : AreSlices slices
  pub rising : IsStrictlyIncreasing marks
  pub partials : pairs ≡ map (partial_of of_values) slices
