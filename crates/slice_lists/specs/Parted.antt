-- Tuples in a row, parted into slices by their numbers.
use Rattle.std.specs.Prelude.{◌≡◌, List, [], ◌∷◌, map, take, drop}
use Rattle.stream_base.specs.declared.kept.Kept.{Kept}
use Rattle.slice_lists.specs.declared.slice.Slice.{Slice}
use Rattle.slice_lists.specs.Slices.{AreSlices, joined, slice_of}

-- tuples parted into slices of these numbers
abbrev pub parted_by : List Slice → List Kept → List (List Kept)
parted_by [] tuples = []
parted_by (s ∷ ss) tuples = take s.number tuples ∷ parted_by ss (drop s.number tuples)

-- the slices together are the tuples, each shows as it is, and all are in order and within the limits
pub record AreKept (bounds : List Slice) (tuples : List Kept) : Type 0 where
  pub together : joined (parted_by bounds tuples) ≡ tuples
  pub shown : bounds ≡ map slice_of (parted_by bounds tuples)
  pub hold : AreSlices (parted_by bounds tuples)
