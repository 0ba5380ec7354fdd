-- What a store of slices is in contracts.
use Rattle.std.specs.Prelude.{◌≡◌, ◌≤◌, ◌<◌, ℕ, ℤ, List, Option, Some, IfSome, find, nat_le}
use Rattle.std.specs.List.Sorted.{IsStrictlyIncreasing}
use Rattle.stream_base.specs.declared.def.Def.{Def}
use Rattle.stream_base.specs.declared.kept.Kept.{Kept}
use Rattle.stream_base.specs.Laws.{TimesDoNotFall}
use Rattle.stream_base.specs.Model.Slices.{runs_of}
use Rattle.stream_base.specs.Model.Windows.{first_time}
use Rattle.slice_lists.specs.Runs.{IsAligned}
use Rattle.slice_lists.specs.declared.slice.Slice.{Slice}
use Rattle.slice_lists.specs.Slices.{AreSlices, joined, slice_of, values_of}

-- the slices of a key, oldest first; its marks, rising; the greatest time up to which slices were dropped; for how many more tuples or marks there is room; and what the bounds on steps go by
pub record Stored : Type 0 where
  pub slices : List (List Kept)
  pub marks : List ℕ
  pub dropped : ℕ
  pub spare : ℕ
  pub reach : ℕ

-- the tuples, in event order
abbrev pub tuples_of : Stored → List Kept
tuples_of s = joined s.slices

-- the slices are exactly those of the tuples under the windows and the marks
abbrev pub IsSliced : List Def → Stored → Type 0
IsSliced windows s = s.slices ≡ runs_of windows s.marks (tuples_of s)

-- over tuples in event order, as those of every store are, no slice has tuples on both sides of either time
pub record AreBounds (s : Stored) (low high : ℕ) : Type 0 where
  pub low_parts : TimesDoNotFall (tuples_of s) → IsAligned s.slices low
  pub high_parts : TimesDoNotFall (tuples_of s) → IsAligned s.slices high

-- what holds of every store
pub record IsStore (s : Stored) : Type 0 where
  pub slices : AreSlices s.slices
  pub marks : IsStrictlyIncreasing s.marks

-- the partial of a slice, under the time of its first tuple
abbrev pub partial_of : {M : Type 0} → (List ℤ → M) → List Kept → ℕ × M
partial_of of_values run = (first_time run, of_values (values_of run))

-- the first slice that begins at a time or later
abbrev pub first_from : List (List Kept) → ℕ → Option (List Kept)
first_from slices time = find (λ run. nat_le time (first_time run)) slices

-- it begins before another time: so it shows, and this is its partial
pub record IsFirstWithin {M : Type 0} (of_values : List ℤ → M) (slices : List (List Kept)) (low high : ℕ) (found : Slice × M) : Type 0 where
  pub run : List Kept
  pub first : first_from slices low ≡ Some run
  pub before : first_time run < high
  pub shows : found ≡ (slice_of run, of_values (values_of run))

-- none begins between two times
abbrev pub IsNoneWithin : List (List Kept) → ℕ → ℕ → Type 0
IsNoneWithin slices low high = IfSome (first_from slices low) (λ run. high ≤ first_time run)

-- only room differs
pub record IsAsBefore (old new : Stored) : Type 0 where
  pub slices : new.slices ≡ old.slices
  pub marks : new.marks ≡ old.marks
  pub dropped : new.dropped ≡ old.dropped
  pub reach : new.reach ≡ old.reach
