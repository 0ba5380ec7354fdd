-- What a tuple or mark takes in a shard whose keys keep their tuples in slices, by the changes that it makes and the slices of its key.
use Rattle.std.specs.Prelude.{◌≡◌, ◌≤◌, ◌+◌, ◌*◌, ◌^◌, ◌++◌, ℕ, ℤ, false, true, All, List, [], ◌∷◌, filter, length, map, sum_by}
use Rattle.std.specs.Cmp.Lexicographic.{slice_cmp}
use Rattle.std.specs.List.Sorted.{IsStrictlySortedBy}
use Rattle.std.specs.Ordering.{nat_cmp}
use Rattle.stream_base.specs.declared.entry.Entry.{Entry}
use Rattle.stream_base.specs.declared.kept.Kept.{Kept}
use Rattle.stream_base.specs.declared.what.What.TheVariants.{Tuple, Mark}
use Rattle.stream_base.specs.Model.Changes.{changes_after, moment_of}
use Rattle.stream_base.specs.Model.Cuts.{has_cut}
use Rattle.stream_base.specs.Model.What.{is_progress}
use Rattle.slice_lists.specs.Touched.{is_across, is_near}
use Rattle.slice_lists.specs.Slices.{joined}
use Rattle.key_slicer.specs.Work.{counting_work, move_over, slices_gone}
use Rattle.shard_core.specs.Shard.{Sharded, sharded_with, slices_after}
use Rattle.shard_core.specs.Work.{IsDueWith, comes_late}

-- the slices of what isn't settled of a key of a shard
abbrev pub slices_in : Sharded → List ℕ → List (List Kept)
slices_in s key = slices_after s.defs s.sources s.journal key

-- how many changes an entry that comes now causes
abbrev pub count_after : Sharded → Entry → ℕ
count_after s e = length (changes_after s.defs s.sources s.journal e)

-- how many tuples lie in the slices of a key that a tuple at a time enters
abbrev pub tuples_near : Sharded → List ℕ → ℕ → ℕ
tuples_near s key time =
    length (joined (filter (is_near (has_cut s.defs.windows (moment_of s.defs s.sources key s.journal).marks) time) (slices_in s key)))

-- and in those that a mark at a time splits
abbrev pub tuples_across : Sharded → List ℕ → ℕ → ℕ
tuples_across s key time = length (joined (filter (is_across time) (slices_in s key)))

-- the steps of an entry for the windows of its key that count events: twice the count for each change of theirs
abbrev pub steps_of_counts : Sharded → Entry → List ℕ → ℕ
steps_of_counts s e key = counting_work s.defs key (moment_of s.defs s.sources key s.journal) (moment_of s.defs s.sources key (s.journal ++ e ∷ []))

-- a height of a tree over the slices of a key: 2 to this power is at most one more than they are
abbrev pub IsHeightOver : Sharded → List ℕ → ℕ → Type 0
IsHeightOver s key height = 2 ^ height ≤ length (slices_in s key) + 1

-- what four folds of a tree of this height take, and two more for each change that an entry causes
abbrev pub folds_of : Sharded → Entry → ℕ → ℕ
folds_of s e height = 64 * (height + 3) * (4 + 2 * count_after s e)

-- a tuple that isn't late takes no more than those folds, one step for each tuple of the slices that it enters, and those of the windows that count events
abbrev pub IsTupleWithinFolds : Sharded → Entry → ℕ → ℕ → Type 0
IsTupleWithinFolds s e old new =
    (key : List ℕ) (time : ℕ) (value : ℤ) → e.what ≡ Tuple key time value → comes_late s e ≡ false
    → (height : ℕ) × IsHeightOver s key height × (new ≤ old + (folds_of s e height + tuples_near s key time + steps_of_counts s e key))

-- a mark that isn't late takes no more than those folds, one step for each tuple of the slices that it splits, those of the windows that count events, and one fold for each slice that leaves
abbrev pub IsMarkWithinFolds : Sharded → Entry → ℕ → ℕ → Type 0
IsMarkWithinFolds s e old new =
    (key : List ℕ) (time : ℕ) → e.what ≡ Mark key time → comes_late s e ≡ false
    → (height : ℕ) × IsHeightOver s key height
    × (new ≤ old + (folds_of s e height + tuples_across s key time + steps_of_counts s e key
    + 64 * (height + 3) * slices_gone time (slices_in s key) (slices_in (sharded_with s e) key)))

-- the most that a word on progress takes for a key that has something due, over a tree of this height: what its windows take for each slice and each row, and one fold for each slice that leaves
abbrev pub steps_of_move : Sharded → Entry → List ℕ → ℕ → ℕ
steps_of_move s e key height =
    move_over s.defs key (moment_of s.defs s.sources key s.journal) (moment_of s.defs s.sources key (s.journal ++ e ∷ [])) (slices_in s key) (slices_in (sharded_with s e) key) height

-- of a key something is due with an entry, and this is a height of a tree over its slices
pub record IsDueOver (s : Sharded) (e : Entry) (key : List ℕ) (height : ℕ) : Type 0 where
  pub is_due : IsDueWith s e key
  pub is_height : IsHeightOver s key height

-- the steps rise by no more than the sum of that over keys of which something is due, each once and with a height
pub record IsMoveWithinFolds (s : Sharded) (e : Entry) (old new : ℕ) : Type 0 where
  pub due : List (List ℕ × ℕ)
  pub each_once : IsStrictlySortedBy (slice_cmp nat_cmp) (map (λ k. k.0) due)
  pub each_due : All (λ k. IsDueOver s e k.0 k.1) due
  pub within : new ≤ old + sum_by (λ k. steps_of_move s e k.0 k.1) due

-- so they do at a word on the progress of a source
abbrev pub IsProgressWithinFolds : Sharded → Entry → ℕ → ℕ → Type 0
IsProgressWithinFolds s e old new = is_progress e.what ≡ true → IsMoveWithinFolds s e old new
