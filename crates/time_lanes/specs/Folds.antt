-- The folds of overlapping intervals.
use Rattle.std.specs.Prelude.{◌≡◌, ◌≤◌, ◌<◌, ◌+◌, ◌-◌, ◌*◌, ◌^◌, ℕ, ℤ, List, length, slice_index_or}
use Rattle.stream_base.specs.declared.former.Former.{Former}
use Rattle.stream_base.specs.declared.func.Func.{Func}
use Rattle.stream_base.specs.declared.kept.Kept.{Kept}
use Rattle.stream_base.specs.Laws.{TimesDoNotFall}
use Rattle.stream_base.specs.Model.Changes.{former_of}
use Rattle.stream_base.specs.Model.Windows.{Instance, interval, within}
use Rattle.slice_lists.specs.Runs.{IsAligned, runs_within}
use Rattle.slice_lists.specs.Slices.{values_of}
use Rattle.agg_store.specs.Stored.{Stored, tuples_of}
use Rattle.time_lanes.specs.declared.late.Complete.{Complete}
use Rattle.time_lanes.specs.declared.span.Span.{Span}

-- the slices that begin in some intervals in a row, from the start of the first one up to the end of the last
abbrev pub slices_under : Span → List (List Kept) → Complete → List (List Kept)
slices_under span slices complete =
    runs_within (complete.first * span.slide)
    ((complete.first + (complete.count - 1)) * span.slide + span.length)
    slices

-- the intervals are at most 64, the last one starts by the end of the first, and at most 32 slices for each begin in them
pub record AreClose (span : Span) (slices : List (List Kept)) (complete : Complete) : Type 0 where
  pub at_most : complete.count ≤ 64
  pub overlap : (complete.first + (complete.count - 1)) * span.slide ≤ complete.first * span.slide + span.length
  pub few : length (slices_under span slices complete) ≤ 32 * complete.count

-- there are several such intervals
pub record MayShare (span : Span) (slices : List (List Kept)) (complete : Complete) : Type 0 where
  pub several : 2 ≤ complete.count
  pub close : AreClose span slices complete

-- at most one step was made for each slice of some intervals, and four for each interval
abbrev pub TakesShared : Span → List (List Kept) → Complete → ℕ → ℕ → Type 0
TakesShared span slices complete steps later =
    later ≤ steps + length (slices_under span slices complete) + 4 * complete.count

-- so where the intervals are close
abbrev pub IsShared : Span → List (List Kept) → Complete → ℕ → ℕ → Type 0
IsShared span slices complete steps later =
    AreClose span slices complete → TakesShared span slices complete steps later

-- where there is one interval at most, at most one step was made for each of its slices
abbrev pub TakesAlone : Span → List (List Kept) → Complete → ℕ → ℕ → Type 0
TakesAlone span slices complete steps later =
    complete.count ≤ 1 → later ≤ steps + length (slices_under span slices complete) * complete.count

-- the fold of the tuples from one time up to another
abbrev pub fold_between : {M : Type 0} → (List ℤ → M) → Stored → ℕ → ℕ → M
fold_between of_values s low high = of_values (values_of (within low high (tuples_of s)))

-- what is folded from a time up to the end of the first interval, where so many of them start by that time
pub record IsHead {M : Type 0} (of_values : List ℤ → M) (span : Span) (s : Stored) (complete : Complete) (count low : ℕ) (head : M) : Type 0 where
  pub within : count ≤ complete.count
  pub aligned : TimesDoNotFall (tuples_of s) → IsAligned s.slices low
  pub starts : (k : ℕ) → k < count → (complete.first + k) * span.slide ≤ low
  pub least : complete.first * span.slide ≤ low
  pub most : low ≤ complete.first * span.slide + span.length
  pub folded : head ≡ fold_between of_values s low (complete.first * span.slide + span.length)

-- what is folded from the end of the first interval up to the end of the last of so many
abbrev pub fold_behind : {M : Type 0} → (List ℤ → M) → Span → Stored → Complete → ℕ → M
fold_behind of_values span s complete count =
    fold_between of_values s (complete.first * span.slide + span.length)
    ((complete.first + (count - 1)) * span.slide + span.length)

-- at most one step was made for each slice from the first start up to a time, and from the end of the first interval up to the end of the last of so many, and three for each of these
abbrev pub TakesFirst : Span → List (List Kept) → Complete → ℕ → ℕ → ℕ → ℕ → Type 0
TakesFirst span slices complete count low steps later =
    later ≤ steps + length (runs_within (complete.first * span.slide) low slices)
    + length (runs_within (complete.first * span.slide + span.length) ((complete.first + (count - 1)) * span.slide + span.length) slices)
    + 3 * count

-- of each interval whose fold is this
abbrev pub WhereFolded : {M : Type 0} → (List ℤ → M) → M → (Instance → Type 0) → Type 0
WhereFolded of_values partial Holds =
    (kept : List Kept) (low high : ℕ) → partial ≡ of_values (values_of (within low high kept))
    → length kept < 2 ^ 64 → Holds (interval low high kept)

-- what each of the first intervals shows stands at its place
abbrev pub AreShown : Func → Span → Stored → Complete → ℕ → List Former → Type 0
AreShown func span s complete count shown =
    (k : ℕ) → k < count → (d : Former) → slice_index_or shown k d
    ≡ former_of func
    (interval ((complete.first + k) * span.slide) ((complete.first + k) * span.slide + span.length) (tuples_of s))
