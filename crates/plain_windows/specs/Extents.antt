-- An instance told by its extent, and what a key's plain lists keep.
use Rattle.std.specs.Prelude.{◌≡◌, ◌≤◌, ◌+◌, ℕ, List, Option, IfSome, length, take, drop, All}
use Rattle.std.specs.Option.{option_map}
use Rattle.std.specs.List.Sorted.{IsStrictlyIncreasing}
use Rattle.stream_base.specs.declared.kept.Kept.{Kept}
use Rattle.stream_base.specs.declared.limits.TheConstants.{TIME_MAX}
use Rattle.stream_base.specs.Laws.{AreInEventOrder}
use Rattle.stream_base.specs.Model.Windows.{Instance}
use Rattle.plain_windows.specs.declared.extent.Extent.{Extent}

-- the instance of an extent: its tuples stand one behind another among those that are kept
abbrev pub instance_in : List Kept → Extent → Instance
instance_in kept e = record { low = e.low; high = e.high; bound = e.bound; chosen = take e.count (drop e.first kept) }

-- the places of its tuples are places of the list
abbrev pub IsExtentIn : List Kept → Extent → Type 0
IsExtentIn kept e = e.first + e.count ≤ length kept

-- an extent tells an instance by places of the list, and none tells that there is none
pub record Tells (kept : List Kept) (answer : Option Extent) (instance : Option Instance) : Type 0 where
  pub found : option_map (instance_in kept) answer ≡ instance
  pub inside : IfSome answer (IsExtentIn kept)

-- what is kept of a key, in event order, and its marks, rising, all within the limits
pub record AreKeyLists (kept : List Kept) (marks : List ℕ) : Type 0 where
  pub in_order : AreInEventOrder kept
  pub times : All (λ x. x.time ≤ TIME_MAX) kept
  pub few : length kept ≤ TIME_MAX
  pub rising : IsStrictlyIncreasing marks
  pub mark_times : All (λ m. m ≤ TIME_MAX) marks
