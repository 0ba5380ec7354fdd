-- A walk over the instances of a window that stand, by their starts.
use Rattle.std.specs.Prelude.{◌≡◌, ◌≤◌, ◌+◌, ◌&&◌, ℕ, Bool, List, [], ◌∷◌, Option, None, Some, filter, nat_le}
use Rattle.stream_base.specs.declared.kept.Kept.{Kept}
use Rattle.stream_base.specs.declared.kind.Kind.{Kind}
use Rattle.stream_base.specs.declared.limits.TheConstants.{TIME_MAX}
use Rattle.stream_base.specs.Model.Windows.{Instance, instances_of, is_complete}
use Rattle.plain_windows.specs.declared.extent.Extent.{Extent}
use Rattle.plain_windows.specs.Extents.{IsExtentIn, instance_in}

-- it starts at or after a place, and is complete under a watermark
abbrev pub is_left : ℕ → ℕ → Instance → Bool
is_left from water i = nat_le from i.low && is_complete water i

-- the instances that a walk has yet to meet: those that start at or after a place and are complete
abbrev pub left_of : Kind → List Kept → List ℕ → ℕ → ℕ → List Instance
left_of kind kept marks from water = filter (is_left from water) (instances_of kind kept marks)

-- the extent is that of the first instance that is left, and the others start behind it
pub record IsNext (kind : Kind) (kept : List Kept) (marks : List ℕ) (from water : ℕ) (e : Extent) : Type 0 where
  pub inside : IsExtentIn kept e
  pub first : left_of kind kept marks from water ≡ instance_in kept e ∷ left_of kind kept marks (e.low + 1) water
  pub onward : from ≤ e.low
  pub low : e.low ≤ TIME_MAX

-- the first instance that is left, or none where none is left
abbrev pub IsFirstLeft : Kind → List Kept → List ℕ → ℕ → ℕ → Option Extent → Type 0
IsFirstLeft kind kept marks from water None = left_of kind kept marks from water ≡ []
IsFirstLeft kind kept marks from water (Some e) = IsNext kind kept marks from water e
