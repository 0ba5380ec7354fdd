-- What tuples come to where there may be none, and how they show.
use Rattle.std.specs.Prelude.{◌≡◌, ◌+◌, ℕ, List, [], ◌∷◌, Option, None, Some, All, FitsSigned, IfSome}
use Rattle.std.specs.Int.{w64}
use Rattle.stream_base.specs.declared.kept.Kept.{Kept}
use Rattle.aggregates.specs.Bundled.{Bundled, bundle_of, bundles_combined}
use Rattle.slice_lists.specs.declared.slice.Slice.{Slice}
use Rattle.slice_lists.specs.Slices.{slice_of, values_of}

-- what tuples come to, if there are any
abbrev pub sum_of : List Kept → Option Bundled
sum_of [] = None
sum_of (x ∷ xs) = Some (bundle_of (values_of (x ∷ xs)))

-- two such sums, one behind the other
abbrev pub sums_joined : Option Bundled → Option Bundled → Option Bundled
sums_joined None right = right
sums_joined (Some left) None = Some left
sums_joined (Some left) (Some right) = Some (bundles_combined left right)

-- a sum is that of these tuples, whose values are numbers of 64 bits
pub record IsSum (sum : Option Bundled) (tuples : List Kept) : Type 0 where
  pub value : sum ≡ sum_of tuples
  pub fit : All (λ x. FitsSigned w64 x.value) tuples

-- a sum that is kept is that of these tuples
abbrev pub IsKeptSum : Option Bundled → List Kept → Type 0
IsKeptSum sum tuples = IfSome sum (λ b. IsSum (Some b) tuples)

-- how tuples show, if there are any
abbrev pub shown_of : List Kept → Option Slice
shown_of [] = None
shown_of (x ∷ xs) = Some (slice_of (x ∷ xs))

-- how two rows of tuples show, one behind the other
abbrev pub shown_joined : Option Slice → Option Slice → Option Slice
shown_joined None right = right
shown_joined (Some left) None = Some left
shown_joined (Some left) (Some right) = Some (record { low = left.low; high = right.high; number = left.number + right.number })

-- how many tuples show
abbrev pub number_in : Option Slice → ℕ
number_in None = 0
number_in (Some s) = s.number
