-- Which key lies at which place.
use Rattle.std.specs.Prelude.{◌≡◌, ◌<◌, ℕ, List, Option, Some, length, nat_le, slice_index, slice_index_or, if◌then◌else◌}
use Rattle.std.specs.BTreeMap.{is_at}
use Rattle.std.specs.Cmp.Lexicographic.{slice_cmp}
use Rattle.std.specs.List.{filter}
use Rattle.std.specs.List.Sorted.{IsStrictlySortedBy}
use Rattle.std.specs.Map.{keys_of, lookup, values_of}
use Rattle.std.specs.Ordering.{nat_cmp}

-- the place of a key among keys with their places, if it has one
abbrev pub place_in : List (List ℕ × ℕ) → List ℕ → Option ℕ
place_in entries key = lookup (is_at (slice_cmp nat_cmp key)) entries

-- the keys stand by their bytes, each once
abbrev pub AreByKey : List (List ℕ × ℕ) → Type 0
AreByKey entries = IsStrictlySortedBy (slice_cmp nat_cmp) (keys_of entries)

-- a key has come with its place, and all others lie where they did
abbrev pub IsPlaceAdded : List ℕ → ℕ → List (List ℕ × ℕ) → List (List ℕ × ℕ) → Type 0
IsPlaceAdded key place old new = (other : List ℕ) → place_in new other ≡ (if is_at (slice_cmp nat_cmp key) other then Some place else place_in old other)

-- the keys with their places whose due numbers a watermark reaches
abbrev pub keys_reached : List ℕ → ℕ → List (List ℕ × ℕ) → List (List ℕ × ℕ)
keys_reached numbers water entries = filter (λ e. nat_le (slice_index numbers e.1) water) entries

-- and their places alone
abbrev pub places_reached : List ℕ → ℕ → List (List ℕ × ℕ) → List ℕ
places_reached numbers water entries = filter (λ p. nat_le (slice_index numbers p) water) (values_of entries)

-- each key of the list has its number there as its place, and no other key has one
pub record ArePlaced (entries : List (List ℕ × ℕ)) (keys : List (List ℕ)) : Type 0 where
  pub by_key : AreByKey entries
  pub as_many : length keys ≡ length entries
  pub found : (p : ℕ) (x : List ℕ) → p < length keys → place_in entries (slice_index_or keys p x) ≡ Some p
  pub within : (key : List ℕ) (p : ℕ) → place_in entries key ≡ Some p → p < length keys
  pub own : (key : List ℕ) (p : ℕ) → place_in entries key ≡ Some p → slice_index_or keys p key ≡ key
