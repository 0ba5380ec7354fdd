-- Lists of pairs of a key and a value, with rising keys.
use Rattle.std.specs.Prelude.{◌≡◌, ◌<◌, length, ◌==◌, ◌&&◌, ◌++◌, ℕ, Bool, not, List, ◌∷◌, Option, map, filter, find, nat_lt, nat_le, slice_get, if◌then◌else◌, AllPairs}
use Rattle.std.specs.List.{list_any, HoldsAt}
use Rattle.std.specs.Option.{option_map}

-- each key is below each later one
abbrev pub AreRising : {M : Type 0} → List (ℕ × M) → Type 0
AreRising pairs = AllPairs (λ p q. p.0 < q.0) pairs

-- some pair has the key
abbrev pub has_key : {M : Type 0} → ℕ → List (ℕ × M) → Bool
has_key key pairs = list_any (λ p. p.0 == key) pairs

-- the pairs with a key below this one
abbrev pub pairs_below : {M : Type 0} → ℕ → List (ℕ × M) → List (ℕ × M)
pairs_below key pairs = filter (λ p. nat_lt p.0 key) pairs

-- the pairs from this key on
abbrev pub pairs_from : {M : Type 0} → ℕ → List (ℕ × M) → List (ℕ × M)
pairs_from key pairs = filter (λ p. nat_le key p.0) pairs

-- the pairs with low <= key < high
abbrev pub within : {M : Type 0} → ℕ → ℕ → List (ℕ × M) → List (ℕ × M)
within low high pairs = filter (λ p. nat_le low p.0 && nat_lt p.0 high) pairs

-- the pairs with one more, in the order of keys
abbrev pub inserted : {M : Type 0} → ℕ → M → List (ℕ × M) → List (ℕ × M)
inserted key value pairs = pairs_below key pairs ++ (key, value) ∷ pairs_from key pairs

-- the pairs with another value under the key
abbrev pub replaced : {M : Type 0} → ℕ → M → List (ℕ × M) → List (ℕ × M)
replaced key value pairs = map (λ p. if p.0 == key then (key, value) else p) pairs

-- the pairs without the one that has the key
abbrev pub without : {M : Type 0} → ℕ → List (ℕ × M) → List (ℕ × M)
without key pairs = filter (λ p. not (p.0 == key)) pairs

-- the value under the key, if there is one
abbrev pub value_at : {M : Type 0} → ℕ → List (ℕ × M) → Option M
value_at key pairs = option_map (λ p. p.1) (find (λ p. p.0 == key) pairs)

-- the least key, if there is one
abbrev pub least_key : {M : Type 0} → List (ℕ × M) → Option ℕ
least_key pairs = option_map (λ p. p.0) (slice_get pairs 0)

-- the values, in the order of keys
abbrev pub values_of : {M : Type 0} → List (ℕ × M) → List M
values_of pairs = map (λ p. p.1) pairs

-- how many pairs have a greater key
abbrev pub distance : {M : Type 0} → ℕ → List (ℕ × M) → ℕ
distance key pairs = length (filter (λ p. nat_lt key p.0) pairs)

-- the pair with the key stands at this place
pub record StandsAt {M : Type 0} (wanted at : ℕ) (pairs : List (ℕ × M)) : Type 0 where
  pub within : at < length pairs
  pub key : HoldsAt (λ p. p.0 ≡ wanted) pairs at
