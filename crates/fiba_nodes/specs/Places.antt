-- Places in a list, by a test of keys that holds up to there.
use Rattle.std.specs.Prelude.{◌≡◌, ◌<◌, ◌≤◌, ◌+◌, ◌*◌, ◌++◌, ℕ, Bool, true, false, not, List, [], ◌∷◌, Some, fold, length, nat_lt, slice_get}
use Rattle.agg_laws.specs.Pairs.{values_of}
use Rattle.fiba_nodes.specs.declared.bound.Bound.{Bound}
use Rattle.fiba_nodes.specs.declared.bound.Bound.TheVariants.{Start, Key, End}
use Rattle.fiba_nodes.specs.declared.slot.Slot.{Slot}
use Rattle.fiba_nodes.specs.Trees.{pair_of}
use Rattle.fiba_nodes.specs.Kids.{before, kid_of}

-- the last pair, if there is one, passes
abbrev pub EndsIn : {M : Type 0} → (ℕ → Bool) → List (ℕ × M) → Type 0
EndsIn test [] = Unit {0}
EndsIn test (p ∷ []) = test p.0 ≡ true
EndsIn test (p ∷ q ∷ ps) = EndsIn test (q ∷ ps)

-- the first pair, if there is one, passes
abbrev pub BeginsIn : {M : Type 0} → (ℕ → Bool) → List (ℕ × M) → Type 0
BeginsIn test [] = Unit {0}
BeginsIn test (p ∷ ps) = test p.0 ≡ true

-- so many of the slots pass, and the next one doesn't
pub record IsPlace {M : Type 0} (test : ℕ → Bool) (slots : List (Slot M)) (i : ℕ) : Type 0 where
  pub within : i ≤ length slots
  pub low : (j : ℕ) (s : Slot M) → j < i → slice_get slots j ≡ Some s → test s.item.key ≡ true
  pub high : (s : Slot M) → slice_get slots i ≡ Some s → test s.item.key ≡ false

-- a key lies before a bound
abbrev pub is_under : Bound → ℕ → Bool
is_under Start key = false
is_under (Key at) key = nat_lt key at
is_under End key = true

-- a key lies at a bound or behind it
abbrev pub is_over : Bound → ℕ → Bool
is_over bound key = not (is_under bound key)

-- what the low bound of a range costs in a tree of this height, and the high one: the way down to it
abbrev pub way_low : Bound → ℕ → ℕ
way_low Start h = 0
way_low (Key at) h = 6 * h
way_low End h = 6 * h

abbrev pub way_high : Bound → ℕ → ℕ
way_high Start h = 6 * h
way_high (Key at) h = 6 * h
way_high End h = 0

-- the pairs between two bounds were combined after a sum, one step each at most
pub record IsFolded {M : Type 0} (op : M → M → M) (low high : Bound) (pairs : List (ℕ × M)) (sum result : M) (steps after : ℕ) : Type 0 where
  pub front : List (ℕ × M)
  pub middle : List (ℕ × M)
  pub back : List (ℕ × M)
  pub was : pairs ≡ front ++ middle ++ back
  pub before_low : EndsIn (is_under low) front
  pub from_low : BeginsIn (is_over low) middle
  pub before_high : EndsIn (is_under high) middle
  pub from_high : BeginsIn (is_over high) back
  pub value : result ≡ fold op sum (values_of middle)
  pub one_each : after ≤ steps + length middle

-- the items from a place to another, and the children between them, were combined after a sum
pub record IsStrung {M : Type 0} (op : M → M → M) (pairs : ℕ → List (ℕ × M)) (slots : List (Slot M)) (last i j : ℕ) (sum result : M) (steps after : ℕ) : Type 0 where
  pub string : List (ℕ × M)
  pub is : before pairs slots j ≡ before pairs slots i ++ pairs (kid_of slots last i) ++ string
  pub first : (s : Slot M) → slice_get slots i ≡ Some s → (rest : List (ℕ × M)) × (string ≡ pair_of s.item ∷ rest)
  pub value : result ≡ fold op sum (values_of string)
  pub one_each : after ≤ steps + length string

-- all keys lie between two bounds
abbrev pub is_all : Bound → Bound → Bool
is_all Start End = true
is_all Start Start = false
is_all Start (Key at) = false
is_all (Key at) high = false
is_all End high = false

-- what lies before the low bound lies before the high one
abbrev pub AreOrdered : Bound → Bound → Type 0
AreOrdered low high = (key : ℕ) → is_under low key ≡ true → is_under high key ≡ true
