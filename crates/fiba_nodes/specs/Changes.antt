-- What happens to a tree, as to a list of pairs.
use Rattle.std.specs.Prelude.{◌≡◌, ◌≤◌, ◌+◌, ◌-◌, ◌++◌, ◌==◌, ℕ, suc, Bool, true, false, List, [], ◌∷◌, Option, None, Some, IsSome, length, map, nat_lt, slice_get}
use Rattle.fiba_nodes.specs.declared.item.Item.{Item}
use Rattle.fiba_nodes.specs.declared.slot.Slot.{Slot}
use Rattle.fiba_nodes.specs.declared.change.Change.{Change}
use Rattle.fiba_nodes.specs.declared.change.Change.TheVariants.{Insert, Set, Remove, First}
use Rattle.fiba_nodes.specs.Stores.{Store, look}
use Rattle.fiba_nodes.specs.Places.{BeginsIn, EndsIn, IsPlace}
use Rattle.fiba_nodes.specs.Trees.{IsAt, IsLinked, IsOpened, Moves, Owned, only, pair_of, pairs_at, plain, row_size, row_times, size, times, woven}

-- the item that comes in
abbrev pub item_of : {M : Type 0} → Change M → Option (Item M)
item_of (Insert item) = Some item
item_of (Set item) = Some item
item_of (Remove at) = None
item_of First = None

-- an item with this key stands before the place of the change
abbrev pub stands_before : {M : Type 0} → Change M → ℕ → Bool
stands_before (Insert item) key = nat_lt key item.key
stands_before (Set item) key = nat_lt key item.key
stands_before (Remove at) key = nat_lt key at
stands_before First key = false

-- an item with this key stands behind the place of the change
abbrev pub stands_behind : {M : Type 0} → Change M → ℕ → Bool
stands_behind (Insert item) key = nat_lt item.key key
stands_behind (Set item) key = nat_lt item.key key
stands_behind (Remove at) key = nat_lt at key
stands_behind First key = true

-- the item with this key is the one that the change is about
abbrev pub meets : {M : Type 0} → Change M → ℕ → Bool
meets (Insert item) key = key == item.key
meets (Set item) key = key == item.key
meets (Remove at) key = key == at
meets First key = true

-- the item that comes in where none goes out
abbrev pub added_of : {M : Type 0} → Change M → Option (Item M)
added_of (Insert item) = Some item
added_of (Set item) = None
added_of (Remove at) = None
added_of First = None

-- the pair of an item, if there is one
abbrev pub pairs_of : {M : Type 0} → Option (Item M) → List (ℕ × M)
pairs_of None = []
pairs_of (Some item) = pair_of item ∷ []

-- the item that comes in, by what went out
abbrev pub incoming : {M : Type 0} → Change M → Option (Item M) → Option (Item M)
incoming change None = added_of change
incoming change (Some old) = item_of change

-- by how many pairs a tree can grow
abbrev pub growth : {M : Type 0} → Change M → ℕ
growth (Insert item) = 1
growth (Set item) = 0
growth (Remove at) = 0
growth First = 0

-- the last pair, if there is one, stands before the place of the change
abbrev pub EndsBefore : {M : Type 0} → Change M → List (ℕ × M) → Type 0
EndsBefore change pairs = EndsIn (stands_before change) pairs

-- the first pair, if there is one, stands behind the place of the change
abbrev pub BeginsBehind : {M : Type 0} → Change M → List (ℕ × M) → Type 0
BeginsBehind change pairs = BeginsIn (stands_behind change) pairs

-- where the first item is to go, it went
abbrev pub GoesFirst : {M : Type 0} → Change M → Option (Item M) → List (ℕ × M) → Type 0
GoesFirst (Insert item) taken front = Unit {0}
GoesFirst (Set item) taken front = Unit {0}
GoesFirst (Remove at) taken front = Unit {0}
GoesFirst First taken front = IsSome taken × (front ≡ [])

-- the pairs that go out stand between a front and a back, and those that come in stand there then; where none goes out, there was none that the change is about
pub record Applies {M : Type 0} (change : Change M) (taken : Option (Item M)) (old new : List (ℕ × M)) : Type 0 where
  pub front : List (ℕ × M)
  pub back : List (ℕ × M)
  pub was : old ≡ front ++ pairs_of taken ++ back
  pub is : new ≡ front ++ pairs_of (incoming change taken) ++ back
  pub met : (item : Item M) → taken ≡ Some item → meets change item.key ≡ true
  pub gap : taken ≡ None → EndsBefore change front × BeginsBehind change back
  pub first : GoesFirst change taken front

-- the item that comes in, if there is one, has a value
abbrev pub CarriesValue : {M : Type 0} → (M → Type 0) → Change M → Type 0
CarriesValue IsValue (Insert item) = IsValue item.value
CarriesValue IsValue (Set item) = IsValue item.value
CarriesValue IsValue (Remove at) = Unit {0}
CarriesValue IsValue First = Unit {0}

-- a change can be made to the tree at a number
pub record CanApply {M : Type 0} (IsValue : M → Type 0) (empty : M) (op : M → M → M) (store : Store M) (at b : ℕ) (left right : Bool) (change : Change M) : Type 0 where
  pub sound : IsAt IsValue empty op (plain store) (suc b) left right at
  pub owned : Owned (look store) (λ k. times k (plain store) (suc b) at)
  pub linked : IsLinked store (suc b) at
  pub room : length (pairs_at (plain store) (suc b) at) + growth change ≤ store.spare + size (plain store) (suc b) at
  pub value : CarriesValue IsValue change

-- a change was made to the tree at a number, whose root is opened now
pub record IsApplied {M : Type 0} (IsValue : M → Type 0) (empty : M) (op : M → M → M) (old new : Store M) (at b : ℕ) (left right : Bool) (change : Change M) (taken : Option (Item M)) (slots : List (Slot M)) (last : ℕ) : Type 0 where
  pub few : length slots ≤ 3 + growth change
  pub opened : IsOpened IsValue empty op new at b left right slots last
  pub applies : Applies change taken (pairs_at (plain old) (suc b) at) (woven (pairs_at (plain new) b) slots last)
  pub stays : look new at ≡ look old at
  pub moves : Moves (look old) (look new) (λ k. times k (plain old) (suc b) at) (λ k. only k at + row_times k (plain new) b slots last)
  pub room : new.spare + (1 + row_size (plain new) b slots last) ≡ old.spare + size (plain old) (suc b) at

-- so many of the slots stand before the place of the change, and the next one doesn't
abbrev pub IsRank : {M : Type 0} → Change M → List (Slot M) → ℕ → Type 0
IsRank change slots i = IsPlace (stands_before change) slots i

-- the item stands at a place
pub record IsItemAt {M : Type 0} (slots : List (Slot M)) (at : ℕ) (item : Item M) : Type 0 where
  pub slot : Slot M
  pub stands : slice_get slots at ≡ Some slot
  pub same : slot.item ≡ item

-- the change isn't about the item at a place
abbrev pub IsUnmet : {M : Type 0} → Change M → List (Slot M) → ℕ → Type 0
IsUnmet {M} change slots at = (s : Slot M) → slice_get slots at ≡ Some s → meets change s.item.key ≡ false

-- the pairs of slots
abbrev pub leaf_pairs : {M : Type 0} → List (Slot M) → List (ℕ × M)
leaf_pairs slots = map (λ s. pair_of s.item) slots

-- the slot of an item in a leaf
abbrev pub leaf_slots : {M : Type 0} → Option (Item M) → List (Slot M)
leaf_slots None = []
leaf_slots (Some item) = record { kid = 0; item = item } ∷ []

-- whether the first item is to go
abbrev pub is_first : {M : Type 0} → Change M → Bool
is_first (Insert item) = false
is_first (Set item) = false
is_first (Remove at) = false
is_first First = true

-- the item at a place stands behind the place of the change, if it doesn't stand before it
abbrev pub IsPassed : {M : Type 0} → Change M → List (Slot M) → ℕ → Type 0
IsPassed {M} change slots at = (s : Slot M) → slice_get slots at ≡ Some s → stands_before change s.item.key ≡ false → stands_behind change s.item.key ≡ true

-- whether an item comes in the place of another, and else nothing happens
abbrev pub is_set : {M : Type 0} → Change M → Bool
is_set (Insert item) = false
is_set (Set item) = true
is_set (Remove at) = false
is_set First = false

-- what a change did to the number of full nodes, where the node that is open now had `held` items and has `count`: each node that was split was full, so an insertion leaves one more at most, and none where the open node grew; a change that takes an item out leaves no more, and one that sets an item leaves as many
pub record IsPaid {M : Type 0} (change : Change M) (full left spare rest held count : ℕ) : Type 0 where
  pub longer : count ≤ held + growth change
  pub grows : 1 ≤ growth change → left + spare + (count - held) ≤ full + 1 + rest
  pub shrinks : growth change ≡ 0 → left ≤ full
  pub kept : is_set change ≡ true → (left ≡ full) × (count ≡ held)
