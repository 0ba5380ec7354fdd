-- A whole tree, by its root.
use Rattle.std.specs.Prelude.{◌≡◌, ◌≤◌, ◌<◌, ◌+◌, ◌-◌, ◌^◌, ℕ, suc, Bool, List, Option, length}
use Rattle.fiba_nodes.specs.declared.item.Item.{Item}
use Rattle.fiba_nodes.specs.declared.slot.Slot.{Slot}
use Rattle.fiba_nodes.specs.declared.root.Root.{Root}
use Rattle.fiba_nodes.specs.declared.change.Change.{Change}
use Rattle.fiba_nodes.specs.Stores.{Store, look}
use Rattle.fiba_nodes.specs.Trees.{AreValues, IsAt, IsLinked, Owned, pairs_at, plain, row_size, size, times, woven}
use Rattle.fiba_nodes.specs.Changes.{Applies, CarriesValue, growth, leaf_slots, pairs_of}

-- a sound tree whose numbers are its own, and whose nodes know their parents
pub record IsTree {M : Type 0} (IsValue : M → Type 0) (empty : M) (op : M → M → M) (store : Store M) (root : Root) (left right : Bool) : Type 0 where
  pub sound : IsAt IsValue empty op (plain store) root.height left right root.at
  pub owned : Owned (look store) (λ k. times k (plain store) root.height root.at)
  pub linked : IsLinked store root.height root.at

-- an opened root became the root of a tree
pub record IsPlanted {M : Type 0} (IsValue : M → Type 0) (empty : M) (op : M → M → M) (old new : Store M) (at b : ℕ) (left right : Bool) (slots : List (Slot M)) (last : ℕ) (root : Root) : Type 0 where
  pub tree : IsTree IsValue empty op new root left right
  pub pairs : pairs_at (plain new) root.height root.at ≡ woven (pairs_at (plain old) b) slots last
  pub room : new.spare + size (plain new) root.height root.at ≡ old.spare + (1 + row_size (plain old) b slots last)
  pub higher : root.height ≤ suc b + (length slots - 3)

-- a change can be made to a tree: there is room for it, in nodes and in height
pub record CanChange {M : Type 0} (IsValue : M → Type 0) (empty : M) (op : M → M → M) (store : Store M) (root : Root) (left right : Bool) (change : Change M) : Type 0 where
  pub tree : IsTree IsValue empty op store root left right
  pub room : length (pairs_at (plain store) root.height root.at) + growth change ≤ store.spare + size (plain store) root.height root.at
  pub levels : root.height + 1 < 2 ^ 32
  pub value : CarriesValue IsValue change

-- a change was made to a tree
pub record IsChanged {M : Type 0} (IsValue : M → Type 0) (empty : M) (op : M → M → M) (old new : Store M) (root grown : Root) (left right : Bool) (change : Change M) (taken : Option (Item M)) : Type 0 where
  pub tree : IsTree IsValue empty op new grown left right
  pub applies : Applies change taken (pairs_at (plain old) root.height root.at) (pairs_at (plain new) grown.height grown.at)
  pub room : new.spare + size (plain new) grown.height grown.at ≡ old.spare + size (plain old) root.height root.at
  pub higher : grown.height ≤ root.height + growth change

-- an empty tree can take an item
pub record CanSprout {M : Type 0} (IsValue : M → Type 0) (empty : M) (op : M → M → M) (store : Store M) (root : Root) (item : Option (Item M)) : Type 0 where
  pub none : root.height ≡ 0
  pub owned : Owned (look store) (λ k. 0)
  pub room : length (pairs_of item) ≤ store.spare
  pub value : AreValues IsValue (leaf_slots item)

-- an empty tree took an item, if there was one
pub record IsSprouted {M : Type 0} (IsValue : M → Type 0) (empty : M) (op : M → M → M) (old new : Store M) (root : Root) (left right : Bool) (item : Option (Item M)) (grown : Root) : Type 0 where
  pub tree : IsTree IsValue empty op new grown left right
  pub pairs : pairs_at (plain new) grown.height grown.at ≡ pairs_of item
  pub room : new.spare + size (plain new) grown.height grown.at ≡ old.spare
  pub higher : grown.height ≡ length (pairs_of item)
