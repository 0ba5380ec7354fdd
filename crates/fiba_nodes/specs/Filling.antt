-- A row with one of its children opened, which gets an item of its own where it has none.
use Rattle.std.specs.Prelude.{◌≡◌, ◌≤◌, ◌+◌, ℕ, length}
use Rattle.fiba_nodes.specs.declared.nest.Nest.{Nest}
use Rattle.fiba_nodes.specs.declared.open.Open.{Open}
use Rattle.fiba_nodes.specs.declared.place.Place.{Place}
use Rattle.fiba_nodes.specs.Kids.{kid_of}
use Rattle.fiba_nodes.specs.Nested.{IsFilled, IsNested, IsSettled}
use Rattle.fiba_nodes.specs.Rows.{listed}
use Rattle.fiba_nodes.specs.Stores.{Store, full_nodes, fullness, held, look}

-- the number of the opened child
abbrev pub opened_kid : {M : Type 0} → Nest M → ℕ
opened_kid nest = kid_of (listed nest.row.slots) nest.row.last nest.at

-- the opened child has no item; all else in the row is sound
pub record HasEmptyChild {M : Type 0} (IsValue : M → Type 0) (empty : M) (op : M → M → M) (store : Store M) (h : ℕ) (place : Place) (nest : Nest M) : Type 0 where
  pub nested : IsNested IsValue empty op store h place.left place.right (listed nest.row.slots) nest.row.last nest.at (listed nest.child.slots) nest.child.last
  pub none : length (listed nest.child.slots) ≡ 0

-- the opened child has items now, no room is lost, no more nodes are full, and one node at most was looked at
pub record Fills {M : Type 0} (IsValue : M → Type 0) (empty : M) (op : M → M → M) (old new : Store M) (h : ℕ) (place : Place) (nest now : Nest M) (looked looks : ℕ) : Type 0 where
  pub filled : IsFilled IsValue empty op old new h place.left place.right (listed nest.row.slots) nest.row.last nest.at (listed nest.child.slots) nest.child.last (listed now.row.slots) now.row.last now.at (listed now.child.slots) now.child.last
  pub spare : old.spare ≤ new.spare
  pub full : full_nodes new + fullness (held (look old (opened_kid nest))) ≤ full_nodes old + fullness (held (look new (opened_kid now)))
  pub rises : looked ≤ looks
  pub within : looks ≤ looked + 1

-- the opened child is closed again, and these are the slots of the row then, which is sound as a whole
abbrev pub Settles : {M : Type 0} → (M → Type 0) → M → (M → M → M) → Store M → Store M → ℕ → Place → Nest M → Open M → Type 0
Settles IsValue empty op old new h place nest now =
    IsSettled IsValue empty op old new h place.left place.right (listed nest.row.slots) nest.row.last nest.at (listed nest.child.slots) nest.child.last (listed now.slots) now.last
