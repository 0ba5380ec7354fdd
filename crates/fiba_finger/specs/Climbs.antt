-- Climbing along the right edge of a tree, and what is done there.
use Rattle.std.specs.Prelude.{◌≡◌, ◌≤◌, ◌<◌, ◌+◌, ◌-◌, ◌*◌, ◌^◌, ℕ, true, Option, All}
use Rattle.agg_laws.specs.Pairs.{AreRising, distance}
use Rattle.fiba_nodes.specs.declared.item.Item.{Item}
use Rattle.fiba_nodes.specs.declared.root.Root.{Root}
use Rattle.fiba_nodes.specs.declared.change.Change.{Change}
use Rattle.fiba_nodes.specs.Stores.{Store}
use Rattle.fiba_nodes.specs.Trees.{plain}
use Rattle.fiba_nodes.specs.Changes.{stands_before}
use Rattle.fiba_nodes.specs.Roots.{CanChange, IsChanged, IsTree}
use Rattle.fiba_nodes.specs.Arena.{pairs_in}
use Rattle.fiba_finger.specs.Edges.{ahead, edge, left_edge}

-- a change may climb so many levels where so many pairs lie behind its key
abbrev pub IsNear : ℕ → ℕ → Type 0
IsNear levels behind = 2 ^ levels ≤ behind + 1

-- a value was set in a tree of this height, from its last leaf: so many levels were climbed, at eight steps each and eight more
pub record ClimbsNear (behind height made makes : ℕ) : Type 0 where
  pub climbs : ℕ
  pub near : IsNear climbs behind
  pub within : climbs < height
  pub cost : makes ≤ made + 8 * (climbs + 1)

-- the node stands on the right edge, with so many levels of nodes below it
pub record IsOnEdge {M : Type 0} (store : Store M) (root : Root) (at below : ℕ) : Type 0 where
  pub within : below < root.height
  pub stands : edge (plain store) (root.height - 1 - below) root.at ≡ at

-- a climb has reached the node, and the distance of the key covers it
pub record IsReached {M : Type 0} (store : Store M) (root : Root) (key at below : ℕ) : Type 0 where
  pub edge : IsOnEdge store root at below
  pub near : IsNear below (distance key (pairs_in store root))

-- from there the climb can go on to the place of a key
pub record CanClimb {M : Type 0} (IsValue : M → Type 0) (empty : M) (op : M → M → M) (store : Store M) (root : Root) (key at below : ℕ) : Type 0 where
  pub tree : IsTree IsValue empty op store root true true
  pub rising : AreRising (pairs_in store root)
  pub reached : IsReached store root key at below

-- a climb has reached the node, and the place of the key lies in the tree of that node: all that stands before this tree has lower keys
pub record IsClimbed {M : Type 0} (store : Store M) (root : Root) (key at below : ℕ) : Type 0 where
  pub reached : IsReached store root key at below
  pub lower : All (λ p. p.0 < key) (ahead (plain store) root.height (root.height - 1 - below) root.at)

-- a change can be made in the tree of a node on the right edge
pub record CanRaise {M : Type 0} (IsValue : M → Type 0) (empty : M) (op : M → M → M) (store : Store M) (root : Root) (at below : ℕ) (change : Change M) : Type 0 where
  pub can : CanChange IsValue empty op store root true true change
  pub edge : IsOnEdge store root at below
  pub lower : All (λ p. stands_before change p.0 ≡ true) (ahead (plain store) root.height (root.height - 1 - below) root.at)

-- a change was made to a tree, and the highest node that was written stands on its right edge; where it isn't the root, the first leaf is still the first
pub record IsRaised {M : Type 0} (IsValue : M → Type 0) (empty : M) (op : M → M → M) (old new : Store M) (root grown : Root) (top below : ℕ) (change : Change M) : Type 0 where
  pub taken : Option (Item M)
  pub changed : IsChanged IsValue empty op old new root grown true true change taken
  pub edge : IsOnEdge new grown top below
  pub front : below + 1 < grown.height → (grown.height ≡ root.height) × (left_edge (plain new) (grown.height - 1) grown.at ≡ left_edge (plain old) (root.height - 1) root.at)

-- an item was put into a tree, be it in the place of another
pub record IsPutInTree {M : Type 0} (IsValue : M → Type 0) (empty : M) (op : M → M → M) (old new : Store M) (root grown : Root) (change : Change M) : Type 0 where
  pub taken : Option (Item M)
  pub changed : IsChanged IsValue empty op old new root grown true true change taken
