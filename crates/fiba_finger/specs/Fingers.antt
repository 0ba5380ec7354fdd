-- What a tree with a finger at both ends is in contracts, and what it keeps.
use Rattle.std.specs.Prelude.{◌≡◌, ◌≤◌, ◌<◌, ◌+◌, ℕ, suc, true}
use Rattle.agg_laws.specs.Tables.{IsReach, Table}
use Rattle.fiba_nodes.specs.declared.change.Change.TheVariants.{Remove}
use Rattle.fiba_nodes.specs.declared.changed.Changed.{Changed}
use Rattle.fiba_nodes.specs.declared.root.Root.{Root}
use Rattle.fiba_nodes.specs.Stores.{Store, full_nodes}
use Rattle.fiba_nodes.specs.Trees.{plain, size}
use Rattle.fiba_nodes.specs.Arena.{IsArena, IsBalanced}
use Rattle.fiba_nodes.specs.Roots.{IsChanged, IsTree}
use Rattle.fiba_finger.specs.Edges.{edge, left_edge}

-- its pairs with room for more, its height, how many nodes it has, and how many nodes of its store are full, with three items
pub record Fingers (M : Type 0) : Type 0 where
  pub table : Table M
  pub height : ℕ
  pub nodes : ℕ
  pub full : ℕ

-- the tree is no higher than before, and no more nodes are full
pub record Shrinks {M : Type 0} (old new : Fingers M) : Type 0 where
  pub reach : IsReach IsBalanced old.height new.table new.height
  pub full : new.full ≤ old.full

-- the item with a key went out of the tree at a root, if there was one, and no more nodes are full
pub record Takes {M : Type 0} (IsValue : M → Type 0) (empty : M) (op : M → M → M) (old new : Store M) (root : Root) (key : ℕ) (after : Changed M) : Type 0 where
  pub changed : IsChanged IsValue empty op old new root after.root true true (Remove key) after.taken
  pub full : full_nodes new ≤ full_nodes old

-- how many nodes the tree at a root has
abbrev pub nodes_in : {M : Type 0} → Store M → Root → ℕ
nodes_in store root = size (plain store) root.height root.at

-- the finger is the leaf on the right edge, if there is one
abbrev pub IsFinger : {M : Type 0} → Store M → Root → ℕ → Type 0
IsFinger store root finger = (below : ℕ) → root.height ≡ suc below → finger ≡ edge (plain store) below root.at

-- the front finger is the leaf on the left edge, if there is one
abbrev pub IsFront : {M : Type 0} → Store M → Root → ℕ → Type 0
IsFront store root front = (below : ℕ) → root.height ≡ suc below → front ≡ left_edge (plain store) below root.at

-- a sound tree, a level of its nodes above the leaves, and its first leaf, unless that level is the root's
pub record KeepsFront {M : Type 0} (IsValue : M → Type 0) (empty : M) (op : M → M → M) (store : Store M) (root : Root) (below front : ℕ) : Type 0 where
  pub tree : IsTree IsValue empty op store root true true
  pub within : below < root.height
  pub stays : below + 1 < root.height → IsFront store root front

-- the tree is sound, with aggregates that leave out the children on the edges, and the fingers stand at its ends
pub record IsFingered {M : Type 0} (IsValue : M → Type 0) (empty : M) (op : M → M → M) (store : Store M) (root : Root) (count limit front finger : ℕ) : Type 0 where
  pub arena : IsArena IsValue empty op store root true true count limit
  pub first : IsFront store root front
  pub last : IsFinger store root finger
