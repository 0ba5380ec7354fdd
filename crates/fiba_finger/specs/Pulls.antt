-- The first item of a tree goes, at its left edge.
use Rattle.std.specs.Prelude.{◌≡◌, ◌≤◌, ◌+◌, ◌-◌, ℕ, suc, Bool, true, false, List, [], Option, Some, IfNone, IfSome, length}
use Rattle.fiba_nodes.specs.declared.item.Item.{Item}
use Rattle.fiba_nodes.specs.declared.slot.Slot.{Slot}
use Rattle.fiba_nodes.specs.declared.change.Change.TheVariants.{First}
use Rattle.fiba_nodes.specs.Stores.{Store, full_nodes, fullness, held, look}
use Rattle.fiba_nodes.specs.Trees.{IsAt, IsLinked, IsWritten, Moves, only, pairs_at, plain, row_times, size, times, ups}
use Rattle.fiba_nodes.specs.Changes.{Applies, CanApply, IsApplied}
use Rattle.fiba_nodes.specs.declared.node.Node.{Node}
use Rattle.fiba_nodes.specs.Rows.{last_of, slots_of}
use Rattle.fiba_nodes.specs.Kids.{kid_of}

-- the first item of a tree on the left edge went, and the tree keeps its number and height
pub record IsPulled {M : Type 0} (IsValue : M → Type 0) (empty : M) (op : M → M → M) (old new : Store M) (at b : ℕ) (right : Bool) : Type 0 where
  pub taken : Option (Item M)
  pub sound : IsAt IsValue empty op (plain new) (suc b) true right at
  pub applies : Applies First taken (pairs_at (plain old) (suc b) at) (pairs_at (plain new) (suc b) at)
  pub moves : Moves (look old) (look new) (λ k. times k (plain old) (suc b) at) (λ k. times k (plain new) (suc b) at)
  pub room : new.spare + size (plain new) (suc b) at ≡ old.spare + size (plain old) (suc b) at
  pub linked : IsLinked new (suc b) at
  pub up : ups new at ≡ ups old at

-- it went, and of the root, which is held, only a child is left
pub record IsDrained {M : Type 0} (IsValue : M → Type 0) (empty : M) (op : M → M → M) (old new : Store M) (at b : ℕ) (right : Bool) (kid : ℕ) : Type 0 where
  pub taken : Option (Item M)
  pub applied : IsApplied IsValue empty op old new at b true right First taken [] kid

-- the first item of a tree on the left edge went: the tree is whole again, or else only this child is left of its root
pub record Pulls {M : Type 0} (IsValue : M → Type 0) (empty : M) (op : M → M → M) (old new : Store M) (at b : ℕ) (right : Bool) (left : Option ℕ) : Type 0 where
  pub whole : IfNone left (IsPulled IsValue empty op old new at b right)
  pub drained : IfSome left (λ kid. IsDrained IsValue empty op old new at b right kid)

-- an opened node was written again, under the same parent
pub record IsKept {M : Type 0} (IsValue : M → Type 0) (empty : M) (op : M → M → M) (old new : Store M) (at b : ℕ) (left right : Bool) (slots : List (Slot M)) (last : ℕ) : Type 0 where
  pub written : IsWritten IsValue empty op old new at b left right slots last
  pub moves : Moves (look old) (look new) (λ k. only k at + row_times k (plain old) b slots last) (λ k. times k (plain new) (suc b) at)
  pub spare : new.spare ≡ old.spare
  pub up : ups new at ≡ ups old at
  pub full : full_nodes new + fullness (held (look old at)) ≡ full_nodes old + fullness (length slots)

-- an opened node has no item, and nothing was done
pub record IsBare {M : Type 0} (old new : Store M) (slots : List (Slot M)) (last kid : ℕ) : Type 0 where
  pub none : slots ≡ []
  pub only : kid ≡ last
  pub same : new ≡ old

-- the first item went out of the tree of a node's first child, whose root has only a child left; before that, it could be taken out of the node's tree
pub record IsHung {M : Type 0} (IsValue : M → Type 0) (empty : M) (op : M → M → M) (old now : Store M) (at b : ℕ) (right : Bool) (end : ℕ) : Type 0 where
  pub inner : 1 ≤ b
  pub can : CanApply IsValue empty op old at b true right First
  pub node : Node M
  pub found : look old at ≡ Some node
  pub drained : IsDrained IsValue empty op old now (kid_of (slots_of node) (last_of node) 0) (b - 1) false end
