-- A store of nodes under numbers.
use Rattle.std.specs.Prelude.{◌≡◌, ◌≢◌, ◌≤◌, ◌==◌, ◌+◌, ℕ, List, [], ◌∷◌, Option, None, Some, Result, OnOk, length, slice_index_or, if◌then◌else◌}
use Rattle.fiba_nodes.specs.declared.node.Node.{Node}
use Rattle.fiba_nodes.specs.Rows.{slots_of}

-- the node under each number from 0 on, and for how many more there is room
pub record Store (M : Type 0) : Type 0 where
  pub cells : List (Option (Node M))
  pub spare : ℕ

-- the node under a number, if there is one
abbrev pub look : {M : Type 0} → Store M → ℕ → Option (Node M)
look s at = slice_index_or s.cells at None

-- the new store has this under the number, and all else as the old one
pub record Puts {M : Type 0} (old new : Store M) (at : ℕ) (node : Option (Node M)) : Type 0 where
  pub here : look new at ≡ node
  pub others : (k : ℕ) → k ≢ at → look new k ≡ look old k

-- memory allowing there is room for so many nodes more, none of the room is lost, and the nodes stay
pub record Reserves {M A E : Type 0} (more : ℕ) (answer : Result A E) (old new : Store M) : Type 0 where
  pub room : OnOk answer (more ≤ new.spare)
  pub spare : old.spare ≤ new.spare
  pub kept : new.cells ≡ old.cells

-- the node came under a number that was free, and took one place of the room
pub record Adds {M : Type 0} (old new : Store M) (at : ℕ) (node : Node M) : Type 0 where
  pub fresh : look old at ≡ None
  pub added : Puts old new at (Some node)
  pub spare : new.spare + 1 ≡ old.spare

-- how many items the node in a cell has
abbrev pub held : {M : Type 0} → Option (Node M) → ℕ
held None = 0
held (Some n) = length (slots_of n)

-- 1 where so many items fill a node, as three do
abbrev pub fullness : ℕ → ℕ
fullness count = if count == 3 then 1 else 0

-- how many of the nodes in cells are full
abbrev pub full_in : {M : Type 0} → List (Option (Node M)) → ℕ
full_in [] = 0
full_in (c ∷ cs) = fullness (held c) + full_in cs

-- how many nodes of a store have three items, as many as a node can have
unfoldable pub full_nodes : {M : Type 0} → Store M → ℕ
full_nodes s = full_in s.cells
