-- What a tree in an arena is in contracts, and what it keeps.
use Rattle.std.specs.Prelude.{◌≡◌, ◌≤◌, ◌+◌, ◌^◌, ℕ, Bool, List, [], length}
use Rattle.agg_laws.specs.Pairs.{AreRising}
use Rattle.agg_laws.specs.Tables.{Table}
use Rattle.fiba_nodes.specs.declared.root.Root.{Root}
use Rattle.fiba_nodes.specs.Stores.{Store}
use Rattle.fiba_nodes.specs.Trees.{pairs_at, plain, size}
use Rattle.fiba_nodes.specs.Roots.{IsTree}

-- its pairs with room for more, and its height
pub record Arena (M : Type 0) : Type 0 where
  pub table : Table M
  pub height : ℕ

-- how the height of a balanced tree is bounded by the number of its pairs
abbrev pub IsBalanced : ℕ → ℕ → Type 0
IsBalanced height pairs = 2 ^ height ≤ pairs + 1

-- the pairs of the tree at a root
abbrev pub pairs_in : {M : Type 0} → Store M → Root → List (ℕ × M)
pairs_in store root = pairs_at (plain store) root.height root.at

-- the tree is sound and balanced, its keys rise, its pairs are counted, and there is room up to a limit
pub record IsArena {M : Type 0} (IsValue : M → Type 0) (empty : M) (op : M → M → M) (store : Store M) (root : Root) (left right : Bool) (count limit : ℕ) : Type 0 where
  pub tree : IsTree IsValue empty op store root left right
  pub rising : AreRising (pairs_in store root)
  pub counted : count ≡ length (pairs_in store root)
  pub within : count ≤ limit
  pub room : limit ≤ store.spare + size (plain store) root.height root.at
  pub tall : IsBalanced root.height (length (pairs_in store root))
  pub low : root.height ≤ 64
  pub flat : pairs_in store root ≡ [] → root.height ≡ 0
