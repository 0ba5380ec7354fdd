-- The edges of a tree, from its root down.
use Rattle.std.specs.Prelude.{◌++◌, ℕ, zero, suc, List, [], length}
use Rattle.std.specs.Option.{option_map_or}
use Rattle.fiba_nodes.specs.Trees.{Look, pairs_at}
use Rattle.fiba_nodes.specs.Kids.{before, kid_of}

-- the node so many levels below a node, always by the last child
unfoldable pub edge : {M : Type 0} → Look M → ℕ → ℕ → ℕ
edge look zero at = at
edge look (suc d) at = option_map_or (λ n. edge look d n.last) (look at) at

-- what a tree of a height holds before the tree that stands so many levels below, on the right edge
unfoldable pub ahead : {M : Type 0} → Look M → ℕ → ℕ → ℕ → List (ℕ × M)
ahead look h zero at = []
ahead look zero (suc d) at = []
ahead look (suc h) (suc d) at =
    option_map_or (λ n. before (pairs_at look h) n.slots (length n.slots) ++ ahead look h d n.last) (look at) []

-- the node so many levels below a node, always by the first child
unfoldable pub left_edge : {M : Type 0} → Look M → ℕ → ℕ → ℕ
left_edge look zero at = at
left_edge look (suc d) at = option_map_or (λ n. left_edge look d (kid_of n.slots n.last 0)) (look at) at
