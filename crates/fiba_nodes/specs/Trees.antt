-- The tree that stands at a number of a store: its pairs, its nodes, and what makes it sound.
use Rattle.std.specs.Prelude.{◌≡◌, ◌≤◌, ◌==◌, ◌||◌, ◌+◌, ◌++◌, ℕ, zero, suc, Bool, false, List, [], ◌∷◌, Option, None, Some, All, length, if◌then◌else◌}
use Rattle.std.specs.Option.{option_map, option_map_or, IsSomeAnd}
use Rattle.agg_laws.specs.Laws.{total}
use Rattle.agg_laws.specs.Pairs.{values_of}
use Rattle.fiba_nodes.specs.declared.item.Item.{Item}
use Rattle.fiba_nodes.specs.declared.slot.Slot.{Slot}
use Rattle.fiba_nodes.specs.Rows.{Plain, plain_node}
use Rattle.fiba_nodes.specs.Stores.{Store, look}

-- nodes under numbers, without the numbers of their parents
abbrev pub Look : Type 0 → Type 0
Look M = ℕ → Option (Plain M)

abbrev pub plain : {M : Type 0} → Store M → Look M
plain s at = option_map plain_node (look s at)

abbrev pub pair_of : {M : Type 0} → Item M → ℕ × M
pair_of item = (item.key, item.value)

-- what the children hold, with the items between them
abbrev pub woven : {M : Type 0} → (ℕ → List (ℕ × M)) → List (Slot M) → ℕ → List (ℕ × M)
woven f [] last = f last
woven f (s ∷ ss) last = f s.kid ++ pair_of s.item ∷ woven f ss last

-- the same without the first child on the left edge, and without the last on the right edge
abbrev pub shown : {M : Type 0} → Bool → Bool → (ℕ → List (ℕ × M)) → List (Slot M) → ℕ → List (ℕ × M)
shown left right f [] last = if left || right then [] else f last
shown left right f (s ∷ ss) last = (if left then [] else f s.kid) ++ pair_of s.item ∷ shown false right f ss last

-- what is counted of the children, together
abbrev pub tally : {M : Type 0} → (ℕ → ℕ) → List (Slot M) → ℕ → ℕ
tally f [] last = f last
tally f (s ∷ ss) last = f s.kid + tally f ss last

-- each child is right at its place: only the first can be on the left edge, only the last on the right one
abbrev pub KidsAt : {M : Type 0} → (Bool → Bool → ℕ → Type 0) → Bool → Bool → List (Slot M) → ℕ → Type 0
KidsAt P left right [] last = P left right last
KidsAt P left right (s ∷ ss) last = P left false s.kid × KidsAt P false right ss last

-- the pairs of the tree of a height at a number; a tree of height 0 is empty, whatever its number
unfoldable pub pairs_at : {M : Type 0} → Look M → ℕ → ℕ → List (ℕ × M)
pairs_at look zero at = []
pairs_at look (suc h) at = option_map_or (λ n. woven (pairs_at look h) n.slots n.last) (look at) []

-- what the numbers of a tree's nodes weigh together
unfoldable pub weigh : {M : Type 0} → (ℕ → ℕ) → Look M → ℕ → ℕ → ℕ
weigh w look zero at = 0
weigh w look (suc h) at = w at + option_map_or (λ n. tally (weigh w look h) n.slots n.last) (look at) 0

-- only this number weighs, and it weighs 1
abbrev pub only : ℕ → ℕ → ℕ
only k n = if n == k then 1 else 0

-- how often a number is one of a tree's nodes
abbrev pub times : {M : Type 0} → ℕ → Look M → ℕ → ℕ → ℕ
times k look h at = weigh (only k) look h at

-- how many nodes a tree has
abbrev pub size : {M : Type 0} → Look M → ℕ → ℕ → ℕ
size look h at = weigh (λ _. 1) look h at

-- 1 where there is no node
abbrev pub vacancy : {X : Type 0} → Option X → ℕ
vacancy None = 1
vacancy (Some _) = 0

-- the values of slots are values
abbrev pub AreValues : {M : Type 0} → (M → Type 0) → List (Slot M) → Type 0
AreValues IsValue slots = All (λ s. IsValue s.item.value) slots

-- a node is sound: its aggregate is that of all that it shows, and so are its children
pub record IsNode {M : Type 0} (IsValue : M → Type 0) (empty : M) (op : M → M → M) (pairs : ℕ → List (ℕ × M)) (IsKid : Bool → Bool → ℕ → Type 0) (left right : Bool) (h : ℕ) (node : Plain M) : Type 0 where
  pub some : 1 ≤ length node.slots
  pub bottom : node.leaf ≡ (h == 0)
  pub items : AreValues IsValue node.slots
  pub aggregate : node.agg ≡ total empty op (values_of (shown left right pairs node.slots node.last))
  pub kids : KidsAt IsKid left right node.slots node.last

-- a sound tree of a height stands at a number, on the left edge or not and on the right edge or not
unfoldable pub IsAt : {M : Type 0} → (M → Type 0) → M → (M → M → M) → Look M → ℕ → Bool → Bool → ℕ → Type 0
IsAt IsValue empty op look zero left right at = Unit {0}
IsAt IsValue empty op look (suc h) left right at =
    IsSomeAnd (look at) (λ n. IsNode IsValue empty op (pairs_at look h) (λ l r k. IsAt IsValue empty op look h l r k) left right h n)

-- sound trees of a height stand in a row
abbrev pub TreesAt : {M : Type 0} → (M → Type 0) → M → (M → M → M) → Look M → ℕ → Bool → Bool → List (Slot M) → ℕ → Type 0
TreesAt IsValue empty op look h left right slots last =
    KidsAt (λ l r k. IsAt IsValue empty op look h l r k) left right slots last

-- the parent of the node at each number, where there is a node
abbrev pub ups : {M : Type 0} → Store M → ℕ → Option (Option ℕ)
ups s k = option_map (λ n. n.up) (look s k)

-- the root of a tree of a height has this parent, if there is a root
abbrev pub HasUp : {M : Type 0} → Store M → ℕ → ℕ → ℕ → Type 0
HasUp s zero at k = Unit {0}
HasUp s (suc h) at k = ups s k ≡ Some (Some at)

-- in the tree of a height at a number each node but the root has the number of its parent
unfoldable pub IsLinked : {M : Type 0} → Store M → ℕ → ℕ → Type 0
IsLinked s zero at = Unit {0}
IsLinked s (suc h) at =
    IsSomeAnd (plain s at) (λ n. KidsAt (λ _ _ k. HasUp s h at k × IsLinked s h k) false false n.slots n.last)

-- the trees in a row are linked
abbrev pub AreLinked : {M : Type 0} → Store M → ℕ → List (Slot M) → ℕ → Type 0
AreLinked s h slots last = KidsAt (λ _ _ k. IsLinked s h k) false false slots last

-- nodes of a tree or fresh ones change, and no others; no number is used twice
pub record Moves {X : Type 0} (old new : ℕ → Option X) (before behind : ℕ → ℕ) : Type 0 where
  pub counts : (k : ℕ) → behind k + vacancy (new k) ≤ before k + vacancy (old k)
  pub kept : (k : ℕ) → before k + vacancy (old k) ≡ 0 → new k ≡ old k

-- each number is used at most once, and then it isn't free
abbrev pub Owned : {X : Type 0} → (ℕ → Option X) → (ℕ → ℕ) → Type 0
Owned look used = (k : ℕ) → used k + vacancy (look k) ≤ 1

-- how often a number is one of a row's nodes
abbrev pub row_times : {M : Type 0} → ℕ → Look M → ℕ → List (Slot M) → ℕ → ℕ
row_times k look h slots last = tally (times k look h) slots last

-- how many nodes a row has
abbrev pub row_size : {M : Type 0} → Look M → ℕ → List (Slot M) → ℕ → ℕ
row_size look h slots last = tally (size look h) slots last

-- a node was opened: its number is held, and its items and children stand in a row
pub record IsOpened {M : Type 0} (IsValue : M → Type 0) (empty : M) (op : M → M → M) (store : Store M) (at h : ℕ) (left right : Bool) (slots : List (Slot M)) (last : ℕ) : Type 0 where
  pub items : AreValues IsValue slots
  pub kids : TreesAt IsValue empty op (plain store) h left right slots last
  pub owned : Owned (look store) (λ k. only k at + row_times k (plain store) h slots last)
  pub linked : AreLinked store h slots last

-- items and children stand in a row
pub record IsLoose {M : Type 0} (IsValue : M → Type 0) (empty : M) (op : M → M → M) (store : Store M) (h : ℕ) (left right : Bool) (slots : List (Slot M)) (last : ℕ) : Type 0 where
  pub items : AreValues IsValue slots
  pub kids : TreesAt IsValue empty op (plain store) h left right slots last
  pub owned : Owned (look store) (λ k. row_times k (plain store) h slots last)
  pub linked : AreLinked store h slots last

-- an opened node is closed again: it became one node, or two with an item between
pub record IsClosed {M : Type 0} (IsValue : M → Type 0) (empty : M) (op : M → M → M) (old new : Store M) (at h : ℕ) (left right : Bool) (slots : List (Slot M)) (last : ℕ) (nodes : List (Slot M)) (end : ℕ) : Type 0 where
  pub sizes : row_size (plain new) (suc h) nodes end ≡ length nodes + 1 + row_size (plain old) h slots last
  pub items : AreValues IsValue nodes
  pub kids : TreesAt IsValue empty op (plain new) (suc h) left right nodes end
  pub pairs : woven (pairs_at (plain new) (suc h)) nodes end ≡ woven (pairs_at (plain old) h) slots last
  pub moves : Moves (look old) (look new) (λ k. only k at + row_times k (plain old) h slots last) (λ k. row_times k (plain new) (suc h) nodes end)
  pub room : new.spare + row_size (plain new) (suc h) nodes end ≡ old.spare + (1 + row_size (plain old) h slots last)
  pub linked : AreLinked new (suc h) nodes end

-- a node was written over children that stood there already
pub record IsWritten {M : Type 0} (IsValue : M → Type 0) (empty : M) (op : M → M → M) (old new : Store M) (at h : ℕ) (left right : Bool) (slots : List (Slot M)) (last : ℕ) : Type 0 where
  pub sound : IsAt IsValue empty op (plain new) (suc h) left right at
  pub pairs : pairs_at (plain new) (suc h) at ≡ woven (pairs_at (plain old) h) slots last
  pub weighs : (w : ℕ → ℕ) → weigh w (plain new) (suc h) at ≡ w at + tally (weigh w (plain old) h) slots last
  pub linked : IsLinked new (suc h) at
