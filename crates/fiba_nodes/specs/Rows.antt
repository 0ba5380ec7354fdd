-- Rows of at most four, and a node as its row of slots.
use Rattle.std.specs.Prelude.{◌≤◌, ℕ, Bool, List, [], ◌∷◌, Option, None, Some, length, slice_index}
use Rattle.fiba_nodes.specs.declared.item.Item.{Item}
use Rattle.fiba_nodes.specs.declared.slot.Slot.{Slot}
use Rattle.fiba_nodes.specs.declared.node.Node.{Node}
use Rattle.fiba_nodes.specs.declared.row.Row.{Row}
use Rattle.fiba_nodes.specs.declared.row.Row.TheVariants.{Empty, One, Two, Three, Four}

-- what stands in a row
abbrev pub listed : {T : Type 0} → Row T → List T
listed Empty = []
listed (One a) = a ∷ []
listed (Two a b) = a ∷ b ∷ []
listed (Three a b c) = a ∷ b ∷ c ∷ []
listed (Four a b c d) = a ∷ b ∷ c ∷ d ∷ []

-- as many as the items of a node: one to three
pub record FitsNode {T : Type 0} (slots : List T) : Type 0 where
  pub some : 1 ≤ length slots
  pub few : length slots ≤ 3

-- the slots behind the first one
abbrev pub more_slots : {M : Type 0} → Option (Item M) → Option (Item M) → List ℕ → List (Slot M)
more_slots None third kids = []
more_slots (Some s) None kids = record { kid = slice_index kids 1; item = s } ∷ []
more_slots (Some s) (Some t) kids =
    record { kid = slice_index kids 1; item = s } ∷ record { kid = slice_index kids 2; item = t } ∷ []

-- the child behind the last item
abbrev pub last_kid : {M : Type 0} → Option (Item M) → Option (Item M) → List ℕ → ℕ
last_kid None third kids = slice_index kids 1
last_kid (Some s) None kids = slice_index kids 2
last_kid (Some s) (Some t) kids = slice_index kids 3

-- a node's items, each with the child before it
abbrev pub slots_of : {M : Type 0} → Node M → List (Slot M)
slots_of n = record { kid = slice_index n.kids 0; item = n.first } ∷ more_slots n.second n.third n.kids

-- the last child of a node
abbrev pub last_of : {M : Type 0} → Node M → ℕ
last_of n = last_kid n.second n.third n.kids

-- a node without the number of its parent
pub record Plain (M : Type 0) : Type 0 where
  pub slots : List (Slot M)
  pub last : ℕ
  pub agg : M
  pub leaf : Bool

abbrev pub plain_node : {M : Type 0} → Node M → Plain M
plain_node n = record { slots = slots_of n; last = last_of n; agg = n.agg; leaf = n.leaf }
