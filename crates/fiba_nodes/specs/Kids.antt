-- One child of a row: what stands around it, and what the row becomes where the child does.
use Rattle.std.specs.Prelude.{◌+◌, ◌++◌, ℕ, zero, suc, Bool, false, List, [], ◌∷◌}
use Rattle.fiba_nodes.specs.declared.item.Item.{Item}
use Rattle.fiba_nodes.specs.declared.slot.Slot.{Slot}
use Rattle.fiba_nodes.specs.Trees.{KidsAt, pair_of, tally, woven}

-- the child at a place
abbrev pub kid_of : {M : Type 0} → List (Slot M) → ℕ → ℕ → ℕ
kid_of [] last i = last
kid_of (s ∷ ss) last zero = s.kid
kid_of (s ∷ ss) last (suc i) = kid_of ss last i

-- what is woven before that child
abbrev pub before : {M : Type 0} → (ℕ → List (ℕ × M)) → List (Slot M) → ℕ → List (ℕ × M)
before f [] i = []
before f (s ∷ ss) zero = []
before f (s ∷ ss) (suc i) = f s.kid ++ pair_of s.item ∷ before f ss i

-- what is woven behind that child
abbrev pub behind : {M : Type 0} → (ℕ → List (ℕ × M)) → List (Slot M) → ℕ → ℕ → List (ℕ × M)
behind f [] last i = []
behind f (s ∷ ss) last zero = pair_of s.item ∷ woven f ss last
behind f (s ∷ ss) last (suc i) = behind f ss last i

-- what is counted of the other children
abbrev pub others : {M : Type 0} → (ℕ → ℕ) → List (Slot M) → ℕ → ℕ → ℕ
others f [] last i = 0
others f (s ∷ ss) last zero = tally f ss last
others f (s ∷ ss) last (suc i) = f s.kid + others f ss last i

-- whether that child is on the left edge, and on the right edge
abbrev pub left_of : {M : Type 0} → Bool → List (Slot M) → ℕ → Bool
left_of l [] i = l
left_of l (s ∷ ss) zero = l
left_of l (s ∷ ss) (suc i) = left_of false ss i

abbrev pub right_of : {M : Type 0} → Bool → List (Slot M) → ℕ → Bool
right_of r [] i = r
right_of r (s ∷ ss) zero = false
right_of r (s ∷ ss) (suc i) = right_of r ss i

-- the other children are right at their places
abbrev pub OthersAt : {M : Type 0} → (Bool → Bool → ℕ → Type 0) → Bool → Bool → List (Slot M) → ℕ → ℕ → Type 0
OthersAt P l r [] last i = Unit {0}
OthersAt P l r (s ∷ ss) last zero = KidsAt P false r ss last
OthersAt P l r (s ∷ ss) last (suc i) = P l false s.kid × OthersAt P false r ss last i

-- the slots, and the last child, of the row with nodes in place of the child
abbrev pub spliced : {M : Type 0} → List (Slot M) → ℕ → List (Slot M) → ℕ → List (Slot M)
spliced [] i nodes end = nodes
spliced (s ∷ ss) zero nodes end = nodes ++ record { kid = end; item = s.item } ∷ ss
spliced (s ∷ ss) (suc i) nodes end = s ∷ spliced ss i nodes end

abbrev pub spliced_last : {M : Type 0} → List (Slot M) → ℕ → ℕ → ℕ → ℕ
spliced_last [] last i end = end
spliced_last (s ∷ ss) last zero end = last
spliced_last (s ∷ ss) last (suc i) end = spliced_last ss last i end

-- the slots, and the last child, of the row without the child behind that one and the item between the two
abbrev pub thinned : {M : Type 0} → List (Slot M) → ℕ → List (Slot M)
thinned [] i = []
thinned (s ∷ []) zero = []
thinned (s ∷ t ∷ ts) zero = record { kid = s.kid; item = t.item } ∷ ts
thinned (s ∷ ss) (suc i) = s ∷ thinned ss i

abbrev pub thinned_last : {M : Type 0} → List (Slot M) → ℕ → ℕ → ℕ
thinned_last [] last i = last
thinned_last (s ∷ []) last zero = s.kid
thinned_last (s ∷ t ∷ ts) last zero = last
thinned_last (s ∷ ss) last (suc i) = thinned_last ss last i

-- the slots with another item at a place
abbrev pub with_item : {M : Type 0} → List (Slot M) → ℕ → Item M → List (Slot M)
with_item [] i item = []
with_item (s ∷ ss) zero item = record { kid = s.kid; item = item } ∷ ss
with_item (s ∷ ss) (suc i) item = s ∷ with_item ss i item
