-- One child of a row, and what stands around it.
use Rattle.std.proofs.Common.{◌≡◌, ◌<◌, ◌+◌, ◌++◌, ℕ, zero, suc, Bool, false, List, [], ◌∷◌, Some, length, refl, sym, ap, subst, ◌∙◌, arith, append_assoc, length-append}
use Rattle.std.specs.Prelude.{slice_get}
use Rattle.std.specs.List.{All}
use Rattle.std.proofs.lemmas.List.Elements.{All-head, All-tail, All-append, All-cons, All-nil}
use Rattle.fiba_nodes.specs.declared.item.Item.{Item}
use Rattle.fiba_nodes.specs.declared.slot.Slot.{Slot}
use Rattle.fiba_nodes.specs.Trees.{KidsAt, pair_of, tally, woven}
use Rattle.fiba_nodes.specs.Kids.{OthersAt, before, behind, kid_of, left_of, others, right_of, spliced, spliced_last, thinned, thinned_last, with_item}
use Rattle.fiba_nodes.proofs.Lists.{append_none}
use Rattle.fiba_nodes.proofs.Frames.{kids-join, tally-join, woven-join}

module _ {M : Type 0} where
  pub spliced_last-inner : (slots : List (Slot M)) (last i end : ℕ) → i < length slots → spliced_last slots last i end ≡ last
  spliced_last-inner [] last i end lt = absurd (omega arith)
  spliced_last-inner (s ∷ ss) last zero end lt = refl
  spliced_last-inner (s ∷ ss) last (suc i) end lt = spliced_last-inner ss last i end (omega arith)

  pub thinned_last-inner : (slots : List (Slot M)) (last i : ℕ) → i + 1 < length slots → thinned_last slots last i ≡ last
  thinned_last-inner [] last i lt = absurd (omega arith)
  thinned_last-inner (s ∷ []) last i lt = absurd (omega arith)
  thinned_last-inner (s ∷ t ∷ ts) last zero lt = refl
  thinned_last-inner (s ∷ t ∷ ts) last (suc i) lt = thinned_last-inner (t ∷ ts) last i (omega arith)

  -- a row around one child
  pub woven-around : (f : ℕ → List (ℕ × M)) (slots : List (Slot M)) (last i : ℕ) → woven f slots last ≡ before f slots i ++ f (kid_of slots last i) ++ behind f slots last i
  woven-around f [] last i = sym (append_none (f last))
  woven-around f (s ∷ ss) last zero = refl
  woven-around f (s ∷ ss) last (suc i) =
      ap (λ l. f s.kid ++ pair_of s.item ∷ l) (woven-around f ss last i) ∙ regroup (f s.kid) (pair_of s.item) (before f ss i) (f (kid_of ss last i)) (behind f ss last i)
    where
      regroup : (a : List (ℕ × M)) (p : ℕ × M) (b c d : List (ℕ × M)) → a ++ p ∷ (b ++ c ++ d) ≡ (a ++ p ∷ b) ++ c ++ d
      regroup a p b c d = simp append_assoc

  pub woven-spliced : (f : ℕ → List (ℕ × M)) (slots : List (Slot M)) (last i : ℕ) (nodes : List (Slot M)) (end : ℕ) → woven f (spliced slots i nodes end) (spliced_last slots last i end) ≡ before f slots i ++ woven f nodes end ++ behind f slots last i
  woven-spliced f [] last i nodes end = sym (append_none (woven f nodes end))
  woven-spliced f (s ∷ ss) last zero nodes end = woven-join f nodes (record { kid = end; item = s.item }) ss last
  woven-spliced f (s ∷ ss) last (suc i) nodes end =
      ap (λ l. f s.kid ++ pair_of s.item ∷ l) (woven-spliced f ss last i nodes end) ∙ regroup (f s.kid) (pair_of s.item) (before f ss i) (woven f nodes end) (behind f ss last i)
    where
      regroup : (a : List (ℕ × M)) (p : ℕ × M) (b c d : List (ℕ × M)) → a ++ p ∷ (b ++ c ++ d) ≡ (a ++ p ∷ b) ++ c ++ d
      regroup a p b c d = simp append_assoc

  pub tally-around : (f : ℕ → ℕ) (slots : List (Slot M)) (last i : ℕ) → tally f slots last ≡ others f slots last i + f (kid_of slots last i)
  tally-around f [] last i = omega arith
  tally-around f (s ∷ ss) last zero = omega arith
  tally-around f (s ∷ ss) last (suc i) = let e = tally-around f ss last i in omega arith

  pub tally-spliced : (f : ℕ → ℕ) (slots : List (Slot M)) (last i : ℕ) (nodes : List (Slot M)) (end : ℕ) → tally f (spliced slots i nodes end) (spliced_last slots last i end) ≡ others f slots last i + tally f nodes end
  tally-spliced f [] last i nodes end = omega arith
  tally-spliced f (s ∷ ss) last zero nodes end = let e = tally-join f nodes (record { kid = end; item = s.item }) ss last in omega arith
  tally-spliced f (s ∷ ss) last (suc i) nodes end = let e = tally-spliced f ss last i nodes end in omega arith

  pub kids-around : (P : Bool → Bool → ℕ → Type 0) (l r : Bool) (slots : List (Slot M)) (last i : ℕ) → KidsAt P l r slots last → OthersAt P l r slots last i × P (left_of l slots i) (right_of r slots i) (kid_of slots last i)
  kids-around P l r [] last i k = (tt, k)
  kids-around P l r (s ∷ ss) last zero k = (k.1, k.0)
  kids-around P l r (s ∷ ss) last (suc i) k = let rest = kids-around P false r ss last i k.1 in ((k.0, rest.0), rest.1)

  pub kids-spliced : (P : Bool → Bool → ℕ → Type 0) (l r : Bool) (slots : List (Slot M)) (last i : ℕ) (nodes : List (Slot M)) (end : ℕ) → OthersAt P l r slots last i → KidsAt P (left_of l slots i) (right_of r slots i) nodes end → KidsAt P l r (spliced slots i nodes end) (spliced_last slots last i end)
  kids-spliced P l r [] last i nodes end o k = k
  kids-spliced P l r (s ∷ ss) last zero nodes end o k = kids-join P l r nodes (record { kid = end; item = s.item }) ss last k o
  kids-spliced P l r (s ∷ ss) last (suc i) nodes end o k = (o.0, kids-spliced P false r ss last i nodes end o.1 k)

  pub all-spliced : (P : Item M → Type 0) (slots : List (Slot M)) (i : ℕ) (nodes : List (Slot M)) (end : ℕ) → All (λ s. P s.item) slots → All (λ s. P s.item) nodes → All (λ s. P s.item) (spliced slots i nodes end)
  all-spliced P [] i nodes end a b = b
  all-spliced P (s ∷ ss) zero nodes end a b =
      All-append (λ s. P s.item) nodes (record { kid = end; item = s.item } ∷ ss) b (All-cons (λ s. P s.item) (record { kid = end; item = s.item }) ss (All-head (λ s. P s.item) s ss a) (All-tail (λ s. P s.item) s ss a))
  all-spliced P (s ∷ ss) (suc i) nodes end a b =
      All-cons (λ s. P s.item) s (spliced ss i nodes end) (All-head (λ s. P s.item) s ss a) (all-spliced P ss i nodes end (All-tail (λ s. P s.item) s ss a) b)

  pub length-spliced : (slots : List (Slot M)) (i : ℕ) (nodes : List (Slot M)) (end : ℕ) → length (spliced slots i nodes end) ≡ length slots + length nodes
  length-spliced [] i nodes end = omega arith
  length-spliced (s ∷ ss) zero nodes end = let e = length-append nodes (record { kid = end; item = s.item } ∷ ss) in omega arith
  length-spliced (s ∷ ss) (suc i) nodes end = let e = length-spliced ss i nodes end in omega arith

  -- a row without an item and the child behind it, seen from the child before the item
  pub kid-thinned : (slots : List (Slot M)) (last j : ℕ) (s : Slot M) → slice_get slots j ≡ Some s → kid_of (thinned slots j) (thinned_last slots last j) j ≡ kid_of slots last j
  kid-thinned [] last j s is = cc
  kid-thinned (x ∷ []) last zero s is = refl
  kid-thinned (x ∷ []) last (suc j) s is = cc
  kid-thinned (x ∷ t ∷ ts) last zero s is = refl
  kid-thinned (x ∷ t ∷ ts) last (suc j) s is = kid-thinned (t ∷ ts) last j s is

  pub before-thinned : (f : ℕ → List (ℕ × M)) (slots : List (Slot M)) (last j : ℕ) (s : Slot M) → slice_get slots j ≡ Some s → before f (thinned slots j) j ≡ before f slots j
  before-thinned f [] last j s is = cc
  before-thinned f (x ∷ []) last zero s is = refl
  before-thinned f (x ∷ []) last (suc j) s is = cc
  before-thinned f (x ∷ t ∷ ts) last zero s is = refl
  before-thinned f (x ∷ t ∷ ts) last (suc j) s is = ap (λ l. f x.kid ++ pair_of x.item ∷ l) (before-thinned f (t ∷ ts) last j s is)

  pub behind-thinned : (f : ℕ → List (ℕ × M)) (slots : List (Slot M)) (last j : ℕ) (s : Slot M) → slice_get slots j ≡ Some s → behind f slots last j ≡ pair_of s.item ∷ (f (kid_of slots last (suc j)) ++ behind f (thinned slots j) (thinned_last slots last j) j)
  behind-thinned f [] last j s is = cc
  behind-thinned f (x ∷ []) last zero s is = let e : x ≡ s = cc in ap (λ y. pair_of y.item ∷ f last) e ∙ ap (λ l. pair_of s.item ∷ l) (sym (append_none (f last)))
  behind-thinned f (x ∷ []) last (suc j) s is = cc
  behind-thinned f (x ∷ t ∷ ts) last zero s is = let e : x ≡ s = cc in ap (λ y. pair_of y.item ∷ woven f (t ∷ ts) last) e
  behind-thinned f (x ∷ t ∷ ts) last (suc j) s is = behind-thinned f (t ∷ ts) last j s is

  pub others-thinned : (f : ℕ → ℕ) (slots : List (Slot M)) (last j : ℕ) (s : Slot M) → slice_get slots j ≡ Some s → others f slots last j ≡ f (kid_of slots last (suc j)) + others f (thinned slots j) (thinned_last slots last j) j
  others-thinned f [] last j s is = cc
  others-thinned f (x ∷ []) last zero s is = omega arith
  others-thinned f (x ∷ []) last (suc j) s is = cc
  others-thinned f (x ∷ t ∷ ts) last zero s is = refl
  others-thinned f (x ∷ t ∷ ts) last (suc j) s is = let e = others-thinned f (t ∷ ts) last j s is in omega arith

  pub kids-thinned : (P : Bool → Bool → ℕ → Type 0) (l r : Bool) (slots : List (Slot M)) (last j : ℕ) (s : Slot M) → slice_get slots j ≡ Some s → OthersAt P l r slots last j → P false (right_of r (thinned slots j) j) (kid_of slots last (suc j)) × OthersAt P l r (thinned slots j) (thinned_last slots last j) j
  kids-thinned P l r [] last j s is o = cc
  kids-thinned P l r (x ∷ []) last zero s is o = (o, tt)
  kids-thinned P l r (x ∷ []) last (suc j) s is o = cc
  kids-thinned P l r (x ∷ t ∷ ts) last zero s is o = o
  kids-thinned P l r (x ∷ t ∷ ts) last (suc j) s is o = let h = kids-thinned P false r (t ∷ ts) last j s is o.1 in (h.0, (o.0, h.1))

  pub left-thinned : (l : Bool) (slots : List (Slot M)) (j : ℕ) (s : Slot M) → slice_get slots j ≡ Some s → left_of l (thinned slots j) j ≡ left_of l slots j
  left-thinned l [] j s is = cc
  left-thinned l (x ∷ []) zero s is = refl
  left-thinned l (x ∷ []) (suc j) s is = cc
  left-thinned l (x ∷ t ∷ ts) zero s is = refl
  left-thinned l (x ∷ t ∷ ts) (suc j) s is = left-thinned false (t ∷ ts) j s is

  pub right-inner : (r : Bool) (slots : List (Slot M)) (j : ℕ) (s : Slot M) → slice_get slots j ≡ Some s → right_of r slots j ≡ false
  right-inner r [] j s is = cc
  right-inner r (x ∷ xs) zero s is = refl
  right-inner r (x ∷ xs) (suc j) s is = right-inner r xs j s is

  -- the same, seen from the child behind the item
  pub before-thinned_next : (f : ℕ → List (ℕ × M)) (slots : List (Slot M)) (last j : ℕ) (s : Slot M) → slice_get slots j ≡ Some s → before f slots (suc j) ≡ before f (thinned slots j) j ++ f (kid_of slots last j) ++ pair_of s.item ∷ []
  before-thinned_next f [] last j s is = cc
  before-thinned_next f (x ∷ []) last zero s is = let e : x ≡ s = cc in ap (λ y. f x.kid ++ pair_of y.item ∷ []) e
  before-thinned_next f (x ∷ []) last (suc j) s is = cc
  before-thinned_next f (x ∷ t ∷ ts) last zero s is = let e : x ≡ s = cc in ap (λ y. f x.kid ++ pair_of y.item ∷ []) e
  before-thinned_next f (x ∷ t ∷ ts) last (suc j) s is =
      ap (λ l. f x.kid ++ pair_of x.item ∷ l) (before-thinned_next f (t ∷ ts) last j s is) ∙ regroup (f x.kid) (pair_of x.item) (before f (thinned (t ∷ ts) j) j) (f (kid_of (t ∷ ts) last j)) (pair_of s.item)
    where
      regroup : (a : List (ℕ × M)) (p : ℕ × M) (b c : List (ℕ × M)) (q : ℕ × M) → a ++ p ∷ (b ++ c ++ q ∷ []) ≡ (a ++ p ∷ b) ++ c ++ q ∷ []
      regroup a p b c q = simp append_assoc

  pub behind-thinned_next : (f : ℕ → List (ℕ × M)) (slots : List (Slot M)) (last j : ℕ) (s : Slot M) → slice_get slots j ≡ Some s → behind f slots last (suc j) ≡ behind f (thinned slots j) (thinned_last slots last j) j
  behind-thinned_next f [] last j s is = cc
  behind-thinned_next f (x ∷ []) last zero s is = refl
  behind-thinned_next f (x ∷ []) last (suc j) s is = cc
  behind-thinned_next f (x ∷ t ∷ ts) last zero s is = refl
  behind-thinned_next f (x ∷ t ∷ ts) last (suc j) s is = behind-thinned_next f (t ∷ ts) last j s is

  pub others-thinned_next : (f : ℕ → ℕ) (slots : List (Slot M)) (last j : ℕ) (s : Slot M) → slice_get slots j ≡ Some s → others f slots last (suc j) ≡ f (kid_of slots last j) + others f (thinned slots j) (thinned_last slots last j) j
  others-thinned_next f [] last j s is = cc
  others-thinned_next f (x ∷ []) last zero s is = refl
  others-thinned_next f (x ∷ []) last (suc j) s is = cc
  others-thinned_next f (x ∷ t ∷ ts) last zero s is = refl
  others-thinned_next f (x ∷ t ∷ ts) last (suc j) s is = let e = others-thinned_next f (t ∷ ts) last j s is in omega arith

  pub kids-thinned_next : (P : Bool → Bool → ℕ → Type 0) (l r : Bool) (slots : List (Slot M)) (last j : ℕ) (s : Slot M) → slice_get slots j ≡ Some s → OthersAt P l r slots last (suc j) → P (left_of l slots j) false (kid_of slots last j) × OthersAt P l r (thinned slots j) (thinned_last slots last j) j
  kids-thinned_next P l r [] last j s is o = cc
  kids-thinned_next P l r (x ∷ []) last zero s is o = (o.0, tt)
  kids-thinned_next P l r (x ∷ []) last (suc j) s is o = cc
  kids-thinned_next P l r (x ∷ t ∷ ts) last zero s is o = o
  kids-thinned_next P l r (x ∷ t ∷ ts) last (suc j) s is o = let h = kids-thinned_next P false r (t ∷ ts) last j s is o.1 in (h.0, (o.0, h.1))

  pub left-next : (l : Bool) (slots : List (Slot M)) (j : ℕ) (s : Slot M) → slice_get slots j ≡ Some s → left_of l slots (suc j) ≡ false
  left-next l [] j s is = cc
  left-next l (x ∷ []) j s is = refl
  left-next l (x ∷ t ∷ ts) zero s is = refl
  left-next l (x ∷ t ∷ ts) (suc j) s is = left-next false (t ∷ ts) j s is

  pub right-thinned_next : (r : Bool) (slots : List (Slot M)) (j : ℕ) (s : Slot M) → slice_get slots j ≡ Some s → right_of r slots (suc j) ≡ right_of r (thinned slots j) j
  right-thinned_next r [] j s is = cc
  right-thinned_next r (x ∷ []) zero s is = refl
  right-thinned_next r (x ∷ []) (suc j) s is = cc
  right-thinned_next r (x ∷ t ∷ ts) zero s is = refl
  right-thinned_next r (x ∷ t ∷ ts) (suc j) s is = right-thinned_next r (t ∷ ts) j s is

  pub all-thinned : (P : Item M → Type 0) (slots : List (Slot M)) (j : ℕ) (s : Slot M) → slice_get slots j ≡ Some s → All (λ s. P s.item) slots → P s.item × All (λ s. P s.item) (thinned slots j)
  all-thinned P [] j s is a = cc
  all-thinned P (x ∷ []) zero s is a = let e : x ≡ s = cc in (subst (λ y. P y.item) e (All-head (λ s. P s.item) x [] a), All-nil (λ s. P s.item))
  all-thinned P (x ∷ []) (suc j) s is a = cc
  all-thinned P (x ∷ t ∷ ts) zero s is a =
      let e : x ≡ s = cc in
      let rest = All-tail (λ s. P s.item) x (t ∷ ts) a in
      (subst (λ y. P y.item) e (All-head (λ s. P s.item) x (t ∷ ts) a), All-cons (λ s. P s.item) (record { kid = x.kid; item = t.item }) ts (All-head (λ s. P s.item) t ts rest) (All-tail (λ s. P s.item) t ts rest))
  all-thinned P (x ∷ t ∷ ts) (suc j) s is a =
      let h = all-thinned P (t ∷ ts) j s is (All-tail (λ s. P s.item) x (t ∷ ts) a) in
      (h.0, All-cons (λ s. P s.item) x (thinned (t ∷ ts) j) (All-head (λ s. P s.item) x (t ∷ ts) a) h.1)

  pub length-thinned : (slots : List (Slot M)) (j : ℕ) (s : Slot M) → slice_get slots j ≡ Some s → length (thinned slots j) + 1 ≡ length slots
  length-thinned [] j s is = cc
  length-thinned (x ∷ []) zero s is = omega arith
  length-thinned (x ∷ []) (suc j) s is = cc
  length-thinned (x ∷ t ∷ ts) zero s is = omega arith
  length-thinned (x ∷ t ∷ ts) (suc j) s is = let e = length-thinned (t ∷ ts) j s is in omega arith

  -- another item at a place
  pub woven-with_item : (f : ℕ → List (ℕ × M)) (slots : List (Slot M)) (last i : ℕ) (s : Slot M) (item : Item M) → slice_get slots i ≡ Some s → (front : List (ℕ × M)) × (back : List (ℕ × M)) × (woven f slots last ≡ front ++ pair_of s.item ∷ back) × (woven f (with_item slots i item) last ≡ front ++ pair_of item ∷ back)
  woven-with_item f [] last i s item is = cc
  woven-with_item f (x ∷ xs) last zero s item is = let e : x ≡ s = cc in (f x.kid, woven f xs last, ap (λ y. f x.kid ++ pair_of y.item ∷ woven f xs last) e, refl)
  woven-with_item f (x ∷ xs) last (suc i) s item is =
      let h = woven-with_item f xs last i s item is in
      (f x.kid ++ pair_of x.item ∷ h.0, h.1, ap (λ l. f x.kid ++ pair_of x.item ∷ l) h.2 ∙ sym (append_assoc (f x.kid) (pair_of x.item ∷ h.0) (pair_of s.item ∷ h.1)), ap (λ l. f x.kid ++ pair_of x.item ∷ l) h.3 ∙ sym (append_assoc (f x.kid) (pair_of x.item ∷ h.0) (pair_of item ∷ h.1)))

  pub tally-with_item : (f : ℕ → ℕ) (slots : List (Slot M)) (last i : ℕ) (item : Item M) → tally f (with_item slots i item) last ≡ tally f slots last
  tally-with_item f [] last i item = refl
  tally-with_item f (x ∷ xs) last zero item = refl
  tally-with_item f (x ∷ xs) last (suc i) item = ap (λ n. f x.kid + n) (tally-with_item f xs last i item)

  pub kids-with_item : (P : Bool → Bool → ℕ → Type 0) (l r : Bool) (slots : List (Slot M)) (last i : ℕ) (item : Item M) → KidsAt P l r slots last → KidsAt P l r (with_item slots i item) last
  kids-with_item P l r [] last i item k = k
  kids-with_item P l r (x ∷ xs) last zero item k = k
  kids-with_item P l r (x ∷ xs) last (suc i) item k = (k.0, kids-with_item P false r xs last i item k.1)

  pub all-with_item : (P : Item M → Type 0) (slots : List (Slot M)) (i : ℕ) (item : Item M) → P item → All (λ s. P s.item) slots → All (λ s. P s.item) (with_item slots i item)
  all-with_item P [] i item p a = a
  all-with_item P (x ∷ xs) zero item p a = All-cons (λ s. P s.item) (record { kid = x.kid; item = item }) xs p (All-tail (λ s. P s.item) x xs a)
  all-with_item P (x ∷ xs) (suc i) item p a =
      All-cons (λ s. P s.item) x (with_item xs i item) (All-head (λ s. P s.item) x xs a) (all-with_item P xs i item p (All-tail (λ s. P s.item) x xs a))

  pub length-with_item : (slots : List (Slot M)) (i : ℕ) (item : Item M) → length (with_item slots i item) ≡ length slots
  length-with_item [] i item = refl
  length-with_item (x ∷ xs) zero item = refl
  length-with_item (x ∷ xs) (suc i) item = let e = length-with_item xs i item in omega arith
