-- The right edge of a tree: its nodes, their parents, and what stands before them.
use Rattle.std.proofs.Common.{◌≡◌, ◌≤◌, ◌<◌, ◌+◌, ◌-◌, ◌++◌, ℕ, zero, suc, Bool, true, false, List, [], ◌∷◌, Option, None, Some, length, refl, sym, ap, subst, ◌∙◌, arith, append_assoc}
use Rattle.std.specs.Prelude.{slice_get}
use Rattle.std.specs.List.{All}
use Rattle.std.proofs.lemmas.List.Elements.{All-head, All-tail, All-cons, All-nil}
use Rattle.fiba_nodes.specs.declared.slot.Slot.{Slot}
use Rattle.fiba_nodes.specs.declared.change.Change.{Change}
use Rattle.fiba_nodes.specs.Rows.{Plain}
use Rattle.fiba_nodes.specs.Stores.{Store}
use Rattle.fiba_nodes.specs.Trees.{HasUp, IsAt, IsLinked, KidsAt, Look, pair_of, pairs_at, plain, ups, vacancy}
use Rattle.fiba_nodes.specs.Kids.{before, behind, kid_of, left_of, right_of}
use Rattle.fiba_nodes.specs.Changes.{IsRank, stands_before}
use Rattle.fiba_nodes.proofs.Sound.{node_of, pairs_of, there}
use Rattle.fiba_nodes.proofs.Kids.{kids-around, woven-around}
use Rattle.fiba_nodes.proofs.Lists.{append_none}
use Rattle.fiba_nodes.proofs.Links.{last_at}
use Rattle.fiba_nodes.proofs.Changing.{before_item}
use Rattle.fiba_finger.specs.Edges.{ahead, edge}

-- whether a node so many levels below is on the left edge
abbrev pub left_at : Bool → ℕ → Bool
left_at left zero = left
left_at left (suc d) = false

pub left_same : (d : ℕ) → left_at false d ≡ false
left_same zero = refl
left_same (suc d) = refl

pub some_node : {M : Type 0} (o : Option (Plain M)) → vacancy o ≡ 0 → (n : Plain M) × (o ≡ Some n)
some_node None e = absurd (omega arith)
some_node (Some n) e = (n, refl)

pub all_first : {X : Type 0} (P : X → Type 0) (xs ys : List X) → All P (xs ++ ys) → All P xs
all_first P [] ys h = All-nil P
all_first P (x ∷ xs) ys h = All-cons P x xs (All-head P x (xs ++ ys) h) (all_first P xs ys (All-tail P x (xs ++ ys) h))

pub all_second : {X : Type 0} (P : X → Type 0) (xs ys : List X) → All P (xs ++ ys) → All P ys
all_second P [] ys h = h
all_second P (x ∷ xs) ys h = all_second P xs ys (All-tail P x (xs ++ ys) h)

module _ {M : Type 0} where
  -- the child behind the last item
  pub kid_of_end : (slots : List (Slot M)) (last : ℕ) → kid_of slots last (length slots) ≡ last
  kid_of_end [] last = refl
  kid_of_end (s ∷ ss) last = kid_of_end ss last

  pub right_of_end : (r : Bool) (slots : List (Slot M)) → right_of r slots (length slots) ≡ r
  right_of_end r [] = refl
  right_of_end r (s ∷ ss) = right_of_end r ss

  left_of_false : (slots : List (Slot M)) (i : ℕ) → left_of false slots i ≡ false
  left_of_false [] i = refl
  left_of_false (s ∷ ss) zero = refl
  left_of_false (s ∷ ss) (suc i) = left_of_false ss i

  pub left_of_end : (l : Bool) (slots : List (Slot M)) → 1 ≤ length slots → left_of l slots (length slots) ≡ false
  left_of_end l [] some = absurd (omega arith)
  left_of_end l (s ∷ ss) some = left_of_false ss (length ss)

  pub behind_end : (f : ℕ → List (ℕ × M)) (slots : List (Slot M)) (last : ℕ) → behind f slots last (length slots) ≡ []
  behind_end f [] last = refl
  behind_end f (s ∷ ss) last = behind_end f ss last

  -- all that stands before the last child has a property, so each item has
  before_item_all : (P : ℕ × M → Type 0) (f : ℕ → List (ℕ × M)) (slots : List (Slot M)) (j : ℕ) (s : Slot M) → slice_get slots j ≡ Some s → All P (before f slots (length slots)) → P (pair_of s.item)
  before_item_all P f [] j s is a = cc
  before_item_all P f (x ∷ xs) zero s is a =
      let e : x ≡ s = cc in
      subst (λ y. P (pair_of y.item)) e (All-head P (pair_of x.item) (before f xs (length xs)) (all_second P (f x.kid) (pair_of x.item ∷ before f xs (length xs)) a))
  before_item_all P f (x ∷ xs) (suc j) s is a =
      before_item_all P f xs j s is (All-tail P (pair_of x.item) (before f xs (length xs)) (all_second P (f x.kid) (pair_of x.item ∷ before f xs (length xs)) a))

  pub past_end : (slots : List (Slot M)) (s : Slot M) → slice_get slots (length slots) ≡ Some s → ⊥
  past_end [] s is = cc
  past_end (x ∷ xs) s is = past_end xs s is

  -- the place of a change is behind all items
  pub rank_end : (change : Change M) (f : ℕ → List (ℕ × M)) (slots : List (Slot M)) → All (λ p. stands_before change p.0 ≡ true) (before f slots (length slots)) → IsRank change slots (length slots)
  rank_end change f slots a = record {
    within = omega arith;
    low = λ j s lt is. before_item_all (λ p. stands_before change p.0 ≡ true) f slots j s is a;
    high = λ s is. absurd (past_end slots s is);
  }

module _ {M : Type 0} (look : Look M) where
  pub edge_suc : (d at : ℕ) (n : Plain M) → look at ≡ Some n → edge look (suc d) at ≡ edge look d n.last
  unfolding edge
  edge_suc d at n is = rw is refl

  pub edge_zero : (at : ℕ) → edge look 0 at ≡ at
  unfolding edge
  edge_zero at = refl

  pub ahead_suc : (h d at : ℕ) (n : Plain M) → look at ≡ Some n → ahead look (suc h) (suc d) at ≡ before (pairs_at look h) n.slots (length n.slots) ++ ahead look h d n.last
  unfolding ahead
  ahead_suc h d at n is = rw is refl

  pub ahead_zero : (h at : ℕ) → ahead look h 0 at ≡ []
  unfolding ahead
  ahead_zero h at = refl

  pub edge_last : (d at : ℕ) → d ≡ 0 → at ≡ edge look d at
  edge_last zero at e = sym (edge_zero at)
  edge_last (suc d) at e = absurd (omega arith)

  edge_none : (d at : ℕ) → look at ≡ None → edge look (suc d) at ≡ at
  unfolding edge
  edge_none d at is = rw is refl

  edge_from : (d at : ℕ) (n : Plain M) (o : Option (Plain M)) → ((at : ℕ) → look (edge look d at) ≡ Some n → edge look (suc d) at ≡ n.last) → look at ≡ o → look (edge look (suc d) at) ≡ Some n → edge look (suc (suc d)) at ≡ n.last
  edge_from d at n None more none is = let e : look at ≡ Some n = subst (λ k. look k ≡ Some n) (edge_none d at none) is in cc
  edge_from d at n (Some m) more some is = edge_suc (suc d) at m some ∙ more m.last (subst (λ k. look k ≡ Some n) (edge_suc d at m some) is)

  -- where the last child of a node on the edge is, the edge goes on
  pub edge_more : (d at : ℕ) (n : Plain M) → look (edge look d at) ≡ Some n → edge look (suc d) at ≡ n.last
  edge_more zero at n is = edge_suc 0 at n (subst (λ k. look k ≡ Some n) (edge_zero at) is) ∙ edge_zero n.last
  edge_more (suc d) at n is = edge_from d at n (look at) (λ a. edge_more d a n) refl is

  edge_two : (b d c at : ℕ) (o : Option (Plain M)) → ((at : ℕ) → edge look b at ≡ edge look c (edge look d at)) → look at ≡ o → edge look (suc b) at ≡ edge look c (edge look (suc d) at)
  edge_two b d zero at None more none = edge_none b at none ∙ sym (edge_none d at none) ∙ sym (edge_zero (edge look (suc d) at))
  edge_two b d (suc c) at None more none =
      edge_none b at none ∙ sym (ap (edge look (suc c)) (edge_none d at none) ∙ edge_none c at none)
  edge_two b d c at (Some n) more some =
      edge_suc b at n some ∙ more n.last ∙ ap (edge look c) (sym (edge_suc d at n some))

  -- the edge in two parts
  pub edge_parts : (b d c at : ℕ) → b ≡ d + c → edge look b at ≡ edge look c (edge look d at)
  edge_parts b zero c at e = let q : b ≡ c = omega arith in ap (λ k. edge look k at) q ∙ ap (edge look c) (sym (edge_zero at))
  edge_parts zero (suc d) c at e = absurd (omega arith)
  edge_parts (suc b) (suc d) c at e = edge_two b d c at (look at) (λ a. edge_parts b d c a (omega arith)) refl

-- the parent of each node on the edge is the one above it
module _ {M : Type 0} (s : Store M) where
  last_up : (h at : ℕ) (o : Option (Plain M)) → plain s at ≡ o → IsLinked s (suc (suc h)) at → (n : Plain M) × (plain s at ≡ Some n) × (ups s n.last ≡ Some (Some at)) × IsLinked s (suc h) n.last
  unfolding IsLinked
  last_up h at None is k = absurd (rw is at k)
  last_up h at (Some n) is k =
      let kids : KidsAt (λ _ _ j. HasUp s (suc h) at j × IsLinked s (suc h) j) false false n.slots n.last = rw is at k in
      let both = last_at (λ _ _ j. HasUp s (suc h) at j × IsLinked s (suc h) j) (λ j. HasUp s (suc h) at j × IsLinked s (suc h) j) (λ l r j q. q) false false n.slots n.last kids in
      (n, is, both.0, both.1)

  pub edge_up : (h d at : ℕ) → suc d < h → IsLinked s h at → ups s (edge (plain s) (suc d) at) ≡ Some (Some (edge (plain s) d at))
  edge_up zero d at lt k = absurd (omega arith)
  edge_up (suc zero) d at lt k = absurd (omega arith)
  edge_up (suc (suc h)) zero at lt k =
      let q = last_up h at (plain s at) refl k in
      let e : edge (plain s) 1 at ≡ q.0.last = edge_suc (plain s) 0 at q.0 q.1 ∙ edge_zero (plain s) q.0.last in
      rw (e, edge_zero (plain s) at) q.2
  edge_up (suc (suc h)) (suc d) at lt k =
      let q = last_up h at (plain s at) refl k in
      let up = edge_up (suc h) d q.0.last (omega arith) q.3 in
      rw (edge_suc (plain s) (suc d) at q.0 q.1, edge_suc (plain s) d at q.0 q.1) up

  pub edge_linked : (h d at g : ℕ) → h ≡ d + g → 1 ≤ g → IsLinked s h at → IsLinked s g (edge (plain s) d at)
  edge_linked h zero at g e some k = rw (edge_zero (plain s) at) (subst (λ n. IsLinked s n at) (omega arith) k)
  edge_linked zero (suc d) at g e some k = absurd (omega arith)
  edge_linked (suc zero) (suc d) at g e some k = absurd (omega arith)
  edge_linked (suc (suc h)) (suc d) at g e some k =
      let q = last_up h at (plain s at) refl k in
      rw (edge_suc (plain s) d at q.0 q.1) (edge_linked (suc h) d q.0.last g (omega arith) some q.3)

module _ {M : Type 0} (IsValue : M → Type 0) (empty : M) (op : M → M → M) (look : Look M) where
  -- a node, and its last child
  pub record Opens (h : ℕ) (l : Bool) (at : ℕ) (n : Plain M) : Type 0 where
    pub is : look at ≡ Some n
    pub some : 1 ≤ length n.slots
    pub kid : IsAt IsValue empty op look h false true n.last
    pub pairs : pairs_at look (suc h) at ≡ before (pairs_at look h) n.slots (length n.slots) ++ pairs_at look h n.last

  pub opens : (h : ℕ) (l : Bool) (at : ℕ) → IsAt IsValue empty op look (suc h) l true at → (n : Plain M) × Opens h l at n
  opens h l at k =
      let q = some_node (look at) (there IsValue empty op look h l true at k) in
      let n = q.0 in
      let node = node_of IsValue empty op look h l true at n q.1 k in
      let kid = (kids-around (λ l r k. IsAt IsValue empty op look h l r k) l true n.slots n.last (length n.slots) node.kids).1 in
      let at_end : IsAt IsValue empty op look h (left_of l n.slots (length n.slots)) (right_of true n.slots (length n.slots)) n.last = subst (λ j. IsAt IsValue empty op look h (left_of l n.slots (length n.slots)) (right_of true n.slots (length n.slots)) j) (kid_of_end n.slots n.last) kid in
      let on_right : IsAt IsValue empty op look h (left_of l n.slots (length n.slots)) true n.last = subst (λ b. IsAt IsValue empty op look h (left_of l n.slots (length n.slots)) b n.last) (right_of_end true n.slots) at_end in (
        n,
        record {
          is = q.1;
          some = node.some;
          kid = subst (λ b. IsAt IsValue empty op look h b true n.last) (left_of_end l n.slots node.some) on_right;
          pairs = pairs_of IsValue empty op look h l true at n q.1 ∙ woven-around (pairs_at look h) n.slots n.last (length n.slots) ∙ ap (λ k. before (pairs_at look h) n.slots (length n.slots) ++ pairs_at look h k ++ behind (pairs_at look h) n.slots n.last (length n.slots)) (kid_of_end n.slots n.last) ∙ ap (λ ps. (before (pairs_at look h) n.slots (length n.slots) ++ pairs_at look h n.last) ++ ps) (behind_end (pairs_at look h) n.slots n.last) ∙ append_none (before (pairs_at look h) n.slots (length n.slots) ++ pairs_at look h n.last);
        },
      )

  pub kid_sound : (h : ℕ) (l : Bool) (at : ℕ) (n : Plain M) → look at ≡ Some n → IsAt IsValue empty op look (suc h) l true at → IsAt IsValue empty op look h false true n.last
  kid_sound h l at n is k =
      let q = opens h l at k in
      let same : q.0 ≡ n = let e : Some q.0 ≡ Some n = sym q.1.is ∙ is in cc in
      subst (λ m. IsAt IsValue empty op look h false true m.last) same q.1.kid

  -- a node on the edge is sound at its place
  pub edge_sound : (h d at g : ℕ) (l : Bool) → h ≡ d + g → IsAt IsValue empty op look h l true at → IsAt IsValue empty op look g (left_at l d) true (edge look d at)
  edge_sound h zero at g l e k = rw (edge_zero look at) (subst (λ n. IsAt IsValue empty op look n l true at) (omega arith) k)
  edge_sound zero (suc d) at g l e k = absurd (omega arith)
  edge_sound (suc h) (suc d) at g l e k =
      let q = opens h l at k in
      let kid = subst (λ b. IsAt IsValue empty op look g b true (edge look d q.0.last)) (left_same d) (edge_sound h d q.0.last g false (omega arith) q.1.kid) in
      rw (edge_suc look d at q.0 q.1.is) kid

  -- a tree's pairs are those ahead of a node on the edge, and that node's
  pub edge_pairs : (h d at g : ℕ) (l : Bool) → h ≡ d + g → IsAt IsValue empty op look h l true at → pairs_at look h at ≡ ahead look h d at ++ pairs_at look g (edge look d at)
  edge_pairs h zero at g l e k = let q : h ≡ g = omega arith in rw (ahead_zero look h at, edge_zero look at) (ap (λ n. pairs_at look n at) q)
  edge_pairs zero (suc d) at g l e k = absurd (omega arith)
  edge_pairs (suc h) (suc d) at g l e k =
      let q = opens h l at k in
      let n = q.0 in
      q.1.pairs ∙ ap (λ ps. before (pairs_at look h) n.slots (length n.slots) ++ ps) (edge_pairs h d n.last g false (omega arith) q.1.kid) ∙ sym (append_assoc (before (pairs_at look h) n.slots (length n.slots)) (ahead look h d n.last) (pairs_at look g (edge look d n.last))) ∙ rw (edge_suc look d at n q.1.is, ahead_suc look h d at n q.1.is) refl

  -- what is ahead of the last child of a node on the edge ends with that node's last item
  pub ahead_last : (h d at g : ℕ) (l : Bool) (n : Plain M) (s : Slot M) → h ≡ suc d + g → IsAt IsValue empty op look h l true at → look (edge look d at) ≡ Some n → slice_get n.slots (length n.slots - 1) ≡ Some s → 1 ≤ length n.slots → (front : List (ℕ × M)) × (ahead look h (suc d) at ≡ front ++ pair_of s.item ∷ [])
  ahead_last zero d at g l n s e k is stands some = absurd (omega arith)
  ahead_last (suc h) zero at g l n s e k is stands some =
      let here : look at ≡ Some n = subst (λ k. look k ≡ Some n) (edge_zero look at) is in
      let b = before_item (pairs_at look h) n.slots (length n.slots - 1) s s.item stands in
      let up : suc (length n.slots - 1) ≡ length n.slots = omega arith in
      (b.0, ahead_suc look h 0 at n here ∙ ap (λ ps. before (pairs_at look h) n.slots (length n.slots) ++ ps) (ahead_zero look h n.last) ∙ append_none (before (pairs_at look h) n.slots (length n.slots)) ∙ ap (λ i. before (pairs_at look h) n.slots i) (sym up) ∙ b.1)
  ahead_last (suc h) (suc d) at g l n s e k is stands some =
      let q = opens h l at k in
      let m = q.0 in
      let below = ahead_last h d m.last g false n s (omega arith) q.1.kid (subst (λ k. look k ≡ Some n) (edge_suc look d at m q.1.is) is) stands some in
      (before (pairs_at look h) m.slots (length m.slots) ++ below.0, ahead_suc look h (suc d) at m q.1.is ∙ ap (λ ps. before (pairs_at look h) m.slots (length m.slots) ++ ps) below.1 ∙ sym (append_assoc (before (pairs_at look h) m.slots (length m.slots)) below.0 (pair_of s.item ∷ [])))
