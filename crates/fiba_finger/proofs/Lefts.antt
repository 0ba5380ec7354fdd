-- The left edge of a tree: what stands at its end, and where it stays.
use Rattle.std.proofs.Common.{◌≡◌, ◌≤◌, ◌+◌, ℕ, zero, suc, Bool, false, true, List, [], ◌∷◌, Option, None, Some, length, refl, sym, ap, ◌∙◌, arith}
use Rattle.std.specs.Prelude.{slice_get}
use Rattle.std.specs.Option.{option_map}
use Rattle.fiba_nodes.specs.declared.slot.Slot.{Slot}
use Rattle.fiba_nodes.specs.declared.node.Node.{Node}
use Rattle.fiba_nodes.specs.Rows.{Plain, plain_node, slots_of}
use Rattle.fiba_nodes.specs.Stores.{Store, look}
use Rattle.fiba_nodes.specs.Trees.{IsAt, Look, Owned, only, pair_of, pairs_at, plain, tally, times, vacancy, weigh}
use Rattle.fiba_nodes.specs.Kids.{kid_of}
use Rattle.fiba_nodes.proofs.Frames.{Keeps}
use Rattle.fiba_nodes.proofs.Linked.{root_counted}
use Rattle.fiba_nodes.proofs.Opened.{no_pairs}
use Rattle.fiba_nodes.proofs.Sound.{node_of, only_self, there}
use Rattle.fiba_nodes.proofs.Tops.{least_below, least_here, least_kid, pairs_eq}
use Rattle.fiba_finger.specs.Edges.{edge, left_edge}
use Rattle.fiba_finger.proofs.Edges.{edge_suc, edge_zero, opens, some_node}

module _ {M : Type 0} where
  tally_last : (f : ℕ → ℕ) (slots : List (Slot M)) (last : ℕ) → f last ≤ tally f slots last
  tally_last f [] last = omega arith
  tally_last f (s ∷ ss) last = let t = tally_last f ss last in omega arith

  tally_first : (f : ℕ → ℕ) (slots : List (Slot M)) (last : ℕ) → f (kid_of slots last 0) ≤ tally f slots last
  tally_first f [] last = omega arith
  tally_first f (s ∷ ss) last = omega arith

  tally_ends : (f : ℕ → ℕ) (slots : List (Slot M)) (last : ℕ) → 1 ≤ length slots → f (kid_of slots last 0) + f last ≤ tally f slots last
  tally_ends f [] last some = absurd (omega arith)
  tally_ends f (s ∷ ss) last some = let t = tally_last f ss last in omega arith

  first_slot : (slots : List (Slot M)) → 1 ≤ length slots → (s : Slot M) × (slice_get slots 0 ≡ Some s)
  first_slot [] some = absurd (omega arith)
  first_slot (s ∷ ss) some = (s, refl)

  pub first_kid : (slots : List (Slot M)) (last : ℕ) (s : Slot M) → slice_get slots 0 ≡ Some s → kid_of slots last 0 ≡ s.kid
  first_kid [] last s is = cc
  first_kid (x ∷ xs) last s is = let e : x ≡ s = cc in ap (λ y. y.kid) e

  weight : (look : Look M) (h at : ℕ) (n : Plain M) → look at ≡ Some n → (w : ℕ → ℕ) → weigh w look (suc h) at ≡ w at + tally (weigh w look h) n.slots n.last
  unfolding weigh
  weight look h at n is w = rw is refl

module _ {M : Type 0} (look : Look M) where
  left_zero : (at : ℕ) → left_edge look 0 at ≡ at
  unfolding left_edge
  left_zero at = refl

  pub left_suc : (d at : ℕ) (n : Plain M) → look at ≡ Some n → left_edge look (suc d) at ≡ left_edge look d (kid_of n.slots n.last 0)
  unfolding left_edge
  left_suc d at n is = rw is refl

  left_none : (d at : ℕ) → look at ≡ None → left_edge look (suc d) at ≡ at
  unfolding left_edge
  left_none d at is = rw is refl

  pub left_last : (d at : ℕ) → d ≡ 0 → at ≡ left_edge look d at
  left_last zero at e = sym (left_zero at)
  left_last (suc d) at e = absurd (omega arith)

module _ {M : Type 0} (old new : Look M) where
  left_node : (b at : ℕ) (o : Option (Plain M)) → ((at : ℕ) → Keeps old new (λ k. times k old (suc b) at) → left_edge new b at ≡ left_edge old b at) → old at ≡ o → new at ≡ o → Keeps old new (λ k. times k old (suc (suc b)) at) → left_edge new (suc b) at ≡ left_edge old (suc b) at
  left_node b at None more was is keeps = left_none new b at is ∙ sym (left_none old b at was)
  left_node b at (Some n) more was is keeps =
      left_suc new b at n is ∙ more (kid_of n.slots n.last 0) (λ k u. keeps k (let w = weight old (suc b) at n was (only k) in let t = tally_first (times k old (suc b)) n.slots n.last in omega arith)) ∙ sym (left_suc old b at n was)

  -- in a tree where nothing changes, the first leaf stays
  left_keeps : (b at : ℕ) → Keeps old new (λ k. times k old (suc b) at) → left_edge new b at ≡ left_edge old b at
  left_keeps zero at keeps = left_zero new at ∙ sym (left_zero old at)
  left_keeps (suc b) at keeps =
      let own : 1 ≤ times at old (suc (suc b)) at = let s = only_self at in let r = root_counted old (suc (suc b)) at at (omega arith) in omega arith in
      left_node b at (old at) (left_keeps b) refl (keeps at own) keeps

module _ {M : Type 0} (IsValue : M → Type 0) (empty : M) (op : M → M → M) where
  -- the tree of a node on the right edge is a part
  edge_times : (look : Look M) (h d at g : ℕ) (l : Bool) → h ≡ d + g → IsAt IsValue empty op look h l true at → (k : ℕ) → times k look g (edge look d at) ≤ times k look h at
  edge_times look h zero at g l e sound k =
      let same : g ≡ h = omega arith in
      let q : times k look g (edge look 0 at) ≡ times k look h at = ap (times k look g) (edge_zero look at) ∙ ap (λ n. times k look n at) same in
      omega arith
  edge_times look zero (suc d) at g l e sound k = absurd (omega arith)
  edge_times look (suc h) (suc d) at g l e sound k =
      let q = opens IsValue empty op look h l at sound in
      let n = q.0 in
      let below = edge_times look h d n.last g false (omega arith) q.1.kid k in
      let w = weight look h at n q.1.is (only k) in
      let t = tally_last (times k look h) n.slots n.last in
      let s : times k look g (edge look (suc d) at) ≡ times k look g (edge look d n.last) = ap (times k look g) (edge_suc look d at n q.1.is) in
      omega arith

  -- where only the tree of a node on the right edge changes, which isn't the root, the first leaf stays
  pub left_stays : (old new : Store M) (b d g at : ℕ) (l : Bool) → suc b ≡ d + g → IsAt IsValue empty op (plain old) (suc (suc b)) l true at → Owned (look old) (λ k. times k (plain old) (suc (suc b)) at) → ((k : ℕ) → times k (plain old) g (edge (plain old) (suc d) at) + vacancy (look old k) ≡ 0 → look new k ≡ look old k) → left_edge (plain new) (suc b) at ≡ left_edge (plain old) (suc b) at
  left_stays old new b d g at l e sound owned kept =
      let q = opens IsValue empty op (plain old) (suc b) l at sound in
      let n = q.0 in
      let first = kid_of n.slots n.last 0 in
      let w : (k : ℕ) → times k (plain old) (suc (suc b)) at ≡ only k at + tally (times k (plain old) (suc b)) n.slots n.last = λ k. weight (plain old) (suc b) at n q.1.is (only k) in
      let ends : (k : ℕ) → times k (plain old) (suc b) first + times k (plain old) (suc b) n.last ≤ tally (times k (plain old) (suc b)) n.slots n.last = λ k. tally_ends (times k (plain old) (suc b)) n.slots n.last q.1.some in
      let part : (k : ℕ) → times k (plain old) g (edge (plain old) (suc d) at) ≤ times k (plain old) (suc b) n.last = λ k.
      let t = edge_times (plain old) (suc b) d n.last g false e q.1.kid k in
      let s : times k (plain old) g (edge (plain old) (suc d) at) ≡ times k (plain old) g (edge (plain old) d n.last) = ap (times k (plain old) g) (edge_suc (plain old) d at n q.1.is) in
      omega arith in
      let own : look new at ≡ look old at = kept at (let o = owned at in let x = w at in let y = ends at in let z = part at in let s = only_self at in omega arith) in
      let is : plain new at ≡ Some n = ap (option_map plain_node) own ∙ q.1.is in
      let keeps : Keeps (plain old) (plain new) (λ k. times k (plain old) (suc b) first) = λ k u. ap (option_map plain_node) (kept k (let o = owned k in let x = w k in let y = ends k in let z = part k in omega arith)) in
      left_suc (plain new) b at n is ∙ left_keeps (plain old) (plain new) b first keeps ∙ sym (left_suc (plain old) b at n q.1.is)

-- the leaf's first item is that of the first pair
pub record IsLeast {M : Type 0} (look : Look M) (leaf : ℕ) (pairs : List (ℕ × M)) : Type 0 where
  pub node : Plain M
  pub is : look leaf ≡ Some node
  pub slot : Slot M
  pub stands : slice_get node.slots 0 ≡ Some slot
  pub least : slice_get pairs 0 ≡ Some (pair_of slot.item)

module _ {M : Type 0} (IsValue : M → Type 0) (empty : M) (op : M → M → M) (look : Look M) where
  pub left_least : (b : ℕ) (l r : Bool) (at : ℕ) → IsAt IsValue empty op look (suc b) l r at → IsLeast look (left_edge look b at) (pairs_at look (suc b) at)
  left_least zero l r at sound =
      let q = some_node (look at) (there IsValue empty op look 0 l r at sound) in
      let n = q.0 in
      let node = node_of IsValue empty op look 0 l r at n q.1 sound in
      let f = first_slot n.slots node.some in
      record {
        node = n;
        is = ap look (left_zero look at) ∙ q.1;
        slot = f.0;
        stands = f.1;
        least = pairs_eq IsValue empty op look 0 at n.slots n.last n.agg n.leaf q.1 (least_here (pairs_at look 0) n.slots n.last f.0 f.1 (no_pairs look 0 f.0.kid refl));
      }
  left_least (suc b) l r at sound =
      let q = some_node (look at) (there IsValue empty op look (suc b) l r at sound) in
      let n = q.0 in
      let node = node_of IsValue empty op look (suc b) l r at n q.1 sound in
      let f = first_slot n.slots node.some in
      let kid = least_kid (λ l r k. IsAt IsValue empty op look (suc b) l r k) l r n.slots n.last f.0 f.1 node.kids in
      let below = left_least b l false f.0.kid kid in
      record {
        node = below.node;
        is = ap look (left_suc look b at n q.1 ∙ ap (left_edge look b) (first_kid n.slots n.last f.0 f.1)) ∙ below.is;
        slot = below.slot;
        stands = below.stands;
        least = pairs_eq IsValue empty op look (suc b) at n.slots n.last n.agg n.leaf q.1 (least_below (pairs_at look (suc b)) n.slots n.last f.0 (pair_of below.slot.item) f.1 below.least);
      }

first_item_is : {M : Type 0} (node : Node M) (slot : Slot M) → slice_get (slots_of node) 0 ≡ Some slot → node.first ≡ slot.item
first_item_is node slot q = let o = ap (option_map (λ s. s.item)) q in cc

-- and so the first item of that node is
pub least_of : {M : Type 0} (s : Store M) (leaf : ℕ) (pairs : List (ℕ × M)) (node : Node M) → IsLeast (plain s) leaf pairs → look s leaf ≡ Some node → slice_get pairs 0 ≡ Some (pair_of node.first)
least_of s leaf pairs node i found =
    let same : Some (plain_node node) ≡ Some i.node = sym (ap (option_map plain_node) found) ∙ i.is in
    let e : plain_node node ≡ i.node = cc in
    let q : slice_get (plain_node node).slots 0 ≡ Some i.slot = ap (λ n. slice_get n.slots 0) e ∙ i.stands in
    let r : node.first ≡ i.slot.item = first_item_is node i.slot q in
    i.least ∙ ap (λ x. Some (pair_of x)) (sym r)
