-- One level of a climb along the right edge.
use Rattle.std.proofs.Common.{◌≡◌, ◌≤◌, ◌<◌, ◌+◌, ◌-◌, ◌^◌, ◌++◌, ℕ, zero, suc, Bool, true, List, [], ◌∷◌, Some, length, sym, ap, subst, ◌∙◌, arith, append_assoc}
use Rattle.std.specs.Prelude.{nat_lt, slice_get}
use Rattle.std.specs.List.{All}
use Rattle.std.specs.Option.{option_map}
use Rattle.std.proofs.lemmas.List.Elements.{All-nil, All-weaker}
use Rattle.std.proofs.lemmas.Bool.Decides.{nat_tests}
use Rattle.agg_laws.specs.Pairs.{AreRising, distance, has_key}
use Rattle.agg_laws.proofs.Distances.{distance-end}
use Rattle.agg_laws.proofs.RisingPairs.{rising_above, rising_first, rising_second}
use Rattle.fiba_nodes.specs.declared.root.Root.{Root}
use Rattle.fiba_nodes.specs.declared.slot.Slot.{Slot}
use Rattle.fiba_nodes.specs.declared.node.Node.{Node}
use Rattle.fiba_nodes.specs.Rows.{plain_node, slots_of}
use Rattle.fiba_nodes.specs.Stores.{Store, look}
use Rattle.fiba_nodes.specs.Trees.{IsAt, Look, pair_of, pairs_at, plain, ups}
use Rattle.fiba_nodes.specs.Places.{EndsIn}
use Rattle.fiba_nodes.specs.Roots.{IsTree}
use Rattle.fiba_nodes.specs.Arena.{pairs_in}
use Rattle.fiba_nodes.proofs.Tops.{all_under, tall}
use Rattle.fiba_finger.specs.Edges.{ahead, edge}
use Rattle.fiba_finger.specs.Climbs.{IsClimbed, IsReached}
use Rattle.fiba_finger.proofs.Edges.{ahead_last, ahead_zero, edge_pairs, edge_sound, edge_up, left_at}

module _ {M : Type 0} where
  ends_with : (test : ℕ → Bool) (xs : List (ℕ × M)) (p : ℕ × M) → test p.0 ≡ true → EndsIn test (xs ++ p ∷ [])
  ends_with test [] p t = t
  ends_with test (x ∷ []) p t = t
  ends_with test (x ∷ y ∷ xs) p t = ends_with test (y ∷ xs) p t

  -- a tree in which some pair has a key has a level
  pub some_level : (look : Look M) (h at key : ℕ) → has_key key (pairs_at look h at) ≡ true → 1 ≤ h
  unfolding pairs_at
  some_level look zero at key e = absurd cc
  some_level look (suc h) at key e = omega arith

module _ {M : Type 0} (IsValue : M → Type 0) (empty : M) (op : M → M → M) (s : Store M) (root : Root) (key at below : ℕ) (tree : IsTree IsValue empty op s root true true) (rising : AreRising (pairs_in s root)) (r : IsReached s root key at below) where
  pub here : IsAt IsValue empty op (plain s) (suc below) (left_at true (root.height - 1 - below)) true at
  here =
      let w = r.edge.within in
      subst (λ k. IsAt IsValue empty op (plain s) (suc below) (left_at true (root.height - 1 - below)) true k) r.edge.stands (edge_sound IsValue empty op (plain s) root.height (root.height - 1 - below) root.at (suc below) true (omega arith) tree.sound)

  pub climbed_root : below + 1 ≡ root.height → IsClimbed s root key at below
  climbed_root e =
      let z : root.height - 1 - below ≡ 0 = omega arith in
      record { reached = r; lower = rw (z, ahead_zero (plain s) root.height root.at) (All-nil (λ p. p.0 < key)) }

  pub parent_of : ℕ
  parent_of = edge (plain s) (root.height - 1 - (below + 1)) root.at

  module _ (inner : below + 1 < root.height) where
    next : root.height - 1 - below ≡ suc (root.height - 1 - (below + 1))
    next = omega arith

    pub up_of : (node : Node M) → look s at ≡ Some node → node.up ≡ Some parent_of
    unfolding parent_of
    up_of node found =
        let stands : edge (plain s) (suc (root.height - 1 - (below + 1))) root.at ≡ at = ap (λ d. edge (plain s) d root.at) (sym next) ∙ r.edge.stands in
        let up = edge_up s root.height (root.height - 1 - (below + 1)) root.at (omega arith) tree.linked in
        let e : Some node.up ≡ Some (Some (edge (plain s) (root.height - 1 - (below + 1)) root.at)) = sym (ap (option_map (λ n. n.up)) found) ∙ ap (ups s) (sym stands) ∙ up in
        cc

    pub parent_here : IsAt IsValue empty op (plain s) (suc (below + 1)) (left_at true (root.height - 1 - (below + 1))) true parent_of
    unfolding parent_of
    parent_here = edge_sound IsValue empty op (plain s) root.height (root.height - 1 - (below + 1)) root.at (suc (below + 1)) true (omega arith) tree.sound

    module _ (parent : ℕ) (is_parent : parent ≡ parent_of) (node : Node M) (found : look s parent ≡ Some node) (slots : List (Slot M)) (last : ℕ) (are : slots ≡ slots_of node) (i : ℕ) (at_end : i ≡ length slots - 1) (some : 1 ≤ length slots) (slot : Slot M) (stands : slice_get slots i ≡ Some slot) where
      split : (front : List (ℕ × M)) × (ahead (plain s) root.height (root.height - 1 - below) root.at ≡ front ++ pair_of slot.item ∷ []) × (pairs_in s root ≡ (front ++ pair_of slot.item ∷ []) ++ pairs_at (plain s) (suc below) at)
      unfolding parent_of
      split =
          let d = root.height - 1 - (below + 1) in
          let is : plain s (edge (plain s) d root.at) ≡ Some (plain_node node) = ap (plain s) (sym is_parent) ∙ ap (option_map plain_node) found in
          let ends : slice_get (slots_of node) (length (slots_of node) - 1) ≡ Some slot = subst (λ xs. slice_get xs (length xs - 1) ≡ Some slot) are (subst (λ k. slice_get slots k ≡ Some slot) at_end stands) in
          let few : 1 ≤ length (slots_of node) = subst (λ xs. 1 ≤ length xs) are some in
          let a = ahead_last IsValue empty op (plain s) root.height d root.at (suc below) true (plain_node node) slot (omega arith) tree.sound is ends few in
          let q : ahead (plain s) root.height (root.height - 1 - below) root.at ≡ a.0 ++ pair_of slot.item ∷ [] = ap (λ k. ahead (plain s) root.height k root.at) next ∙ a.1 in
          let p = edge_pairs IsValue empty op (plain s) root.height (root.height - 1 - below) root.at (suc below) true (omega arith) tree.sound in
          (a.0, q, p ∙ ap (λ ps. ps ++ pairs_at (plain s) (suc below) (edge (plain s) (root.height - 1 - below) root.at)) q ∙ ap (λ k. (a.0 ++ pair_of slot.item ∷ []) ++ pairs_at (plain s) (suc below) k) r.edge.stands)

      pub climbed_below : slot.item.key < key → IsClimbed s root key at below
      climbed_below lt =
          let q = split in
          let front = q.0 ++ pair_of slot.item ∷ [] in
          let up : AreRising front = rising_first front (pairs_at (plain s) (suc below) at) (subst AreRising q.2 rising) in
          let test : nat_lt slot.item.key key ≡ true = grind (arith, nat_tests) in
          record { reached = r; lower = subst (λ ps. All (λ p. p.0 < key) ps) (sym q.1) (all_under key front up (ends_with (λ k. nat_lt k key) q.0 (pair_of slot.item) test)) }

      pub reached_parent : key ≤ slot.item.key → IsReached s root key parent (below + 1)
      unfolding parent_of
      reached_parent le =
          let q = split in
          let p = pair_of slot.item in
          let rest = pairs_at (plain s) (suc below) at in
          let parts : pairs_in s root ≡ q.0 ++ p ∷ rest = q.2 ∙ append_assoc q.0 (p ∷ []) rest in
          let up : AreRising (p ∷ rest) = rising_second q.0 (p ∷ rest) (subst AreRising parts rising) in
          let many : length rest ≤ distance key (pairs_in s root) = subst (λ ps. length rest ≤ distance key ps) (sym q.2) (distance-end key (q.0 ++ p ∷ []) rest (All-weaker (λ x. p.0 < x.0) (λ x. key < x.0) (λ x h. omega arith) rest (rising_above [] rest p up))) in
          let high = tall IsValue empty op (plain s) (suc below) (left_at true (root.height - 1 - below)) true at here in
          let same : 2 ^ (below + 1) ≡ 2 ^ suc below = ap (λ k. 2 ^ k) (omega arith) in
          record { edge = record { within = inner; stands = sym is_parent }; near = omega (arith, many, high, same) }
