-- Nodes on the right edge are opened and closed again, one above the other.
use Rattle.std.proofs.Common.{◌≡◌, ◌≤◌, ◌<◌, ◌==◌, ◌+◌, ◌-◌, ◌++◌, ℕ, zero, suc, Bool, true, false, List, Option, Some, length, refl, sym, ap, subst, ◌∙◌, arith, inl, inr}
use Rattle.std.specs.List.{All}
use Rattle.std.specs.Option.{option_map}
use Rattle.std.proofs.lemmas.Bool.{cases_eq}
use Rattle.std.proofs.lemmas.Bool.Decides.{nat_tests}
use Rattle.std.proofs.lemmas.List.Elements.{All-append, All-nil}
use Rattle.fiba_nodes.specs.declared.root.Root.{Root}
use Rattle.fiba_nodes.specs.declared.slot.Slot.{Slot}
use Rattle.fiba_nodes.specs.declared.node.Node.{Node}
use Rattle.fiba_nodes.specs.declared.item.Item.{Item}
use Rattle.fiba_nodes.specs.declared.change.Change.{Change}
use Rattle.fiba_nodes.specs.Rows.{Plain, last_of, plain_node, slots_of}
use Rattle.fiba_nodes.specs.Stores.{Store, full_nodes, fullness, held, look}
use Rattle.fiba_nodes.specs.Trees.{IsAt, IsOpened, IsWritten, Look, Moves, Owned, only, pairs_at, plain, row_times, size, times, ups, woven}
use Rattle.fiba_nodes.specs.Kids.{before, kid_of, left_of, right_of}
use Rattle.fiba_nodes.specs.Nested.{IsNested, IsSettled}
use Rattle.fiba_nodes.specs.Changes.{Applies, CanApply, IsApplied, IsPaid, stands_before}
use Rattle.fiba_nodes.specs.Roots.{CanChange, IsChanged, IsPlanted}
use Rattle.fiba_nodes.proofs.Sound.{moves-then, only_self, weight_of}
use Rattle.fiba_nodes.proofs.Fullness.{held_few, held_is, held_some}
use Rattle.fiba_nodes.proofs.Opened.{is_there}
use Rattle.fiba_nodes.proofs.Paying.{paid_below}
use Rattle.fiba_nodes.proofs.Nesting.{few_slots}
use Rattle.fiba_nodes.proofs.Kids.{tally-around}
use Rattle.fiba_nodes.proofs.Below.{descended, kid_nested, kid_room}
use Rattle.fiba_nodes.proofs.Planting.{applied_room}
use Rattle.fiba_finger.specs.Edges.{ahead, edge, left_edge}
use Rattle.fiba_finger.specs.Climbs.{CanRaise, IsRaised}
use Rattle.fiba_finger.proofs.Edges.{Opens, ahead_suc, ahead_zero, all_first, all_second, edge_more, edge_suc, edge_up, edge_zero, kid_of_end, left_at, left_of_end, opens, past_end, rank_end, right_of_end}
use Rattle.fiba_finger.proofs.Lefts.{left_stays}
use Rattle.fiba_finger.proofs.Regrown.{IsRegrown, can_edge, lifted}

-- the place of a node on the right edge
pub left_is : (h below : ℕ) → below < h → (below + 1 == h) ≡ left_at true (h - 1 - below)
left_is h below lt =
    elim (cases_eq (below + 1) h) [
      | inl e ↦ let z : h - 1 - below ≡ 0 = omega arith in let t : (below + 1 == h) ≡ true = grind (arith, nat_tests) in t ∙ sym (ap (left_at true) z)
      | inr ne ↦ let z : h - 1 - below ≡ suc (h - 2 - below) = omega arith in let t : (below + 1 == h) ≡ false = grind (arith, nat_tests) in t ∙ sym (ap (left_at true) z)
    ]

module _ {M : Type 0} (IsValue : M → Type 0) (empty : M) (op : M → M → M) where
  -- what is ahead of a node further up is ahead
  ahead_less : (P : ℕ × M → Type 0) (look : Look M) (h d g at : ℕ) (l : Bool) → h ≡ suc d + g → IsAt IsValue empty op look h l true at → All P (ahead look h (suc d) at) → All P (ahead look h d at)
  ahead_less P look h zero g at l e k a = rw (ahead_zero look h at) (All-nil P)
  ahead_less P look zero (suc d) g at l e k a = absurd (omega arith)
  ahead_less P look (suc h) (suc d) g at l e k a =
      let q = opens IsValue empty op look h l at k in
      let n = q.0 in
      let f = before (pairs_at look h) n.slots (length n.slots) in
      let parts : All P (f ++ ahead look h (suc d) n.last) = subst (All P) (ahead_suc look h (suc d) at n q.1.is) a in
      let less = ahead_less P look h d g n.last false (omega arith) q.1.kid (all_second P f (ahead look h (suc d) n.last) parts) in
      rw (ahead_suc look h d at n q.1.is) (All-append P f (ahead look h d n.last) (all_first P f (ahead look h (suc d) n.last) parts) less)

  -- and so is what stands in that node
  ahead_here : (P : ℕ × M → Type 0) (look : Look M) (h d g at : ℕ) (l : Bool) (n : Plain M) → h ≡ suc d + g → IsAt IsValue empty op look h l true at → look (edge look d at) ≡ Some n → All P (ahead look h (suc d) at) → All P (before (pairs_at look g) n.slots (length n.slots))
  ahead_here P look zero d g at l n e k is a = absurd (omega arith)
  ahead_here P look (suc h) zero g at l n e k is a =
      let here : look at ≡ Some n = subst (λ k. look k ≡ Some n) (edge_zero look at) is in
      let same : h ≡ g = omega arith in
      let parts : All P (before (pairs_at look h) n.slots (length n.slots) ++ ahead look h 0 n.last) = subst (All P) (ahead_suc look h 0 at n here) a in
      subst (λ b. All P (before (pairs_at look b) n.slots (length n.slots))) same (all_first P (before (pairs_at look h) n.slots (length n.slots)) (ahead look h 0 n.last) parts)
  ahead_here P look (suc h) (suc d) g at l n e k is a =
      let q = opens IsValue empty op look h l at k in
      let m = q.0 in
      let f = before (pairs_at look h) m.slots (length m.slots) in
      let parts : All P (f ++ ahead look h (suc d) m.last) = subst (All P) (ahead_suc look h (suc d) at m q.1.is) a in
      ahead_here P look h d g m.last false n (omega arith) q.1.kid (subst (λ k. look k ≡ Some n) (edge_suc look d at m q.1.is) is) (all_second P f (ahead look h (suc d) m.last) parts)

-- a node on the right edge is opened after a change; all above it is as it was
pub record IsRaising {M : Type 0} (IsValue : M → Type 0) (empty : M) (op : M → M → M) (old now : Store M) (root : Root) (at below : ℕ) (change : Change M) (parent : Option ℕ) (slots : List (Slot M)) (last : ℕ) : Type 0 where
  pub can : CanRaise IsValue empty op old root at below change
  pub taken : Option (Item M)
  pub applied : IsApplied IsValue empty op old now at below (left_at true (root.height - 1 - below)) true change taken slots last
  pub up : below + 1 < root.height → ups old at ≡ Some parent
  pub some : 1 ≤ length slots

module _ {M : Type 0} (IsValue : M → Type 0) (empty : M) (op : M → M → M) (old : Store M) (root : Root) (at below : ℕ) (change : Change M) (can : CanRaise IsValue empty op old root at below change) where
  pub can_root : CanApply IsValue empty op old root.at (root.height - 1) true true change
  can_root =
      let w = can.edge.within in
      let up : root.height ≡ suc (root.height - 1) = omega arith in
      let top : CanChange IsValue empty op old (record { at = root.at; height = suc (root.height - 1) }) true true change = subst (λ h. CanChange IsValue empty op old (record { at = root.at; height = h }) true true change) up can.can in
      record { sound = top.tree.sound; owned = top.tree.owned; linked = top.tree.linked; room = top.room; value = top.value }

  pub can_here : CanApply IsValue empty op old at below (left_at true (root.height - 1 - below)) true change
  can_here =
      let w = can.edge.within in
      subst (λ k. CanApply IsValue empty op old k below (left_at true (root.height - 1 - below)) true change) can.edge.stands (can_edge IsValue empty op change old (root.height - 1) (root.height - 1 - below) below root.at true (omega arith) can_root)

  pub begins : (now : Store M) (left right : Bool) (node : Node M) (taken : Option (Item M)) (slots : List (Slot M)) (last : ℕ) → left ≡ (below + 1 == root.height) → right ≡ true → look old at ≡ Some node → IsApplied IsValue empty op old now at below left right change taken slots last → 1 ≤ length slots → IsRaising IsValue empty op old now root at below change node.up slots last
  begins now left right node taken slots last l r found a some =
      let q = l ∙ left_is root.height below can.edge.within in
      record {
        can = can;
        taken = taken;
        applied = subst (λ b. IsApplied IsValue empty op old now at below b true change taken slots last) q (subst (λ b. IsApplied IsValue empty op old now at below left b change taken slots last) r a);
        up = λ lt. ap (option_map (λ n. n.up)) found;
        some = some;
      }

module _ {M : Type 0} (IsValue : M → Type 0) (empty : M) (op : M → M → M) (old now : Store M) (root : Root) (at below : ℕ) (change : Change M) (parent : Option ℕ) (slots : List (Slot M)) (last : ℕ) (r : IsRaising IsValue empty op old now root at below change parent slots last) where
  held_here : 1 ≤ held (look now at)
  held_here =
      let there = is_there IsValue empty op old (suc below) (left_at true (root.height - 1 - below)) true at (omega arith) (can_here IsValue empty op old root at below change r.can).sound in
      subst (λ o. 1 ≤ held o) (sym r.applied.stays) (held_some (look old at) there)

  module _ (inner : below + 1 < root.height) where
    next : root.height - 1 - below ≡ suc (root.height - 1 - (below + 1))
    next = omega arith

    pub above : ℕ
    above = edge (plain old) (root.height - 1 - (below + 1)) root.at

    pub parent_is : parent ≡ Some above
    unfolding above
    parent_is =
        let stands : edge (plain old) (suc (root.height - 1 - (below + 1))) root.at ≡ at = ap (λ d. edge (plain old) d root.at) (sym next) ∙ r.can.edge.stands in
        let up = edge_up old root.height (root.height - 1 - (below + 1)) root.at (omega arith) r.can.can.tree.linked in
        let e : Some parent ≡ Some (Some (edge (plain old) (root.height - 1 - (below + 1)) root.at)) = sym (r.up inner) ∙ ap (ups old) (sym stands) ∙ up in
        cc

    pub can_above : CanRaise IsValue empty op old root above (below + 1) change
    unfolding above
    can_above =
        let lower : All (λ p. stands_before change p.0 ≡ true) (ahead (plain old) root.height (suc (root.height - 1 - (below + 1))) root.at) = subst (λ d. All (λ p. stands_before change p.0 ≡ true) (ahead (plain old) root.height d root.at)) next r.can.lower in
        record {
          can = r.can.can;
          edge = record { within = inner; stands = refl };
          lower = ahead_less IsValue empty op (λ p. stands_before change p.0 ≡ true) (plain old) root.height (root.height - 1 - (below + 1)) (suc below) root.at true (omega arith) r.can.can.tree.sound lower;
        }

    can_up : CanApply IsValue empty op old above (suc below) (left_at true (root.height - 1 - (below + 1))) true change
    can_up =
        let e : below + 1 ≡ suc below = omega arith in
        subst (λ b. CanApply IsValue empty op old above b (left_at true (root.height - 1 - (below + 1))) true change) e (can_here IsValue empty op old root above (below + 1) change can_above)

    -- the node above, as it was, and its last child
    above_opens : (n : Plain M) × Opens IsValue empty op (plain old) (suc below) (left_at true (root.height - 1 - (below + 1))) above n × (n.last ≡ at)
    unfolding above
    above_opens =
        let q = opens IsValue empty op (plain old) (suc below) (left_at true (root.height - 1 - (below + 1))) above can_up.sound in
        let more = edge_more (plain old) (root.height - 1 - (below + 1)) root.at q.0 q.1.is in
        let stands : edge (plain old) (suc (root.height - 1 - (below + 1))) root.at ≡ at = ap (λ d. edge (plain old) d root.at) (sym next) ∙ r.can.edge.stands in
        (q.0, q.1, sym more ∙ stands)

    pub above_stays : look now above ≡ look old above
    above_stays =
        let q = above_opens in
        let n = q.0 in
        let w = weight_of IsValue empty op (plain old) (suc below) (left_at true (root.height - 1 - (below + 1))) true above n q.1.is (only above) in
        let t = tally-around (times above (plain old) (suc below)) n.slots n.last (length n.slots) in
        let e = ap (times above (plain old) (suc below)) (kid_of_end n.slots n.last ∙ q.2) in
        let o = can_up.owned above in
        let s = only_self above in
        r.applied.moves.kept above (omega arith)

    module _ (at_parent : ℕ) (is_above : at_parent ≡ above) (node : Node M) (found : look now at_parent ≡ Some node) (row : List (Slot M)) (end : ℕ) (row_is : row ≡ slots_of node) (end_is : end ≡ last_of node) where
      is : plain old above ≡ Some (record { slots = row; last = end; agg = node.agg; leaf = node.leaf })
      is =
          let f : look old above ≡ Some node = sym above_stays ∙ ap (look now) (sym is_above) ∙ found in
          ap (option_map plain_node) f ∙ ap (λ xs. Some (record { slots = xs; last = last_of node; agg = node.agg; leaf = node.leaf })) (sym row_is) ∙ ap (λ k. Some (record { slots = row; last = k; agg = node.agg; leaf = node.leaf })) (sym end_is)

      above_is : plain old (edge (plain old) (root.height - 1 - (below + 1)) root.at) ≡ Some (record { slots = row; last = end; agg = node.agg; leaf = node.leaf })
      unfolding above
      above_is = is

      end_at : end ≡ at
      end_at =
          let q = above_opens in
          let e : Some q.0 ≡ Some (record { slots = row; last = end; agg = node.agg; leaf = node.leaf }) = sym q.1.is ∙ is in
          let same : q.0 ≡ record { slots = row; last = end; agg = node.agg; leaf = node.leaf } = cc in
          sym (ap (λ n. n.last) same) ∙ q.2

      some_row : 1 ≤ length row
      some_row = subst (λ xs. 1 ≤ length xs) (sym row_is) (omega arith)

      few_row : length row ≤ 3
      few_row = subst (λ xs. length xs ≤ 3) (sym row_is) (few_slots node)

      left : Bool
      left = left_at true (root.height - 1 - (below + 1))

      done : IsApplied IsValue empty op old now (kid_of row end (length row)) below (left_of left row (length row)) (right_of true row (length row)) change r.taken slots last
      done =
          let z : left_at true (root.height - 1 - below) ≡ false = ap (left_at true) next in
          let a : IsApplied IsValue empty op old now at below false true change r.taken slots last = subst (λ b. IsApplied IsValue empty op old now at below b true change r.taken slots last) z r.applied in
          let k : kid_of row end (length row) ≡ at = kid_of_end row end ∙ end_at in
          rw (k, left_of_end left row some_row, right_of_end true row) a

      pub nested : (i : ℕ) (l right : Bool) → i ≡ length row → l ≡ (below + 2 == root.height) → right ≡ true → IsNested IsValue empty op now below l right row end i slots last
      unfolding left
      nested i l right e le re =
          let q : l ≡ left_at true (root.height - 1 - (below + 1)) = le ∙ ap (λ k. k == root.height) (omega arith) ∙ left_is root.height (below + 1) inner in
          let n = kid_nested IsValue empty op old above below left true change row end node.agg node.leaf can_up is (length row) now change r.taken slots last (omega arith) few_row done (omega arith) in
          subst (λ k. IsNested IsValue empty op now below l right row end k slots last) (sym e) (subst (λ b. IsNested IsValue empty op now below l b row end (length row) slots last) (sym re) (subst (λ b. IsNested IsValue empty op now below b true row end (length row) slots last) (sym q) n))

      pub room : 4 ≤ length slots → 1 ≤ now.spare
      unfolding left
      room many = kid_room IsValue empty op old above below left true change row end node.agg node.leaf can_up is (length row) now change r.taken slots last (omega arith) few_row done can_up.value many

      pub goes_on : (new : Store M) (i : ℕ) (l right : Bool) (wide : List (Slot M)) (rest : ℕ) → i ≡ length row → l ≡ (below + 2 == root.height) → right ≡ true → IsSettled IsValue empty op now new below l right row end i slots last wide rest → length row ≤ length wide → IsRaising IsValue empty op old new root at_parent (below + 1) change node.up wide rest
      unfolding left
      goes_on new i l right wide rest e le re s kept =
          let q : l ≡ left_at true (root.height - 1 - (below + 1)) = le ∙ ap (λ k. k == root.height) (omega arith) ∙ left_is root.height (below + 1) inner in
          let s' : IsSettled IsValue empty op now new below left true row end (length row) slots last wide rest = subst (λ k. IsSettled IsValue empty op now new below left true row end k slots last wide rest) e (subst (λ b. IsSettled IsValue empty op now new below left b row end i slots last wide rest) re (subst (λ b. IsSettled IsValue empty op now new below b right row end i slots last wide rest) q s)) in
          let lower = ahead_here IsValue empty op (λ p. stands_before change p.0 ≡ true) (plain old) root.height (root.height - 1 - (below + 1)) (suc below) root.at true (record { slots = row; last = end; agg = node.agg; leaf = node.leaf }) (omega arith) r.can.can.tree.sound above_is (subst (λ d. All (λ p. stands_before change p.0 ≡ true) (ahead (plain old) root.height d root.at)) next r.can.lower) in
          let rank = rank_end change (pairs_at (plain old) (suc below)) row lower in
          let a = descended IsValue empty op old above below left true change row end node.agg node.leaf can_up is (length row) now new r.taken slots last wide rest few_row rank (λ x past. absurd (past_end row x past)) done s' in
          let up : below + 1 ≡ suc below = omega arith in
          let some = some_row in
          subst (λ k. IsRaising IsValue empty op old new root k (below + 1) change node.up wide rest) (sym is_above) (record {
            can = can_above;
            taken = r.taken;
            applied = subst (λ b. IsApplied IsValue empty op old new above b left true change r.taken wide rest) (sym up) a;
            up = λ lt. ap (option_map (λ n. n.up)) (sym above_stays ∙ ap (look now) (sym is_above) ∙ found);
            some = omega arith;
          })

      -- the full nodes pay for the splits, one level up
      pub pays : (new : Store M) (i : ℕ) (l right : Bool) (wide : List (Slot M)) (rest : ℕ) → i ≡ length row → l ≡ (below + 2 == root.height) → right ≡ true → IsSettled IsValue empty op now new below l right row end i slots last wide rest → (1 ≤ length slots → length row ≤ length wide) → IsPaid change (full_nodes old) (full_nodes now) old.spare now.spare (held (look now at)) (length slots) → full_nodes new + fullness (held (look now (kid_of row end i))) ≤ full_nodes now + fullness (length slots) → (1 ≤ length slots → full_nodes new + fullness (held (look now (kid_of row end i))) ≡ full_nodes now + fullness (length slots)) → (1 ≤ length slots → new.spare + (length slots - 3) ≡ now.spare) → IsPaid change (full_nodes old) (full_nodes new) old.spare new.spare (held (look new at_parent)) (length wide)
      pays new i l right wide rest e le re s kept paid closed even taken =
          let kid : kid_of row end i ≡ at = ap (kid_of row end) e ∙ kid_of_end row end ∙ end_at in
          let was : held (look now (kid_of row end i)) ≡ held (look now at) = ap (λ k. held (look now k)) kid in
          let p = paid_below change (full_nodes old) (full_nodes now) (full_nodes new) old.spare now.spare new.spare (held (look now at)) (length slots) (length row) (length wide) (held (look now (kid_of row end i))) paid was (held_few (look now at)) held_here (λ g. r.some) closed even s.fits kept taken in
          let up = goes_on new i l right wide rest e le re s (kept r.some) in
          let found_old : look old at_parent ≡ Some node = ap (look old) is_above ∙ sym above_stays ∙ ap (look now) (sym is_above) ∙ found in
          let own = held_is (look new at_parent) node row (up.applied.stays ∙ found_old) row_is in
          rw own p

    pub opened_inner : (l right : Bool) → l ≡ false → right ≡ true → IsOpened IsValue empty op now at below l right slots last
    opened_inner l right le re =
        let z : left_at true (root.height - 1 - below) ≡ false = ap (left_at true) next in
        let o : IsOpened IsValue empty op now at below false true slots last = subst (λ b. IsOpened IsValue empty op now at below b true slots last) z r.applied.opened in
        rw (le, re) o

    -- the first leaf stays
    left_end : (new : Store M) → Moves (look old) (look new) (λ k. times k (plain old) (suc below) at) (λ k. times k (plain new) (suc below) at) → left_edge (plain new) (root.height - 1) root.at ≡ left_edge (plain old) (root.height - 1) root.at
    left_end new moves =
        let d = root.height - 1 - (below + 1) in
        let b = root.height - 2 in
        let up : root.height ≡ suc (suc b) = omega arith in
        let stands : edge (plain old) (suc d) root.at ≡ at = ap (λ d. edge (plain old) d root.at) (sym next) ∙ r.can.edge.stands in
        let sound : IsAt IsValue empty op (plain old) (suc (suc b)) true true root.at = subst (λ h. IsAt IsValue empty op (plain old) h true true root.at) up r.can.can.tree.sound in
        let owned : Owned (look old) (λ k. times k (plain old) (suc (suc b)) root.at) = subst (λ h. Owned (look old) (λ k. times k (plain old) h root.at)) up r.can.can.tree.owned in
        let same = left_stays IsValue empty op old new b d (suc below) root.at true (omega arith) sound owned (λ k z. moves.kept k (let t : times k (plain old) (suc below) (edge (plain old) (suc d) root.at) ≡ times k (plain old) (suc below) at = ap (times k (plain old) (suc below)) stands in omega arith)) in
        let low : root.height - 1 ≡ suc b = omega arith in
        ap (λ n. left_edge (plain new) n root.at) low ∙ same ∙ ap (λ n. left_edge (plain old) n root.at) (sym low)

  -- the node is written in its place, and the tree is whole
  pub rewritten : (new : Store M) (l right : Bool) → l ≡ left_at true (root.height - 1 - below) → right ≡ true → IsWritten IsValue empty op now new at below l right slots last → Moves (look now) (look new) (λ k. only k at + row_times k (plain now) below slots last) (λ k. times k (plain new) (suc below) at) → new.spare ≡ now.spare → ups new at ≡ ups old at → IsRaised IsValue empty op old new root root at below change
  rewritten new l right le re written moves spare up =
      let d = root.height - 1 - below in
      let w : IsWritten IsValue empty op now new at below (left_at true d) true slots last = subst (λ b. IsWritten IsValue empty op now new at below b true slots last) le (subst (λ b. IsWritten IsValue empty op now new at below l b slots last) re written) in
      let base : IsRegrown IsValue empty op old new at below (left_at true d) change r.taken = record {
        sound = w.sound;
        applies = subst (λ ps. Applies change r.taken (pairs_at (plain old) (suc below) at) ps) (sym w.pairs) r.applied.applies;
        moves = moves-then (look old) (look now) (look new) (λ k. times k (plain old) (suc below) at) (λ k. only k at + row_times k (plain now) below slots last) (λ k. times k (plain new) (suc below) at) r.applied.moves moves;
        room = let a = w.weighs (λ _. 1) in let b = r.applied.room in omega arith;
        linked = w.linked;
        up = up;
      } in
      let there : IsRegrown IsValue empty op old new (edge (plain old) d root.at) below (left_at true d) change r.taken = subst (λ k. IsRegrown IsValue empty op old new k below (left_at true d) change r.taken) (sym r.can.edge.stands) base in
      let within = r.can.edge.within in
      let high : root.height ≡ suc (root.height - 1) = omega arith in
      let top = can_root IsValue empty op old root at below change r.can in
      let lower : All (λ p. stands_before change p.0 ≡ true) (ahead (plain old) (suc (root.height - 1)) d root.at) = subst (λ h. All (λ p. stands_before change p.0 ≡ true) (ahead (plain old) h d root.at)) high r.can.lower in
      let whole = lifted IsValue empty op change old new (root.height - 1) d below root.at true r.taken (omega arith) top lower there in
      let g = whole.0 in
      let tall : Root = record { at = root.at; height = suc (root.height - 1) } in
      let c : IsChanged IsValue empty op old new tall tall true true change r.taken = record {
        tree = record { sound = g.sound; owned = λ k. let a = g.moves.counts k in let o = top.owned k in omega arith; linked = g.linked };
        applies = g.applies;
        room = g.room;
        higher = omega arith;
      } in
      record {
        taken = r.taken;
        changed = subst (λ h. IsChanged IsValue empty op old new (record { at = root.at; height = h }) (record { at = root.at; height = h }) true true change r.taken) (sym high) c;
        edge = record { within = r.can.edge.within; stands = whole.1 ∙ r.can.edge.stands };
        front = λ lt. (refl, left_end lt new base.moves);
      }

  -- so it is where the node isn't the root
  pub ends : (inner : below + 1 < root.height) (new : Store M) (l right : Bool) → l ≡ false → right ≡ true → IsWritten IsValue empty op now new at below l right slots last → Moves (look now) (look new) (λ k. only k at + row_times k (plain now) below slots last) (λ k. times k (plain new) (suc below) at) → new.spare ≡ now.spare → ups new at ≡ Some parent → IsRaised IsValue empty op old new root root at below change
  ends inner new l right le re written moves spare up =
      let flag : left_at true (root.height - 1 - below) ≡ false = ap (left_at true) (next inner) in
      rewritten new l right (le ∙ sym flag) re written moves spare (up ∙ sym (r.up inner))

  module _ (b : ℕ) (b_is : b ≡ root.height - 1) (here : below ≡ b) where
    at_root : at ≡ root.at
    at_root =
        let z : root.height - 1 - below ≡ 0 = omega arith in
        sym r.can.edge.stands ∙ ap (λ d. edge (plain old) d root.at) z ∙ edge_zero (plain old) root.at

    flag_true : left_at true (root.height - 1 - below) ≡ true
    flag_true = let z : root.height - 1 - below ≡ 0 = omega arith in ap (left_at true) z

    applied_top : IsApplied IsValue empty op old now at below true true change r.taken slots last
    applied_top = subst (λ f. IsApplied IsValue empty op old now at below f true change r.taken slots last) flag_true r.applied

    pub opened_top : (l right : Bool) → l ≡ true → right ≡ true → IsOpened IsValue empty op now at b l right slots last
    opened_top l right le re = rw (le, re) (subst (λ n. IsOpened IsValue empty op now at n true true slots last) here applied_top.opened)

    pub room_top : length slots ≤ now.spare + 1
    room_top = applied_room IsValue empty op old now at below true true change r.taken slots last (can_here IsValue empty op old root at below change r.can).room applied_top

    -- the root was planted again
    pub planted : (new : Store M) (grown : Root) (l right : Bool) → l ≡ true → right ≡ true → IsPlanted IsValue empty op now new at b l right slots last grown → 1 ≤ grown.height → IsRaised IsValue empty op old new root grown grown.at (grown.height - 1) change
    planted new grown l right le re was some =
        let p0 : IsPlanted IsValue empty op now new at b true true slots last grown = subst (λ f. IsPlanted IsValue empty op now new at b f true slots last grown) le (subst (λ f. IsPlanted IsValue empty op now new at b l f slots last grown) re was) in
        let p : IsPlanted IsValue empty op now new at below true true slots last grown = subst (λ n. IsPlanted IsValue empty op now new at n true true slots last grown) (sym here) p0 in
        let within = r.can.edge.within in
        let high : root.height ≡ suc below = omega arith in
        let a1 : Applies change r.taken (pairs_at (plain old) (suc below) root.at) (woven (pairs_at (plain now) below) slots last) = subst (λ k. Applies change r.taken (pairs_at (plain old) (suc below) k) (woven (pairs_at (plain now) below) slots last)) at_root applied_top.applies in
        let a2 : Applies change r.taken (pairs_at (plain old) root.height root.at) (woven (pairs_at (plain now) below) slots last) = subst (λ h. Applies change r.taken (pairs_at (plain old) h root.at) (woven (pairs_at (plain now) below) slots last)) (sym high) a1 in
        let same : size (plain old) root.height root.at ≡ size (plain old) (suc below) at = ap (λ h. size (plain old) h root.at) high ∙ ap (λ k. size (plain old) (suc below) k) (sym at_root) in
        let z : grown.height - 1 - (grown.height - 1) ≡ 0 = omega arith in
        record {
          taken = r.taken;
          changed = record {
            tree = p.tree;
            applies = subst (λ ps. Applies change r.taken (pairs_at (plain old) root.height root.at) ps) (sym p.pairs) a2;
            room = let x = p.room in let y = applied_top.room in omega arith;
            higher = let x = p.higher in let y = applied_top.few in omega arith;
          };
          edge = record { within = omega arith; stands = ap (λ d. edge (plain new) d grown.at) z ∙ edge_zero (plain new) grown.at };
          front = λ lt. absurd (omega arith);
        }
