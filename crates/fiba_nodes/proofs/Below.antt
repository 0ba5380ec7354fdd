-- A change of a tree, by a change of one child or of the root's own items.
use Rattle.std.proofs.Common.{◌≡◌, ◌≤◌, ◌+◌, ◌++◌, ℕ, zero, suc, Bool, true, false, List, [], ◌∷◌, Option, None, Some, length, refl, sym, ap, subst, ◌∙◌, arith, append_assoc, length-append}
use Rattle.std.specs.List.{All}
use Rattle.std.specs.Option.{option_map}
use Rattle.fiba_nodes.specs.declared.slot.Slot.{Slot}
use Rattle.fiba_nodes.specs.declared.item.Item.{Item}
use Rattle.fiba_nodes.specs.declared.node.Node.{Node}
use Rattle.fiba_nodes.specs.declared.change.Change.{Change}
use Rattle.fiba_nodes.specs.declared.change.Change.TheVariants.{Insert, Set, Remove, First}
use Rattle.fiba_nodes.specs.Rows.{last_of, plain_node, slots_of}
use Rattle.fiba_nodes.specs.Stores.{Store, look}
use Rattle.fiba_nodes.specs.Trees.{AreLinked, AreValues, IsAt, IsLinked, IsNode, Look, TreesAt, only, pair_of, pairs_at, plain, row_times, size, tally, times, vacancy, weigh, woven}
use Rattle.fiba_nodes.specs.Kids.{OthersAt, before, behind, kid_of, left_of, others, right_of, with_item}
use Rattle.fiba_nodes.specs.Nested.{IsNested, IsSettled, nested_times}
use Rattle.fiba_nodes.specs.Changes.{Applies, CanApply, CarriesValue, GoesFirst, IsApplied, IsItemAt, IsPassed, IsRank, growth, incoming, is_first, item_of, leaf_pairs, meets, pairs_of, stands_before, stands_behind}
use Rattle.std.proofs.lemmas.List.{map-append, length-map}
use Rattle.agg_laws.specs.Pairs.{values_of}
use Rattle.fiba_nodes.proofs.Lists.{all_middle}
use Rattle.fiba_nodes.proofs.Linked.{linked_kids, links_low, others_linked}
use Rattle.fiba_nodes.proofs.Links.{slot_below}
use Rattle.fiba_nodes.proofs.Sound.{all_values, few, few_kids, node_of, only_self, weight_of}
use Rattle.fiba_nodes.proofs.Sound as sound
use Rattle.fiba_nodes.proofs.Kids.{all-with_item, kids-around, kids-with_item, length-with_item, tally-around, tally-with_item, woven-around, woven-with_item}
use Rattle.fiba_nodes.proofs.Nesting.{SameOthers, others_beside}
use Rattle.fiba_nodes.proofs.Changing.{before_item, behind-with_item, begins-append, begins_behind, beside-with_item, ends-append, ends_before, goes_deeper, goes_other, grown, kid-with_item, left-with_item, others-with_item, right-with_item}

-- a node as it is read
pub node_is : {M : Type 0} (s : Store M) (at : ℕ) (node : Node M) (slots : List (Slot M)) (last : ℕ) → look s at ≡ Some node → slots ≡ slots_of node → last ≡ last_of node → plain s at ≡ Some (record { slots = slots; last = last; agg = node.agg; leaf = node.leaf })
node_is s at node slots last found a b =
    ap (option_map plain_node) found ∙ ap (λ xs. Some (record { slots = xs; last = last_of node; agg = node.agg; leaf = node.leaf })) (sym a) ∙ ap (λ k. Some (record { slots = slots; last = k; agg = node.agg; leaf = node.leaf })) (sym b)

regroup : {X : Type 0} (f a t b g : List X) → f ++ (a ++ t ++ b) ++ g ≡ (f ++ a) ++ t ++ (b ++ g)
regroup f a t b g = simp append_assoc

regroup_removed : {X : Type 0} (f : List X) (p : X) (a b : List X) → (f ++ p ∷ []) ++ a ++ b ≡ (f ++ []) ++ (p ∷ a ++ b)
regroup_removed f p a b = simp append_assoc

-- lists that are the same with one more behind are the same
push_same : {X : Type 0} (xs ys : List X) (p : X) → xs ++ p ∷ [] ≡ ys ++ p ∷ [] → xs ≡ ys
push_same [] [] p e = refl
push_same [] (y ∷ []) p e = cc
push_same [] (y ∷ z ∷ ys) p e = cc
push_same (x ∷ []) [] p e = cc
push_same (x ∷ z ∷ xs) [] p e = cc
push_same (x ∷ xs) (y ∷ ys) p e = let h : x ≡ y = cc in let t : xs ++ p ∷ [] ≡ ys ++ p ∷ [] = cc in ap (λ a. a ∷ xs) h ∙ ap (λ l. y ∷ l) (push_same xs ys p t)

-- an item stands within its row
pub place_within : {M : Type 0} {slots : List (Slot M)} {i : ℕ} {x : Item M} → IsItemAt slots i x → i + 1 ≤ length slots
place_within {slots = slots} {i = i} at = let lt = slot_below slots i at.slot at.stands in omega arith

module _ {M : Type 0} (IsValue : M → Type 0) (empty : M) (op : M → M → M) where
  -- trees of height 0
  trees_low : (look : Look M) (h : ℕ) (l r : Bool) (slots : List (Slot M)) (last : ℕ) → h ≡ 0 → TreesAt IsValue empty op look h l r slots last
  unfolding IsAt
  trees_low look zero l r [] last e = tt
  trees_low look zero l r (s ∷ ss) last e = (tt, trees_low look zero false r ss last e)
  trees_low look (suc h) l r slots last e = absurd (omega arith)

  module _ (look : Look M) where
    tally_low : (w : ℕ → ℕ) (h : ℕ) (slots : List (Slot M)) (last : ℕ) → h ≡ 0 → tally (weigh w look h) slots last ≡ 0
    unfolding weigh
    tally_low w zero [] last e = refl
    tally_low w zero (s ∷ ss) last e = let t = tally_low w zero ss last e in omega arith
    tally_low w (suc h) slots last e = absurd (omega arith)

    pub woven_low : (h : ℕ) (slots : List (Slot M)) (last : ℕ) → h ≡ 0 → woven (pairs_at look h) slots last ≡ leaf_pairs slots
    unfolding pairs_at
    woven_low zero [] last e = refl
    woven_low zero (s ∷ ss) last e = ap (λ l. pair_of s.item ∷ l) (woven_low zero ss last e)
    woven_low (suc h) slots last e = absurd (omega arith)

  -- the other children have no more nodes than there are pairs around the child, less the items
  few_others : (look : Look M) (h : ℕ) (l r : Bool) (slots : List (Slot M)) (last i : ℕ) → OthersAt (λ l r k. IsAt IsValue empty op look h l r k) l r slots last i → others (size look h) slots last i + length slots ≤ length (before (pairs_at look h) slots i) + length (behind (pairs_at look h) slots last i)
  few_others look h l r [] last i o = omega arith
  few_others look h l r (s ∷ ss) last zero o = let t = few_kids IsValue empty op look h false r ss last o in omega arith
  few_others look h l r (s ∷ ss) last (suc i) o =
      let t = few IsValue empty op look h l false s.kid o.0 in
      let rest = few_others look h false r ss last i o.1 in
      let e = length-append (pairs_at look h s.kid) (pair_of s.item ∷ before (pairs_at look h) ss i) in
      omega arith

  module _ (old : Store M) (at b : ℕ) (l r : Bool) (change : Change M) (slots : List (Slot M)) (last : ℕ) (agg : M) (leaf : Bool) (can : CanApply IsValue empty op old at b l r change) (is : plain old at ≡ Some (record { slots = slots; last = last; agg = agg; leaf = leaf })) where
    pub inner : IsNode IsValue empty op (pairs_at (plain old) b) (λ l r k. IsAt IsValue empty op (plain old) b l r k) l r b (record { slots = slots; last = last; agg = agg; leaf = leaf })
    inner = node_of IsValue empty op (plain old) b l r at (record { slots = slots; last = last; agg = agg; leaf = leaf }) is can.sound

    weighs : (w : ℕ → ℕ) → weigh w (plain old) (suc b) at ≡ w at + tally (weigh w (plain old) b) slots last
    weighs w = weight_of IsValue empty op (plain old) b l r at (record { slots = slots; last = last; agg = agg; leaf = leaf }) is w

    pairs : pairs_at (plain old) (suc b) at ≡ woven (pairs_at (plain old) b) slots last
    pairs = sound.pairs_of IsValue empty op (plain old) b l r at (record { slots = slots; last = last; agg = agg; leaf = leaf }) is

    links : AreLinked old b slots last
    links = linked_kids old b at (record { slots = slots; last = last; agg = agg; leaf = leaf }) is can.linked

    -- no node changes, only the items of the root
    applied_here : (taken : Option (Item M)) (row : List (Slot M)) (rest : ℕ) → length row ≤ 3 + growth change → AreValues IsValue row → TreesAt IsValue empty op (plain old) b l r row rest → AreLinked old b row rest → ((w : ℕ → ℕ) → tally (weigh w (plain old) b) row rest ≡ tally (weigh w (plain old) b) slots last) → Applies change taken (woven (pairs_at (plain old) b) slots last) (woven (pairs_at (plain old) b) row rest) → IsApplied IsValue empty op old old at b l r change taken row rest
    applied_here taken row rest fits items kids linked same applies = record {
      few = fits;
      opened = record { items = items; kids = kids; owned = λ k. let o = can.owned k in let w = weighs (only k) in let s = same (only k) in omega arith; linked = linked };
      applies = rw pairs applies;
      stays = refl;
      moves = record { counts = λ k. let w = weighs (only k) in let s = same (only k) in omega arith; kept = λ k z. refl };
      room = let w = weighs (λ _. 1) in let s = same (λ _. 1) in omega arith;
    }

    pub applied_leaf : (taken : Option (Item M)) (row : List (Slot M)) (rest : ℕ) → b ≡ 0 → length slots ≤ 3 → AreValues IsValue row → Applies change taken (leaf_pairs slots) (leaf_pairs row) → IsApplied IsValue empty op old old at b l r change taken row rest
    applied_leaf taken row rest low fits items applies =
        applied_here taken row rest (let e = grown change taken (leaf_pairs slots) (leaf_pairs row) applies in let a = length-map slots (λ s. pair_of s.item) in let b = length-map row (λ s. pair_of s.item) in omega arith) items (trees_low (plain old) b l r row rest low) (links_low old b row rest low) (λ w. tally_low (plain old) w b row rest low ∙ sym (tally_low (plain old) w b slots last low)) (rw (woven_low (plain old) b slots last low, woven_low (plain old) b row rest low) applies)

    goes_with_item : (change : Change M) (item : Item M) (taken : Option (Item M)) (front : List (ℕ × M)) → item_of change ≡ Some item → GoesFirst change taken front
    goes_with_item (Insert x) item taken front e = tt
    goes_with_item (Set x) item taken front e = tt
    goes_with_item (Remove x) item taken front e = cc
    goes_with_item First item taken front e = cc

    value_of : (change : Change M) (item : Item M) → item_of change ≡ Some item → CarriesValue IsValue change → IsValue item.value
    value_of (Insert x) item e v = let same : x ≡ item = cc in subst (λ y. IsValue y.value) same v
    value_of (Set x) item e v = let same : x ≡ item = cc in subst (λ y. IsValue y.value) same v
    value_of (Remove x) item e v = cc
    value_of First item e v = cc

    -- another item comes in for the one at a place
    pub applied_item : (i : ℕ) (item x : Item M) → length slots ≤ 3 → IsItemAt slots i x → meets change x.key ≡ true → item_of change ≡ Some item → IsApplied IsValue empty op old old at b l r change (Some x) (with_item slots i item) last
    applied_item i item x fits stands m brings =
        let parts = woven-with_item (pairs_at (plain old) b) slots last i stands.slot item stands.stands in
        let node = inner in
        applied_here (Some x) (with_item slots i item) last
        (let e = length-with_item slots i item in omega arith)
        (all-with_item (λ item. IsValue item.value) slots i item (value_of change item brings can.value) node.items)
        (kids-with_item (λ l r k. IsAt IsValue empty op (plain old) b l r k) l r slots last i item node.kids)
        (kids-with_item (λ _ _ k. IsLinked old b k) false false slots last i item links)
        (λ w. tally-with_item (weigh w (plain old) b) slots last i item)
        (record {
          front = parts.0;
          back = parts.1;
          was = parts.2 ∙ ap (λ y. parts.0 ++ pair_of y ∷ parts.1) stands.same ∙ sym (append_assoc parts.0 (pair_of x ∷ []) parts.1);
          is = parts.3 ∙ sym (append_assoc parts.0 (pair_of item ∷ []) parts.1) ∙ ap (λ o. parts.0 ++ pairs_of o ++ parts.1) (sym brings);
          met = λ y q. let same : x ≡ y = cc in subst (λ y. meets change y.key ≡ true) same m;
          gap = λ q. cc;
          first = goes_with_item change item (Some x) parts.0 brings;
        })

  module _ (old : Store M) (at c : ℕ) (l r : Bool) (change : Change M) (slots : List (Slot M)) (last : ℕ) (agg : M) (leaf : Bool) (can : CanApply IsValue empty op old at (suc c) l r change) (is : plain old at ≡ Some (record { slots = slots; last = last; agg = agg; leaf = leaf })) (i : ℕ) where
    node : IsNode IsValue empty op (pairs_at (plain old) (suc c)) (λ l r k. IsAt IsValue empty op (plain old) (suc c) l r k) l r (suc c) (record { slots = slots; last = last; agg = agg; leaf = leaf })
    node = inner old at (suc c) l r change slots last agg leaf can is

    around : OthersAt (λ l r k. IsAt IsValue empty op (plain old) (suc c) l r k) l r slots last i × IsAt IsValue empty op (plain old) (suc c) (left_of l slots i) (right_of r slots i) (kid_of slots last i)
    around = kids-around (λ l r k. IsAt IsValue empty op (plain old) (suc c) l r k) l r slots last i node.kids

    around_linked : OthersAt (λ _ _ k. IsLinked old (suc c) k) false false slots last i × IsLinked old (suc c) (kid_of slots last i)
    around_linked = kids-around (λ _ _ k. IsLinked old (suc c) k) false false slots last i (links old at (suc c) l r change slots last agg leaf can is)

    weight : (w : ℕ → ℕ) → weigh w (plain old) (suc (suc c)) at ≡ w at + (others (weigh w (plain old) (suc c)) slots last i + weigh w (plain old) (suc c) (kid_of slots last i))
    weight w = let a = weighs old at (suc c) l r change slots last agg leaf can is w in let t = tally-around (weigh w (plain old) (suc c)) slots last i in omega arith

    all_pairs : pairs_at (plain old) (suc (suc c)) at ≡ before (pairs_at (plain old) (suc c)) slots i ++ pairs_at (plain old) (suc c) (kid_of slots last i) ++ behind (pairs_at (plain old) (suc c)) slots last i
    all_pairs = pairs old at (suc c) l r change slots last agg leaf can is ∙ woven-around (pairs_at (plain old) (suc c)) slots last i

    -- a change can be made to the child
    pub kid_can : (inside : Change M) → growth inside ≤ growth change → CarriesValue IsValue inside → CanApply IsValue empty op old (kid_of slots last i) c (left_of l slots i) (right_of r slots i) inside
    kid_can inside g v = record {
      sound = around.1;
      owned = λ k. let o = can.owned k in let w = weight (only k) in omega arith;
      linked = around_linked.1;
      room =
          let w = weight (λ _. 1) in
          let f = few_others (plain old) (suc c) l r slots last i around.0 in
          let e = ap length all_pairs ∙ length-append (before (pairs_at (plain old) (suc c)) slots i ++ pairs_at (plain old) (suc c) (kid_of slots last i)) (behind (pairs_at (plain old) (suc c)) slots last i) in
          let d = length-append (before (pairs_at (plain old) (suc c)) slots i) (pairs_at (plain old) (suc c) (kid_of slots last i)) in
          let n = node.some in
          let q = can.room in
          omega arith;
      value = v;
    }

    module _ (mid : Store M) (inside : Change M) (out : Option (Item M)) (child : List (Slot M)) (end : ℕ) (g : growth inside ≤ growth change) (fits : length slots ≤ 3) (done : IsApplied IsValue empty op old mid (kid_of slots last i) c (left_of l slots i) (right_of r slots i) inside out child end) where
      stays : SameOthers IsValue empty op (plain old) (plain mid) (suc c) slots last i
      stays = others_beside IsValue empty op old mid (suc c) slots last i (λ k. times k (plain old) (suc c) (kid_of slots last i)) (λ k. only k (kid_of slots last i) + row_times k (plain mid) c child end) done.moves (λ k. let o = can.owned k in let w = weight (only k) in omega arith)

      -- the changed child is opened
      pub kid_nested : i ≤ length slots → IsNested IsValue empty op mid c l r slots last i child end
      kid_nested within =
          let s = stays in
          record {
            within = within;
            items = node.items;
            beside = s.kids l r around.0;
            child_items = done.opened.items;
            child_kids = done.opened.kids;
            owned = λ k. let o = can.owned k in let w = weight (only k) in let t = s.tallies (only k) in let m = done.moves.counts k in omega arith;
            linked = others_linked old mid (suc c) slots last i (λ k. times k (plain old) (suc c) (kid_of slots last i)) (λ k. only k (kid_of slots last i) + row_times k (plain mid) c child end) done.moves (λ k. let o = can.owned k in let w = weight (only k) in omega arith) around_linked.0;
            child_linked = done.opened.linked;
          }

      -- there is room where it has to be split
      pub kid_room : CarriesValue IsValue inside → 4 ≤ length child → 1 ≤ mid.spare
      kid_room v many =
          let k = kid_can inside g v in
          let a = grown inside out (pairs_at (plain old) (suc c) (kid_of slots last i)) (woven (pairs_at (plain mid) c) child end) done.applies in
          let f = few_kids IsValue empty op (plain mid) c (left_of l slots i) (right_of r slots i) child end done.opened.kids in
          let q = done.room in
          let p = k.room in
          omega arith

      -- the child settles: all but the change itself
      settled_over : (new : Store M) (around_slots : List (Slot M)) (row : List (Slot M)) (rest : ℕ) (taken : Option (Item M)) → IsSettled IsValue empty op mid new c l r around_slots last i child end row rest → ((w : ℕ → ℕ) → others (weigh w (plain mid) (suc c)) around_slots last i ≡ others (weigh w (plain mid) (suc c)) slots last i) → kid_of around_slots last i ≡ kid_of slots last i → length around_slots ≡ length slots → Applies change taken (pairs_at (plain old) (suc (suc c)) at) (woven (pairs_at (plain new) (suc c)) row rest) → IsApplied IsValue empty op old new at (suc c) l r change taken row rest
      settled_over new around_slots row rest taken s same_others same_kid same_length applies =
          let q = stays in
          let nested : (k : ℕ) → nested_times k (plain mid) c around_slots last i child end ≡ others (times k (plain old) (suc c)) slots last i + (only k (kid_of slots last i) + row_times k (plain mid) c child end) = λ k. let a = same_others (only k) in let b = q.tallies (only k) in let e : only k (kid_of around_slots last i) ≡ only k (kid_of slots last i) = ap (only k) same_kid in omega arith in
          let count : (k : ℕ) → only k at + row_times k (plain new) (suc c) row rest + vacancy (look new k) ≤ times k (plain old) (suc (suc c)) at + vacancy (look old k) = λ k. let a = s.moves.counts k in let b = nested k in let d = done.moves.counts k in let w = weight (only k) in omega arith in
          record {
            few = let a = s.fits in let b = done.few in omega arith;
            opened = record { items = s.items; kids = s.kids; owned = λ k. let o = can.owned k in let n = count k in omega arith; linked = s.linked };
            applies = applies;
            stays = let w = weight (only at) in let d = done.moves.counts at in let b = nested at in let o = can.owned at in let s0 = only_self at in s.moves.kept at (omega arith) ∙ done.moves.kept at (omega arith);
            moves = record {
              counts = count;
              kept = λ k z. let w = weight (only k) in let d = done.moves.counts k in let b = nested k in s.moves.kept k (omega arith) ∙ done.moves.kept k (omega arith);
            };
            room = let a = same_others (λ _. 1) in let b = q.tallies (λ _. 1) in let w = weight (λ _. 1) in let d = done.room in let e = s.room in omega arith;
          }

    -- a change below the child at the rank of its place
    pub descended : (mid new : Store M) (taken : Option (Item M)) (child : List (Slot M)) (end : ℕ) (row : List (Slot M)) (rest : ℕ) → length slots ≤ 3 → IsRank change slots i → IsPassed change slots i → IsApplied IsValue empty op old mid (kid_of slots last i) c (left_of l slots i) (right_of r slots i) change taken child end → IsSettled IsValue empty op mid new c l r slots last i child end row rest → IsApplied IsValue empty op old new at (suc c) l r change taken row rest
    descended mid new taken child end row rest fits rank passed done s =
        let q = stays mid change taken child end (omega arith) fits done in
        let a = done.applies in
        let f = before (pairs_at (plain old) (suc c)) slots i in
        let b = behind (pairs_at (plain old) (suc c)) slots last i in
        settled_over mid change taken child end (omega arith) fits done new slots row rest taken s (λ w. refl) refl refl (record {
          front = f ++ a.front;
          back = a.back ++ b;
          was = all_pairs ∙ ap (λ ps. f ++ ps ++ b) a.was ∙ regroup f a.front (pairs_of taken) a.back b;
          is = s.pairs ∙ ap (λ ps. ps ++ woven (pairs_at (plain mid) c) child end ++ behind (pairs_at (plain mid) (suc c)) slots last i) q.front ∙ ap (λ ps. f ++ ps ++ behind (pairs_at (plain mid) (suc c)) slots last i) a.is ∙ ap (λ ps. f ++ (a.front ++ pairs_of (incoming change taken) ++ a.back) ++ ps) q.back ∙ regroup f a.front (pairs_of (incoming change taken)) a.back b;
          met = a.met;
          gap = λ e. let g = a.gap e in (ends-append (stands_before change) f a.front (ends_before (stands_before change) (pairs_at (plain old) (suc c)) slots i rank.low) g.0, begins-append (stands_behind change) a.back b g.1 (begins_behind (stands_behind change) (pairs_at (plain old) (suc c)) slots last i (λ x is. passed x is (rank.high x is))));
          first = goes_deeper change taken (pairs_at (plain old) (suc c)) slots i a.front rank a.first;
        })

  module _ (old : Store M) (at c : ℕ) (l r : Bool) (change : Change M) (slots : List (Slot M)) (last : ℕ) (agg : M) (leaf : Bool) (can : CanApply IsValue empty op old at (suc c) l r change) (is : plain old at ≡ Some (record { slots = slots; last = last; agg = agg; leaf = leaf })) (i : ℕ) where
    -- the item at a place goes, and the first one behind it comes in its place
    pub item_nested : (mid : Store M) (next : Item M) (child : List (Slot M)) (end : ℕ) → IsValue next.value → IsNested IsValue empty op mid c l r slots last (suc i) child end → IsNested IsValue empty op mid c l r (with_item slots i next) last (suc i) child end
    item_nested mid next child end v n = record {
      within = let e = length-with_item slots i next in let w = n.within in omega arith;
      items = all-with_item (λ item. IsValue item.value) slots i next v n.items;
      beside = beside-with_item (λ l r k. IsAt IsValue empty op (plain mid) (suc c) l r k) l r slots last i next (suc i) n.beside;
      child_items = n.child_items;
      child_kids = rw (left-with_item l slots i next (suc i), right-with_item r slots i next (suc i)) n.child_kids;
      owned = λ k. let o = n.owned k in let a = others-with_item (times k (plain mid) (suc c)) slots last i next (suc i) in let e : only k (kid_of (with_item slots i next) last (suc i)) ≡ only k (kid_of slots last (suc i)) = ap (only k) (kid-with_item slots last i next (suc i)) in omega arith;
      linked = beside-with_item (λ _ _ k. IsLinked mid (suc c) k) false false slots last i next (suc i) n.linked;
      child_linked = n.child_linked;
    }

    pub removed : (mid new : Store M) (x next : Item M) (child : List (Slot M)) (end : ℕ) (row : List (Slot M)) (rest : ℕ) → length slots ≤ 3 → IsItemAt slots i x → meets change x.key ≡ true → is_first change ≡ false → item_of change ≡ None → IsApplied IsValue empty op old mid (kid_of slots last (suc i)) c (left_of l slots (suc i)) (right_of r slots (suc i)) First (Some next) child end → IsSettled IsValue empty op mid new c l r (with_item slots i next) last (suc i) child end row rest → IsApplied IsValue empty op old new at (suc c) l r change (Some x) row rest
    removed mid new x next child end row rest fits stands m other none done s =
        let g : growth {M = M} First ≤ growth change = omega arith in
        let q = stays old at c l r change slots last agg leaf can is (suc i) mid First (Some next) child end g fits done in
        let a = done.applies in
        let parts = before_item (pairs_at (plain old) (suc c)) slots i stands.slot next stands.stands in
        let parts_mid = before_item (pairs_at (plain mid) (suc c)) slots i stands.slot next stands.stands in
        let b = behind (pairs_at (plain old) (suc c)) slots last (suc i) in
        let same_front : parts_mid.0 ≡ parts.0 = push_same parts_mid.0 parts.0 (pair_of stands.slot.item) (sym parts_mid.1 ∙ q.front ∙ parts.1) in
        settled_over old at c l r change slots last agg leaf can is (suc i) mid First (Some next) child end g fits done new (with_item slots i next) row rest (Some x) s (λ w. others-with_item (weigh w (plain mid) (suc c)) slots last i next (suc i)) (kid-with_item slots last i next (suc i)) (length-with_item slots i next) (record {
          front = parts.0;
          back = pair_of next ∷ a.back ++ b;
          was = all_pairs old at c l r change slots last agg leaf can is (suc i) ∙ ap (λ ps. ps ++ pairs_at (plain old) (suc c) (kid_of slots last (suc i)) ++ b) (parts.1 ∙ ap (λ y. parts.0 ++ pair_of y ∷ []) stands.same) ∙ ap (λ ps. (parts.0 ++ pair_of x ∷ []) ++ ps ++ b) (a.was ∙ ap (λ f. f ++ pair_of next ∷ [] ++ a.back) a.first.1) ∙ append_assoc (parts.0 ++ pair_of x ∷ []) (pair_of next ∷ a.back) b;
          is = s.pairs ∙ ap (λ ps. ps ++ woven (pairs_at (plain mid) c) child end ++ behind (pairs_at (plain mid) (suc c)) (with_item slots i next) last (suc i)) (parts_mid.2 ∙ ap (λ f. f ++ pair_of next ∷ []) same_front) ∙ ap (λ ps. (parts.0 ++ pair_of next ∷ []) ++ ps ++ behind (pairs_at (plain mid) (suc c)) (with_item slots i next) last (suc i)) (a.is ∙ ap (λ f. f ++ [] ++ a.back) a.first.1) ∙ ap (λ ps. (parts.0 ++ pair_of next ∷ []) ++ a.back ++ ps) (behind-with_item (pairs_at (plain mid) (suc c)) slots last i next ∙ q.back) ∙ regroup_removed parts.0 (pair_of next) a.back b ∙ ap (λ o. parts.0 ++ pairs_of o ++ (pair_of next ∷ a.back ++ b)) (sym none);
          met = λ y e. let same : x ≡ y = cc in subst (λ y. meets change y.key ≡ true) same m;
          gap = λ e. cc;
          first = goes_other change (Some x) parts.0 other;
        })

  -- what goes out of a sound tree has a value
  pub value_taken : (look : Look M) (h : ℕ) (l r : Bool) (at : ℕ) (change : Change M) (x : Item M) (new : List (ℕ × M)) → IsAt IsValue empty op look h l r at → Applies change (Some x) (pairs_at look h at) new → IsValue x.value
  value_taken look h l r at change x new k a =
      let all : All IsValue (values_of ((a.front ++ pair_of x ∷ []) ++ a.back)) = subst (λ ps. All IsValue (values_of ps)) a.was (all_values IsValue empty op look h l r at k) in
      let e : values_of ((a.front ++ pair_of x ∷ []) ++ a.back) ≡ values_of a.front ++ x.value ∷ values_of a.back = ap values_of (append_assoc a.front (pair_of x ∷ []) a.back) ∙ map-append (λ p. p.1) a.front (pair_of x ∷ a.back) in
      all_middle IsValue (values_of a.front) x.value (values_of a.back) (subst (All IsValue) e all)

  -- the same where the height is known to be that of a node that isn't a leaf
  module _ (old : Store M) (at b c : ℕ) (l r : Bool) (change : Change M) (slots : List (Slot M)) (last : ℕ) (agg : M) (leaf : Bool) (e : b ≡ suc c) (can_at : CanApply IsValue empty op old at b l r change) (is : plain old at ≡ Some (record { slots = slots; last = last; agg = agg; leaf = leaf })) (fits : length slots ≤ 3) (i : ℕ) where
    can : CanApply IsValue empty op old at (suc c) l r change
    can = subst (λ n. CanApply IsValue empty op old at n l r change) e can_at

    back : (new : Store M) (taken : Option (Item M)) (row : List (Slot M)) (rest : ℕ) → IsApplied IsValue empty op old new at (suc c) l r change taken row rest → IsApplied IsValue empty op old new at b l r change taken row rest
    back new taken row rest a = subst (λ n. IsApplied IsValue empty op old new at n l r change taken row rest) (sym e) a

    pub kid_can_at : (inside : Change M) → growth inside ≤ growth change → CarriesValue IsValue inside → CanApply IsValue empty op old (kid_of slots last i) c (left_of l slots i) (right_of r slots i) inside
    kid_can_at inside g v = kid_can old at c l r change slots last agg leaf can is i inside g v

    pub kid_nested_at : (mid : Store M) (inside : Change M) (out : Option (Item M)) (child : List (Slot M)) (end : ℕ) → growth inside ≤ growth change → IsApplied IsValue empty op old mid (kid_of slots last i) c (left_of l slots i) (right_of r slots i) inside out child end → i ≤ length slots → IsNested IsValue empty op mid c l r slots last i child end
    kid_nested_at mid inside out child end g done within = kid_nested old at c l r change slots last agg leaf can is i mid inside out child end g fits done within

    pub kid_room_at : (mid : Store M) (inside : Change M) (out : Option (Item M)) (child : List (Slot M)) (end : ℕ) → growth inside ≤ growth change → CarriesValue IsValue inside → IsApplied IsValue empty op old mid (kid_of slots last i) c (left_of l slots i) (right_of r slots i) inside out child end → 4 ≤ length child → 1 ≤ mid.spare
    kid_room_at mid inside out child end g v done = kid_room old at c l r change slots last agg leaf can is i mid inside out child end g fits done v

    pub descended_at : (mid new : Store M) (taken : Option (Item M)) (child : List (Slot M)) (end : ℕ) (row : List (Slot M)) (rest : ℕ) → IsRank change slots i → IsPassed change slots i → IsApplied IsValue empty op old mid (kid_of slots last i) c (left_of l slots i) (right_of r slots i) change taken child end → IsSettled IsValue empty op mid new c l r slots last i child end row rest → IsApplied IsValue empty op old new at b l r change taken row rest
    descended_at mid new taken child end row rest rank passed done s =
        back new taken row rest (descended old at c l r change slots last agg leaf can is i mid new taken child end row rest fits rank passed done s)

  -- the child behind an item that goes
  module _ (old : Store M) (at b c : ℕ) (l r : Bool) (change : Change M) (slots : List (Slot M)) (last : ℕ) (agg : M) (leaf : Bool) (e : b ≡ suc c) (can_at : CanApply IsValue empty op old at b l r change) (is : plain old at ≡ Some (record { slots = slots; last = last; agg = agg; leaf = leaf })) (fits : length slots ≤ 3) (i j : ℕ) (next_i : j ≡ suc i) (mid : Store M) (out : Option (Item M)) (next : Item M) (out_is : out ≡ Some next) (child : List (Slot M)) (end : ℕ) (done : IsApplied IsValue empty op old mid (kid_of slots last j) c (left_of l slots j) (right_of r slots j) First out child end) where
    can_suc : CanApply IsValue empty op old at (suc c) l r change
    can_suc = subst (λ n. CanApply IsValue empty op old at n l r change) e can_at

    done_next : IsApplied IsValue empty op old mid (kid_of slots last (suc i)) c (left_of l slots (suc i)) (right_of r slots (suc i)) First (Some next) child end
    done_next = subst (λ k. IsApplied IsValue empty op old mid (kid_of slots last k) c (left_of l slots k) (right_of r slots k) First (Some next) child end) next_i (subst (λ o. IsApplied IsValue empty op old mid (kid_of slots last j) c (left_of l slots j) (right_of r slots j) First o child end) out_is done)

    few_growth : growth {M = M} First ≤ growth change
    few_growth = omega arith

    pub item_nested_at : j ≤ length slots → IsNested IsValue empty op mid c l r (with_item slots i next) last j child end
    item_nested_at within =
        let k = kid_can old at c l r change slots last agg leaf can_suc is (suc i) First few_growth tt in
        let v = value_taken (plain old) (suc c) (left_of l slots (suc i)) (right_of r slots (suc i)) (kid_of slots last (suc i)) First next (woven (pairs_at (plain mid) c) child end) k.sound done_next.applies in
        let n = kid_nested old at c l r change slots last agg leaf can_suc is (suc i) mid First (Some next) child end few_growth fits done_next (omega arith) in
        subst (λ k. IsNested IsValue empty op mid c l r (with_item slots i next) last k child end) (sym next_i) (item_nested old at c l r change slots last agg leaf can_suc is i mid next child end v n)

    pub removed_at : (new : Store M) (x : Item M) (row : List (Slot M)) (rest : ℕ) → IsItemAt slots i x → meets change x.key ≡ true → is_first change ≡ false → item_of change ≡ None → IsSettled IsValue empty op mid new c l r (with_item slots i next) last j child end row rest → IsApplied IsValue empty op old new at b l r change (Some x) row rest
    removed_at new x row rest stands m other none s =
        let s' : IsSettled IsValue empty op mid new c l r (with_item slots i next) last (suc i) child end row rest = subst (λ k. IsSettled IsValue empty op mid new c l r (with_item slots i next) last k child end row rest) next_i s in
        subst (λ n. IsApplied IsValue empty op old new at n l r change (Some x) row rest) (sym e) (removed old at c l r change slots last agg leaf can_suc is i mid new x next child end row rest fits stands m other none done_next s')
