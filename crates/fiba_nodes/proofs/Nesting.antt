-- An opened child with a neighbour's items, and closed again.
use Rattle.std.proofs.Common.{◌≡◌, ◌≤◌, ◌<◌, ◌+◌, ◌-◌, ◌++◌, ℕ, zero, suc, Bool, false, List, [], ◌∷◌, Option, None, Some, length, refl, sym, ap, subst, ◌∙◌, arith, append_assoc, length-append}
use Rattle.std.specs.Prelude.{slice_get}
use Rattle.std.specs.Option.{option_map}
use Rattle.fiba_nodes.specs.declared.slot.Slot.{Slot}
use Rattle.fiba_nodes.specs.declared.item.Item.{Item}
use Rattle.fiba_nodes.specs.declared.node.Node.{Node}
use Rattle.fiba_nodes.specs.Rows.{last_of, more_slots, plain_node, slots_of}
use Rattle.fiba_nodes.specs.Stores.{Store, look, Puts}
use Rattle.fiba_nodes.specs.Trees.{IsAt, IsClosed, IsLinked, IsOpened, KidsAt, Look, Moves, only, pair_of, pairs_at, plain, row_times, size, tally, times, vacancy, weigh, woven}
use Rattle.fiba_nodes.specs.Kids.{OthersAt, before, behind, kid_of, left_of, others, right_of, spliced, spliced_last, thinned, thinned_last}
use Rattle.fiba_nodes.specs.Nested.{IsFilled, IsNested, IsSettled, nested_times}
use Rattle.fiba_nodes.proofs.Lists.{all_join, pushed_joined}
use Rattle.fiba_nodes.proofs.Frames.{Keeps, kids-join, same_kids, same_tree, tally-join, woven-join}
use Rattle.fiba_nodes.proofs.Sound.{moves-then, node_of, only_self, pairs_of, weight_of}
use Rattle.fiba_nodes.proofs.Writes.{freed_moves, row_beside}
use Rattle.fiba_nodes.proofs.Linked.{any_place, linked_kids, others_linked, row_linked}
use Rattle.fiba_nodes.proofs.Kids.{all-spliced, all-thinned, before-thinned, before-thinned_next, behind-thinned, behind-thinned_next, kid-thinned, kids-spliced, kids-thinned, kids-thinned_next, left-next, left-thinned, length-spliced, length-thinned, others-thinned, others-thinned_next, right-inner, right-thinned_next, tally-spliced, woven-spliced}

-- the other children of a row are as before
pub record SameOthers {M : Type 0} (IsValue : M → Type 0) (empty : M) (op : M → M → M) (old new : Look M) (h : ℕ) (slots : List (Slot M)) (last i : ℕ) : Type 0 where
  pub front : before (pairs_at new h) slots i ≡ before (pairs_at old h) slots i
  pub back : behind (pairs_at new h) slots last i ≡ behind (pairs_at old h) slots last i
  pub tallies : (w : ℕ → ℕ) → others (weigh w new h) slots last i ≡ others (weigh w old h) slots last i
  pub kids : (l r : Bool) → OthersAt (λ l r k. IsAt IsValue empty op old h l r k) l r slots last i → OthersAt (λ l r k. IsAt IsValue empty op new h l r k) l r slots last i

regroup_next : {X : Type 0} (a c : List X) (p : X) (n b : List X) → a ++ (c ++ p ∷ n) ++ b ≡ a ++ c ++ p ∷ (n ++ b)
regroup_next a c p n b = simp append_assoc

regroup_back : {X : Type 0} (a n : List X) (p : X) (c b : List X) → a ++ (n ++ p ∷ c) ++ b ≡ (a ++ n ++ p ∷ []) ++ c ++ b
regroup_back a n p c b = simp append_assoc

-- a node has at most three items
few_more : {M : Type 0} (a b : Option (Item M)) (kids : List ℕ) → length (more_slots a b kids) ≤ 2
few_more None b kids = omega arith
few_more (Some x) None kids = omega arith
few_more (Some x) (Some y) kids = omega arith

pub few_slots : {M : Type 0} (node : Node M) → length (slots_of node) ≤ 3
few_slots node = let e = few_more node.second node.third node.kids in omega arith

-- a row, an item with a child before it, and a row
pub row_previous : {M : Type 0} (all front raw xs ys : List (Slot M)) (kid end : ℕ) (item : Item M) → all ≡ front ++ ys → front ≡ raw ++ record { kid = kid; item = item } ∷ [] → raw ≡ xs → kid ≡ end → all ≡ xs ++ record { kid = end; item = item } ∷ ys
row_previous all front raw xs ys kid end item a f r k =
    pushed_joined all front xs ys ys (record { kid = end; item = item }) a (f ∙ ap (λ l. l ++ record { kid = kid; item = item } ∷ []) r ∙ ap (λ n. xs ++ record { kid = n; item = item } ∷ []) k) refl

module _ {M : Type 0} (IsValue : M → Type 0) (empty : M) (op : M → M → M) where
  same_others : (old new : Look M) (h : ℕ) (slots : List (Slot M)) (last i : ℕ) → Keeps old new (λ k. others (times k old h) slots last i) → SameOthers IsValue empty op old new h slots last i
  same_others old new h [] last i keeps = record { front = refl; back = refl; tallies = λ w. refl; kids = λ l r o. o }
  same_others old new h (s ∷ ss) last zero keeps =
      let row = same_kids IsValue empty op old new h ss last keeps in
      record { front = refl; back = ap (λ ps. pair_of s.item ∷ ps) row.pairs; tallies = row.tallies; kids = λ l r o. row.kids false r o }
  same_others old new h (s ∷ ss) last (suc i) keeps =
      let t = same_tree IsValue empty op old new h s.kid (λ k u. keeps k (omega arith)) in
      let rest = same_others old new h ss last i (λ k u. keeps k (omega arith)) in
      record {
        front = ap (λ ps. ps ++ pair_of s.item ∷ before (pairs_at new h) ss i) t.pairs ∙ ap (λ ps. pairs_at old h s.kid ++ pair_of s.item ∷ ps) rest.front;
        back = rest.back;
        tallies = λ w. let a = t.weighs w in let b = rest.tallies w in omega arith;
        kids = λ l r o. (t.sound l false o.0, rest.kids false r o.1);
      }

  -- other children that have nothing of what moves
  pub others_beside : (old new : Store M) (h : ℕ) (slots : List (Slot M)) (last i : ℕ) (f g : ℕ → ℕ) → Moves (look old) (look new) f g → ((k : ℕ) → others (times k (plain old) h) slots last i + (f k + vacancy (look old k)) ≤ 1) → SameOthers IsValue empty op (plain old) (plain new) h slots last i
  others_beside old new h slots last i f g m apart =
      same_others (plain old) (plain new) h slots last i (λ k u. let a = apart k in ap (option_map plain_node) (m.kept k (omega arith)))

  -- the opened child, alone
  pub child_opened : (s : Store M) (h : ℕ) (l r : Bool) (slots : List (Slot M)) (last i : ℕ) (child : List (Slot M)) (end : ℕ) → IsNested IsValue empty op s h l r slots last i child end → IsOpened IsValue empty op s (kid_of slots last i) h (left_of l slots i) (right_of r slots i) child end
  child_opened s h l r slots last i child end n = record { items = n.child_items; kids = n.child_kids; owned = λ k. let o = n.owned k in omega arith; linked = n.child_linked }

  -- the child, which has items now, is closed, and what it became stands in its place
  pub settled : (old mid new : Store M) (h : ℕ) (l r : Bool) (slots : List (Slot M)) (last i : ℕ) (child : List (Slot M)) (end : ℕ) (slots' : List (Slot M)) (last' i' : ℕ) (child' : List (Slot M)) (end' : ℕ) (nodes : List (Slot M)) (stop : ℕ) → IsFilled IsValue empty op old mid h l r slots last i child end slots' last' i' child' end' → IsClosed IsValue empty op mid new (kid_of slots' last' i') h (left_of l slots' i') (right_of r slots' i') child' end' nodes stop → length nodes ≤ (length child - 3) + (1 - length child) → IsSettled IsValue empty op old new h l r slots last i child end (spliced slots' i' nodes stop) (spliced_last slots' last' i' stop)
  settled old mid new h l r slots last i child end slots' last' i' child' end' nodes stop f c few =
      let n = f.nested in
      let apart : (k : ℕ) → others (times k (plain mid) (suc h)) slots' last' i' + (only k (kid_of slots' last' i') + row_times k (plain mid) h child' end' + vacancy (look mid k)) ≤ 1 = λ k. let o = n.owned k in omega arith in
      let stays = others_beside mid new (suc h) slots' last' i' (λ k. only k (kid_of slots' last' i') + row_times k (plain mid) h child' end') (λ k. row_times k (plain new) (suc h) nodes stop) c.moves apart in
      let closing : Moves (look mid) (look new) (λ k. nested_times k (plain mid) h slots' last' i' child' end') (λ k. row_times k (plain new) (suc h) (spliced slots' i' nodes stop) (spliced_last slots' last' i' stop)) = record {
        counts = λ k. let a = c.moves.counts k in let t = tally-spliced (times k (plain new) (suc h)) slots' last' i' nodes stop in let e = stays.tallies (only k) in omega arith;
        kept = λ k z. c.moves.kept k (omega arith);
      } in
      record {
        linked = kids-spliced (λ _ _ k. IsLinked new (suc h) k) false false slots' last' i' nodes stop (others_linked mid new (suc h) slots' last' i' (λ k. only k (kid_of slots' last' i') + row_times k (plain mid) h child' end') (λ k. row_times k (plain new) (suc h) nodes stop) c.moves apart n.linked) (any_place (λ k. IsLinked new (suc h) k) false false (left_of false slots' i') (right_of false slots' i') nodes stop c.linked);
        fits = let e = length-spliced slots' i' nodes stop in let a = f.fits in omega arith;
        items = all-spliced (λ item. IsValue item.value) slots' i' nodes stop n.items c.items;
        kids = kids-spliced (λ l r k. IsAt IsValue empty op (plain new) (suc h) l r k) l r slots' last' i' nodes stop (stays.kids l r n.beside) c.kids;
        pairs = woven-spliced (pairs_at (plain new) (suc h)) slots' last' i' nodes stop ∙ ap (λ ps. ps ++ woven (pairs_at (plain new) (suc h)) nodes stop ++ behind (pairs_at (plain new) (suc h)) slots' last' i') stays.front ∙ ap (λ ps. before (pairs_at (plain mid) (suc h)) slots' i' ++ ps ++ behind (pairs_at (plain new) (suc h)) slots' last' i') c.pairs ∙ ap (λ ps. before (pairs_at (plain mid) (suc h)) slots' i' ++ woven (pairs_at (plain mid) h) child' end' ++ ps) stays.back ∙ f.pairs;
        moves = moves-then (look old) (look mid) (look new) (λ k. nested_times k (plain old) h slots last i child end) (λ k. nested_times k (plain mid) h slots' last' i' child' end') (λ k. row_times k (plain new) (suc h) (spliced slots' i' nodes stop) (spliced_last slots' last' i' stop)) f.moves closing;
        room = let t = tally-spliced (size (plain new) (suc h)) slots' last' i' nodes stop in let e = stays.tallies (λ _. 1) in let q = c.room in let x = f.room in omega arith;
      }

  pub filled_already : (s : Store M) (h : ℕ) (l r : Bool) (slots : List (Slot M)) (last i : ℕ) (child : List (Slot M)) (end : ℕ) → IsNested IsValue empty op s h l r slots last i child end → 1 ≤ length child → (4 ≤ length child → 1 ≤ s.spare) → IsFilled IsValue empty op s s h l r slots last i child end slots last i child end
  filled_already s h l r slots last i child end n some split = record {
    nested = n;
    pairs = refl;
    moves = record { counts = λ k. omega arith; kept = λ k z. refl };
    room = refl;
    some = some;
    fits = omega arith;
    split = split;
    freed = λ none. absurd (omega arith);
  }

  -- the neighbours of an opened child are sound
  pub next_there : (old : Store M) (h : ℕ) (l r : Bool) (slots : List (Slot M)) (last i : ℕ) (child : List (Slot M)) (end : ℕ) (s : Slot M) → IsNested IsValue empty op old h l r slots last i child end → slice_get slots i ≡ Some s → IsAt IsValue empty op (plain old) (suc h) false (right_of r (thinned slots i) i) (kid_of slots last (suc i))
  next_there old h l r slots last i child end s n is = (kids-thinned (λ l r k. IsAt IsValue empty op (plain old) (suc h) l r k) l r slots last i s is n.beside).0

  pub previous_there : (old : Store M) (h : ℕ) (l r : Bool) (slots : List (Slot M)) (last i j : ℕ) (child : List (Slot M)) (end : ℕ) (s : Slot M) → i ≡ suc j → IsNested IsValue empty op old h l r slots last i child end → slice_get slots j ≡ Some s → IsAt IsValue empty op (plain old) (suc h) (left_of l slots j) false (kid_of slots last j)
  previous_there old h l r slots last i j child end s e n is =
      let n' : IsNested IsValue empty op old h l r slots last (suc j) child end = subst (λ k. IsNested IsValue empty op old h l r slots last k child end) e n in
      (kids-thinned_next (λ l r k. IsAt IsValue empty op (plain old) (suc h) l r k) l r slots last j s is n'.beside).0

  -- the next child's items come to the opened child, which has none
  module _ (old new : Store M) (h : ℕ) (l r : Bool) (slots : List (Slot M)) (last i : ℕ) (child : List (Slot M)) (end : ℕ) (s : Slot M) (node : Node M) (n : IsNested IsValue empty op old h l r slots last i child end) (is : slice_get slots i ≡ Some s) (lt : i < length slots) (none : length child ≡ 0) where
    pub filled_next : look old (kid_of slots last (suc i)) ≡ Some node → Puts old new (kid_of slots last (suc i)) None → new.spare ≡ old.spare + 1 → IsFilled IsValue empty op old new h l r slots last i child end (thinned slots i) (thinned_last slots last i) i (child ++ record { kid = end; item = s.item } ∷ slots_of node) (last_of node)
    filled_next found freed spare =
        let next = kid_of slots last (suc i) in
        let ns = slots_of node in
        let nl = last_of node in
        let ts = thinned slots i in
        let tl = thinned_last slots last i in
        let middle : Slot M = record { kid = end; item = s.item } in
        let at_old : Bool → Bool → ℕ → Type 0 = λ l r k. IsAt IsValue empty op (plain old) h l r k in
        let is_node : plain old next ≡ Some (plain_node node) = ap (option_map plain_node) found in
        let kids = kids-thinned (λ l r k. IsAt IsValue empty op (plain old) (suc h) l r k) l r slots last i s is n.beside in
        let inner = node_of IsValue empty op (plain old) h false (right_of r ts i) next (plain_node node) is_node kids.0 in
        let weighs = weight_of IsValue empty op (plain old) h false (right_of r ts i) next (plain_node node) is_node in
        let fm = freed_moves old new next freed in
        let split : (k : ℕ) → others (times k (plain old) (suc h)) slots last i ≡ (only k next + row_times k (plain old) h ns nl) + others (times k (plain old) (suc h)) ts tl i = λ k. let a = others-thinned (times k (plain old) (suc h)) slots last i s is in let b = weighs (only k) in omega arith in
        let from_child : (k : ℕ) → row_times k (plain old) h child end + (only k next + vacancy (look old k)) ≤ 1 = λ k. let o = n.owned k in let q = split k in omega arith in
        let from_neighbour : (k : ℕ) → row_times k (plain old) h ns nl + (only k next + vacancy (look old k)) ≤ 1 = λ k. let o = n.owned k in let q = split k in omega arith in
        let from_others : (k : ℕ) → others (times k (plain old) (suc h)) ts tl i + (only k next + vacancy (look old k)) ≤ 1 = λ k. let o = n.owned k in let q = split k in omega arith in
        let row = row_beside IsValue empty op old new h child end (λ k. only k next) (λ k. 0) fm from_child in
        let neighbour = row_beside IsValue empty op old new h ns nl (λ k. only k next) (λ k. 0) fm from_neighbour in
        let stays = others_beside old new (suc h) ts tl i (λ k. only k next) (λ k. 0) fm from_others in
        let links = kids-thinned (λ _ _ k. IsLinked old (suc h) k) false false slots last i s is n.linked in
        let same_kid : (k : ℕ) → only k (kid_of ts tl i) ≡ only k (kid_of slots last i) = λ k. ap (only k) (kid-thinned slots last i s is) in
        let joined : (w : ℕ → ℕ) → tally (weigh w (plain new) h) (child ++ middle ∷ ns) nl ≡ tally (weigh w (plain old) h) child end + tally (weigh w (plain old) h) ns nl = λ w. let a = tally-join (weigh w (plain new) h) child middle ns nl in let b = row.tallies w in let c = neighbour.tallies w in omega arith in
        let items = all-thinned (λ item. IsValue item.value) slots i s is n.items in
        let child_left : KidsAt at_old (left_of l ts i) false child end = subst (λ b. KidsAt at_old b false child end) (sym (left-thinned l slots i s is)) (subst (λ b. KidsAt at_old (left_of l slots i) b child end) (right-inner r slots i s is) n.child_kids) in
        let count : (k : ℕ) → nested_times k (plain new) h ts tl i (child ++ middle ∷ ns) nl + vacancy (look new k) ≤ nested_times k (plain old) h slots last i child end + vacancy (look old k) = λ k. let a = fm.counts k in let b = joined (only k) in let c = stays.tallies (only k) in let d = same_kid k in let q = split k in omega arith in
        record {
          nested = record {
            within = let e = length-thinned slots i s is in omega arith;
            items = items.1;
            beside = stays.kids l r kids.1;
            child_items = all_join (λ s. IsValue s.item.value) child middle ns n.child_items items.0 inner.items;
            child_kids = kids-join (λ l r k. IsAt IsValue empty op (plain new) h l r k) (left_of l ts i) (right_of r ts i) child middle ns nl (row.kids (left_of l ts i) false child_left) (neighbour.kids false (right_of r ts i) inner.kids);
            owned = λ k. let c = count k in let o = n.owned k in omega arith;
            linked = others_linked old new (suc h) ts tl i (λ k. only k next) (λ k. 0) fm from_others links.1;
            child_linked = kids-join (λ _ _ k. IsLinked new h k) false false child middle ns nl (row_linked old new h child end (λ k. only k next) (λ k. 0) fm from_child n.child_linked) (row_linked old new h ns nl (λ k. only k next) (λ k. 0) fm from_neighbour (linked_kids old h next (plain_node node) is_node links.0));
          };
          pairs =
              let a : before (pairs_at (plain new) (suc h)) ts i ≡ before (pairs_at (plain old) (suc h)) slots i = stays.front ∙ before-thinned (pairs_at (plain old) (suc h)) slots last i s is in
              let b : woven (pairs_at (plain new) h) (child ++ middle ∷ ns) nl ≡ woven (pairs_at (plain old) h) child end ++ pair_of s.item ∷ woven (pairs_at (plain old) h) ns nl = woven-join (pairs_at (plain new) h) child middle ns nl ∙ ap (λ ps. ps ++ pair_of s.item ∷ woven (pairs_at (plain new) h) ns nl) row.pairs ∙ ap (λ ps. woven (pairs_at (plain old) h) child end ++ pair_of s.item ∷ ps) neighbour.pairs in
              let d : behind (pairs_at (plain old) (suc h)) slots last i ≡ pair_of s.item ∷ (woven (pairs_at (plain old) h) ns nl ++ behind (pairs_at (plain old) (suc h)) ts tl i) = behind-thinned (pairs_at (plain old) (suc h)) slots last i s is ∙ ap (λ ps. pair_of s.item ∷ (ps ++ behind (pairs_at (plain old) (suc h)) ts tl i)) (pairs_of IsValue empty op (plain old) h false (right_of r ts i) next (plain_node node) is_node) in
              ap (λ ps. ps ++ woven (pairs_at (plain new) h) (child ++ middle ∷ ns) nl ++ behind (pairs_at (plain new) (suc h)) ts tl i) a ∙ ap (λ ps. before (pairs_at (plain old) (suc h)) slots i ++ ps ++ behind (pairs_at (plain new) (suc h)) ts tl i) b ∙ ap (λ ps. before (pairs_at (plain old) (suc h)) slots i ++ (woven (pairs_at (plain old) h) child end ++ pair_of s.item ∷ woven (pairs_at (plain old) h) ns nl) ++ ps) stays.back ∙ regroup_next (before (pairs_at (plain old) (suc h)) slots i) (woven (pairs_at (plain old) h) child end) (pair_of s.item) (woven (pairs_at (plain old) h) ns nl) (behind (pairs_at (plain old) (suc h)) ts tl i) ∙ ap (λ ps. before (pairs_at (plain old) (suc h)) slots i ++ woven (pairs_at (plain old) h) child end ++ ps) (sym d);
          moves = record { counts = count; kept = λ k z. let q = split k in fm.kept k (omega arith) };
          room =
              let a = joined (λ _. 1) in
              let b = stays.tallies (λ _. 1) in
              let c = others-thinned (size (plain old) (suc h)) slots last i s is in
              let d = weighs (λ _. 1) in
              omega arith;
          some = let e = length-append child (middle ∷ ns) in omega arith;
          fits = let e = length-thinned slots i s is in omega arith;
          split = λ f. omega arith;
          freed = λ f. omega arith;
        }

    -- the opened child's number is left alone
    pub next_apart : look old (kid_of slots last (suc i)) ≡ Some node → Puts old new (kid_of slots last (suc i)) None → look new (kid_of (thinned slots i) (thinned_last slots last i) i) ≡ look old (kid_of slots last i)
    next_apart found freed =
        let kid = kid_of slots last i in
        let next = kid_of slots last (suc i) in
        let kids = kids-thinned (λ l r k. IsAt IsValue empty op (plain old) (suc h) l r k) l r slots last i s is n.beside in
        let a = others-thinned (times kid (plain old) (suc h)) slots last i s is in
        let b = weight_of IsValue empty op (plain old) h false (right_of r (thinned slots i) i) next (plain_node node) (ap (option_map plain_node) found) (only kid) in
        let o = n.owned kid in
        let own = only_self kid in
        ap (look new) (kid-thinned slots last i s is) ∙ (freed_moves old new next freed).kept kid (omega arith)

  -- the opened child's items, of which there are none, come to the previous child
  module _ (old new : Store M) (h : ℕ) (l r : Bool) (slots : List (Slot M)) (last j : ℕ) (child : List (Slot M)) (end : ℕ) (s : Slot M) (node : Node M) (n : IsNested IsValue empty op old h l r slots last (suc j) child end) (is : slice_get slots j ≡ Some s) (none : length child ≡ 0) where
    filled_back : look old (kid_of slots last j) ≡ Some node → Puts old new (kid_of slots last (suc j)) None → new.spare ≡ old.spare + 1 → IsFilled IsValue empty op old new h l r slots last (suc j) child end (thinned slots j) (thinned_last slots last j) j (slots_of node ++ record { kid = last_of node; item = s.item } ∷ child) end
    filled_back found freed spare =
        let previous = kid_of slots last j in
        let gone = kid_of slots last (suc j) in
        let ns = slots_of node in
        let nl = last_of node in
        let ts = thinned slots j in
        let tl = thinned_last slots last j in
        let middle : Slot M = record { kid = nl; item = s.item } in
        let at_old : Bool → Bool → ℕ → Type 0 = λ l r k. IsAt IsValue empty op (plain old) h l r k in
        let is_node : plain old previous ≡ Some (plain_node node) = ap (option_map plain_node) found in
        let kids = kids-thinned_next (λ l r k. IsAt IsValue empty op (plain old) (suc h) l r k) l r slots last j s is n.beside in
        let inner = node_of IsValue empty op (plain old) h (left_of l slots j) false previous (plain_node node) is_node kids.0 in
        let weighs = weight_of IsValue empty op (plain old) h (left_of l slots j) false previous (plain_node node) is_node in
        let fm = freed_moves old new gone freed in
        let split : (k : ℕ) → others (times k (plain old) (suc h)) slots last (suc j) ≡ (only k previous + row_times k (plain old) h ns nl) + others (times k (plain old) (suc h)) ts tl j = λ k. let a = others-thinned_next (times k (plain old) (suc h)) slots last j s is in let b = weighs (only k) in omega arith in
        let from_child : (k : ℕ) → row_times k (plain old) h child end + (only k gone + vacancy (look old k)) ≤ 1 = λ k. let o = n.owned k in let q = split k in omega arith in
        let from_neighbour : (k : ℕ) → row_times k (plain old) h ns nl + (only k gone + vacancy (look old k)) ≤ 1 = λ k. let o = n.owned k in let q = split k in omega arith in
        let from_others : (k : ℕ) → others (times k (plain old) (suc h)) ts tl j + (only k gone + vacancy (look old k)) ≤ 1 = λ k. let o = n.owned k in let q = split k in omega arith in
        let row = row_beside IsValue empty op old new h child end (λ k. only k gone) (λ k. 0) fm from_child in
        let neighbour = row_beside IsValue empty op old new h ns nl (λ k. only k gone) (λ k. 0) fm from_neighbour in
        let stays = others_beside old new (suc h) ts tl j (λ k. only k gone) (λ k. 0) fm from_others in
        let links = kids-thinned_next (λ _ _ k. IsLinked old (suc h) k) false false slots last j s is n.linked in
        let same_kid : (k : ℕ) → only k (kid_of ts tl j) ≡ only k previous = λ k. ap (only k) (kid-thinned slots last j s is) in
        let joined : (w : ℕ → ℕ) → tally (weigh w (plain new) h) (ns ++ middle ∷ child) end ≡ tally (weigh w (plain old) h) ns nl + tally (weigh w (plain old) h) child end = λ w. let a = tally-join (weigh w (plain new) h) ns middle child end in let b = row.tallies w in let c = neighbour.tallies w in omega arith in
        let items = all-thinned (λ item. IsValue item.value) slots j s is n.items in
        let neighbour_left : KidsAt at_old (left_of l ts j) false ns nl = subst (λ b. KidsAt at_old b false ns nl) (sym (left-thinned l slots j s is)) inner.kids in
        let child_right : KidsAt at_old false (right_of r ts j) child end = subst (λ b. KidsAt at_old false b child end) (right-thinned_next r slots j s is) (subst (λ b. KidsAt at_old b (right_of r slots (suc j)) child end) (left-next l slots j s is) n.child_kids) in
        let count : (k : ℕ) → nested_times k (plain new) h ts tl j (ns ++ middle ∷ child) end + vacancy (look new k) ≤ nested_times k (plain old) h slots last (suc j) child end + vacancy (look old k) = λ k. let a = fm.counts k in let b = joined (only k) in let c = stays.tallies (only k) in let d = same_kid k in let q = split k in omega arith in
        record {
          nested = record {
            within = let e = length-thinned slots j s is in let w = n.within in omega arith;
            items = items.1;
            beside = stays.kids l r kids.1;
            child_items = all_join (λ s. IsValue s.item.value) ns middle child inner.items items.0 n.child_items;
            child_kids = kids-join (λ l r k. IsAt IsValue empty op (plain new) h l r k) (left_of l ts j) (right_of r ts j) ns middle child end (neighbour.kids (left_of l ts j) false neighbour_left) (row.kids false (right_of r ts j) child_right);
            owned = λ k. let c = count k in let o = n.owned k in omega arith;
            linked = others_linked old new (suc h) ts tl j (λ k. only k gone) (λ k. 0) fm from_others links.1;
            child_linked = kids-join (λ _ _ k. IsLinked new h k) false false ns middle child end (row_linked old new h ns nl (λ k. only k gone) (λ k. 0) fm from_neighbour (linked_kids old h previous (plain_node node) is_node links.0)) (row_linked old new h child end (λ k. only k gone) (λ k. 0) fm from_child n.child_linked);
          };
          pairs =
              let a : before (pairs_at (plain old) (suc h)) slots (suc j) ≡ before (pairs_at (plain old) (suc h)) ts j ++ woven (pairs_at (plain old) h) ns nl ++ pair_of s.item ∷ [] = before-thinned_next (pairs_at (plain old) (suc h)) slots last j s is ∙ ap (λ ps. before (pairs_at (plain old) (suc h)) ts j ++ ps ++ pair_of s.item ∷ []) (pairs_of IsValue empty op (plain old) h (left_of l slots j) false previous (plain_node node) is_node) in
              let b : woven (pairs_at (plain new) h) (ns ++ middle ∷ child) end ≡ woven (pairs_at (plain old) h) ns nl ++ pair_of s.item ∷ woven (pairs_at (plain old) h) child end = woven-join (pairs_at (plain new) h) ns middle child end ∙ ap (λ ps. ps ++ pair_of s.item ∷ woven (pairs_at (plain new) h) child end) neighbour.pairs ∙ ap (λ ps. woven (pairs_at (plain old) h) ns nl ++ pair_of s.item ∷ ps) row.pairs in
              let d : behind (pairs_at (plain new) (suc h)) ts tl j ≡ behind (pairs_at (plain old) (suc h)) slots last (suc j) = stays.back ∙ sym (behind-thinned_next (pairs_at (plain old) (suc h)) slots last j s is) in
              ap (λ ps. ps ++ woven (pairs_at (plain new) h) (ns ++ middle ∷ child) end ++ behind (pairs_at (plain new) (suc h)) ts tl j) stays.front ∙ ap (λ ps. before (pairs_at (plain old) (suc h)) ts j ++ ps ++ behind (pairs_at (plain new) (suc h)) ts tl j) b ∙ ap (λ ps. before (pairs_at (plain old) (suc h)) ts j ++ (woven (pairs_at (plain old) h) ns nl ++ pair_of s.item ∷ woven (pairs_at (plain old) h) child end) ++ ps) d ∙ regroup_back (before (pairs_at (plain old) (suc h)) ts j) (woven (pairs_at (plain old) h) ns nl) (pair_of s.item) (woven (pairs_at (plain old) h) child end) (behind (pairs_at (plain old) (suc h)) slots last (suc j)) ∙ ap (λ ps. ps ++ woven (pairs_at (plain old) h) child end ++ behind (pairs_at (plain old) (suc h)) slots last (suc j)) (sym a);
          moves = record { counts = count; kept = λ k z. fm.kept k (omega arith) };
          room =
              let a = joined (λ _. 1) in
              let b = stays.tallies (λ _. 1) in
              let c = others-thinned_next (size (plain old) (suc h)) slots last j s is in
              let d = weighs (λ _. 1) in
              omega arith;
          some = let e = length-append ns (middle ∷ child) in omega arith;
          fits = let e = length-thinned slots j s is in omega arith;
          split = λ f. omega arith;
          freed = λ f. omega arith;
        }

  module _ (old : Store M) (h : ℕ) (l r : Bool) (slots : List (Slot M)) (last i j : ℕ) (child : List (Slot M)) (end : ℕ) (s : Slot M) (e : i ≡ suc j) (n : IsNested IsValue empty op old h l r slots last i child end) (is : slice_get slots j ≡ Some s) (none : length child ≡ 0) where
    pub filled_previous : (new : Store M) (node : Node M) → look old (kid_of slots last j) ≡ Some node → Puts old new (kid_of slots last i) None → new.spare ≡ old.spare + 1 → IsFilled IsValue empty op old new h l r slots last i child end (thinned slots j) (thinned_last slots last j) j (slots_of node ++ record { kid = last_of node; item = s.item } ∷ child) end
    filled_previous new node found freed spare =
        subst (λ k. IsFilled IsValue empty op old new h l r slots last k child end (thinned slots j) (thinned_last slots last j) j (slots_of node ++ record { kid = last_of node; item = s.item } ∷ child) end) (sym e)
        (filled_back old new h l r slots last j child end s node (subst (λ k. IsNested IsValue empty op old h l r slots last k child end) e n) is none found (subst (λ k. Puts old new (kid_of slots last k) None) e freed) spare)
