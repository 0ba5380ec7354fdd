-- A tree whose first item goes, at its left edge, with all that is above it as it was.
use Rattle.std.proofs.Common.{◌≡◌, ◌≤◌, ◌+◌, ◌++◌, ℕ, suc, Bool, true, false, List, [], ◌∷◌, Option, None, Some, IsSome, length, refl, sym, ap, subst, ◌∙◌, arith, append_assoc}
use Rattle.std.specs.Prelude.{IfSome, IfNone, slice_index}
use Rattle.std.specs.Option.{option_map}
use Rattle.agg_laws.specs.Laws.{total}
use Rattle.agg_laws.specs.Pairs.{values_of}
use Rattle.fiba_nodes.specs.declared.slot.Slot.{Slot}
use Rattle.fiba_nodes.specs.declared.item.Item.{Item}
use Rattle.fiba_nodes.specs.declared.node.Node.{Node}
use Rattle.fiba_nodes.specs.declared.change.Change.TheVariants.{First}
use Rattle.fiba_nodes.specs.Rows.{last_of, more_slots, plain_node, slots_of}
use Rattle.fiba_nodes.specs.Stores.{Store, full_nodes, held, look}
use Rattle.fiba_nodes.specs.Trees.{HasUp, IsAt, IsLinked, IsNode, KidsAt, Moves, only, pair_of, pairs_at, plain, row_times, tally, times, vacancy, weigh, woven}
use Rattle.fiba_nodes.specs.Kids.{kid_of, left_of, right_of}
use Rattle.fiba_nodes.proofs.Fullness.{fullness_few, held_few}
use Rattle.fiba_nodes.specs.Changes.{Applies, CanApply, IsApplied, IsPassed, IsRank, incoming, leaf_pairs, pairs_of}
use Rattle.fiba_nodes.proofs.Frames.{SameRow}
use Rattle.fiba_nodes.proofs.Sound.{moves-then, node_of, only_self, tree_of, weight_of}
use Rattle.fiba_nodes.proofs.Sound as sound
use Rattle.fiba_nodes.proofs.Linked.{root_counted, tree_linked}
use Rattle.fiba_nodes.proofs.Writes.{row_beside}
use Rattle.fiba_nodes.proofs.Nesting.{few_slots}
use Rattle.fiba_nodes.proofs.Below.{applied_leaf}
use Rattle.std.proofs.lemmas.List.Elements.{All-tail}
use Rattle.fiba_finger.specs.Pulls.{IsBare, IsDrained, IsKept, IsPulled}
use Rattle.fiba_finger.proofs.Regrown.{up_stays}

pub none_map : {X P Q : Type 0} (o : Option X) → (P → Q) → IfNone o P → IfNone o Q
none_map None f h = f h
none_map (Some x) f h = tt

pub some_map : {X : Type 0} (P Q : X → Type 0) (o : Option X) → ((x : X) → P x → Q x) → IfSome o P → IfSome o Q
some_map P Q None f h = tt
some_map P Q (Some x) f h = f x h

pub taken_some : {X : Type 0} (taken : Option X) → IsSome taken → taken ≡ None → ⊥
taken_some None s e = let t : false ≡ true = s in cc
taken_some (Some x) s e = cc

regroup : {X : Type 0} (f t b g : List X) → (f ++ t ++ b) ++ g ≡ f ++ t ++ (b ++ g)
regroup f t b g = simp append_assoc

module _ {M : Type 0} where
  -- the first item stands at the first place
  pub rank_first : (slots : List (Slot M)) → IsRank First slots 0
  rank_first slots = record { within = omega arith; low = λ j s lt is. absurd (omega arith); high = λ s is. refl }

  pub passed_first : (slots : List (Slot M)) → IsPassed First slots 0
  passed_first slots = λ s is e. refl

module _ {M : Type 0} (old new : Store M) where
  -- children that stay know their parent still
  relinked : (h at : ℕ) (slots : List (Slot M)) (last : ℕ) (f g : ℕ → ℕ) → Moves (look old) (look new) f g → ((k : ℕ) → row_times k (plain old) h slots last + (f k + vacancy (look old k)) ≤ 1) → KidsAt (λ _ _ k. HasUp old h at k × IsLinked old h k) false false slots last → KidsAt (λ _ _ k. HasUp new h at k × IsLinked new h k) false false slots last
  relinked h at [] last f g m apart k =
      (up_stays old new h at last (λ lt. m.kept last (let a = apart last in let s = only_self last in let r = root_counted (plain old) h last last lt in omega arith)) k.0, tree_linked old new h last f g m (λ n. let a = apart n in omega arith) k.1)
  relinked h at (x ∷ xs) last f g m apart k =
      ((up_stays old new h at x.kid (λ lt. m.kept x.kid (let a = apart x.kid in let s = only_self x.kid in let r = root_counted (plain old) h x.kid x.kid lt in omega arith)) k.0.0, tree_linked old new h x.kid f g m (λ n. let a = apart n in omega arith) k.0.1), relinked h at xs last f g m (λ n. let a = apart n in omega arith) k.1)

  linked_first : (h at : ℕ) (s : Slot M) (ss : List (Slot M)) (last : ℕ) (agg : M) (leaf : Bool) (f g : ℕ → ℕ) → plain old at ≡ Some (record { slots = s ∷ ss; last = last; agg = agg; leaf = leaf }) → plain new at ≡ Some (record { slots = s ∷ ss; last = last; agg = agg; leaf = leaf }) → Moves (look old) (look new) f g → ((k : ℕ) → row_times k (plain old) h ss last + (f k + vacancy (look old k)) ≤ 1) → IsLinked old (suc h) at → (HasUp old h at s.kid → HasUp new h at s.kid) → IsLinked new h s.kid → IsLinked new (suc h) at
  unfolding IsLinked
  linked_first h at s ss last agg leaf f g was is m apart k up linked =
      let kids : KidsAt (λ _ _ j. HasUp old h at j × IsLinked old h j) false false (s ∷ ss) last = rw was at k in
      rw is ((up kids.0.0, linked), relinked h at ss last f g m apart kids.1)

module _ {M : Type 0} (IsValue : M → Type 0) (empty : M) (op : M → M → M) where
  -- the first child, by the row that is read
  pub first_done : (old mid : Store M) (c : ℕ) (r : Bool) (node : Node M) (slots : List (Slot M)) (last kid : ℕ) (taken : Option (Item M)) (end : ℕ) → slots ≡ slots_of node → kid ≡ kid_of (slots_of node) (last_of node) 0 → IsApplied IsValue empty op old mid kid c true false First taken [] end → IsApplied IsValue empty op old mid (kid_of slots last 0) c (left_of true slots 0) (right_of r slots 0) First taken [] end
  first_done old mid c r node slots last kid taken end a k d =
      rw a (subst (λ j. IsApplied IsValue empty op old mid j c true false First taken [] end) k d)

  -- a node isn't part of its first child's tree
  pub above_stays : (old mid : Store M) (at b : ℕ) (r : Bool) (node : Node M) (kid c : ℕ) (g : ℕ → ℕ) → b ≡ suc c → kid ≡ kid_of (slots_of node) (last_of node) 0 → CanApply IsValue empty op old at b true r First → look old at ≡ Some node → Moves (look old) (look mid) (λ k. times k (plain old) b kid) g → look mid at ≡ look old at
  above_stays old mid at b r node kid c g e same can found m =
      let w = weight_of IsValue empty op (plain old) b true r at (plain_node node) (ap (option_map plain_node) found) (only at) in
      let u = can.owned at in
      let s = only_self at in
      let k : times at (plain old) b kid ≡ times at (plain old) b (kid_of (slots_of node) (last_of node) 0) = ap (times at (plain old) b) same in
      m.kept at (omega arith)

  -- an opened node with no more items than it had leaves no more full nodes
  pub full_less : (mid new : Store M) (at b : ℕ) (l r : Bool) (slots : List (Slot M)) (last : ℕ) (o : Option ℕ) → IfNone o (IsKept IsValue empty op mid new at b l r slots last) → IfSome o (λ kid. IsBare mid new slots last kid) → length slots ≤ held (look mid at) → full_nodes new ≤ full_nodes mid
  full_less mid new at b l r slots last None k bare less =
      let few = held_few (look mid at) in
      let x = fullness_few (length slots) (omega arith) in
      let y = fullness_few (held (look mid at)) few in
      let f = k.full in
      omega arith
  full_less mid new at b l r slots last (Some kid) k bare less = let e = ap (λ s. full_nodes s) bare.same in omega arith

  -- one level up: only the first child's tree changed, which the node doesn't count
  module _ (old new : Store M) (at c : ℕ) (r : Bool) (s : Slot M) (ss : List (Slot M)) (last : ℕ) (agg : M) (leaf : Bool) (can : CanApply IsValue empty op old at (suc c) true r First) (is : plain old at ≡ Some (record { slots = s ∷ ss; last = last; agg = agg; leaf = leaf })) (p : IsPulled IsValue empty op old new s.kid c false) where
    weight : (w : ℕ → ℕ) → weigh w (plain old) (suc (suc c)) at ≡ w at + (weigh w (plain old) (suc c) s.kid + tally (weigh w (plain old) (suc c)) ss last)
    weight w = weight_of IsValue empty op (plain old) (suc c) true r at (record { slots = s ∷ ss; last = last; agg = agg; leaf = leaf }) is w

    apart : (k : ℕ) → row_times k (plain old) (suc c) ss last + (times k (plain old) (suc c) s.kid + vacancy (look old k)) ≤ 1
    apart k = let w = weight (only k) in let u = can.owned k in omega arith

    stays : look new at ≡ look old at
    stays = p.moves.kept at (let w = weight (only at) in let u = can.owned at in let s = only_self at in omega arith)

    is_new : plain new at ≡ Some (record { slots = s ∷ ss; last = last; agg = agg; leaf = leaf })
    is_new = ap (option_map plain_node) stays ∙ is

    node : IsNode IsValue empty op (pairs_at (plain old) (suc c)) (λ l r k. IsAt IsValue empty op (plain old) (suc c) l r k) true r (suc c) (record { slots = s ∷ ss; last = last; agg = agg; leaf = leaf })
    node = node_of IsValue empty op (plain old) (suc c) true r at (record { slots = s ∷ ss; last = last; agg = agg; leaf = leaf }) is can.sound

    rest : SameRow IsValue empty op (plain old) (plain new) (suc c) ss last
    rest = row_beside IsValue empty op old new (suc c) ss last (λ k. times k (plain old) (suc c) s.kid) (λ k. times k (plain new) (suc c) s.kid) p.moves apart

    weighs : (w : ℕ → ℕ) → weigh w (plain new) (suc (suc c)) at ≡ w at + (weigh w (plain new) (suc c) s.kid + tally (weigh w (plain old) (suc c)) ss last)
    weighs w = let a = weight_of IsValue empty op (plain new) (suc c) true r at (record { slots = s ∷ ss; last = last; agg = agg; leaf = leaf }) is_new w in let t = rest.tallies w in omega arith

    sound_again : IsAt IsValue empty op (plain new) (suc (suc c)) true r at
    sound_again = tree_of IsValue empty op (plain new) (suc c) true r at (record { slots = s ∷ ss; last = last; agg = agg; leaf = leaf }) is_new (record {
      some = node.some;
      bottom = node.bottom;
      items = node.items;
      aggregate = node.aggregate ∙ ap (λ ps. total empty op (values_of (pair_of s.item ∷ ps))) (sym (rest.shows false r));
      kids = (p.sound, rest.kids false r node.kids.1);
    })

    pub pulled_up : IsPulled IsValue empty op old new at (suc c) r
    pulled_up =
        let tail : List (ℕ × M) = pair_of s.item ∷ woven (pairs_at (plain old) (suc c)) ss last in
        let a = p.applies in
        let was = sound.pairs_of IsValue empty op (plain old) (suc c) true r at (record { slots = s ∷ ss; last = last; agg = agg; leaf = leaf }) is in
        let will = sound.pairs_of IsValue empty op (plain new) (suc c) true r at (record { slots = s ∷ ss; last = last; agg = agg; leaf = leaf }) is_new in
        record {
          taken = p.taken;
          sound = sound_again;
          applies = record {
            front = a.front;
            back = a.back ++ tail;
            was = was ∙ ap (λ ps. ps ++ tail) a.was ∙ regroup a.front (pairs_of p.taken) a.back tail;
            is = will ∙ ap (λ ps. pairs_at (plain new) (suc c) s.kid ++ pair_of s.item ∷ ps) rest.pairs ∙ ap (λ ps. ps ++ tail) a.is ∙ regroup a.front (pairs_of (incoming First p.taken)) a.back tail;
            met = a.met;
            gap = λ e. absurd (taken_some p.taken a.first.0 e);
            first = a.first;
          };
          moves = record {
            counts = λ k. let w = weight (only k) in let v = weighs (only k) in let m = p.moves.counts k in omega arith;
            kept = λ k z. let w = weight (only k) in p.moves.kept k (omega arith);
          };
          room = let w = weight (λ _. 1) in let v = weighs (λ _. 1) in let m = p.room in omega arith;
          linked = linked_first old new (suc c) at s ss last agg leaf (λ k. times k (plain old) (suc c) s.kid) (λ k. times k (plain new) (suc c) s.kid) is is_new p.moves apart can.linked (λ u. p.up ∙ u) p.linked;
          up = ap (option_map (λ n. n.up)) stays;
        }

  module _ (old mid new : Store M) (at b : ℕ) (r : Bool) (taken : Option (Item M)) (slots : List (Slot M)) (last : ℕ) (a : IsApplied IsValue empty op old mid at b true r First taken slots last) where
    -- the opened node was written again
    pub closed : IsKept IsValue empty op mid new at b true r slots last → IsPulled IsValue empty op old new at b r
    closed k = record {
      taken = taken;
      sound = k.written.sound;
      applies = subst (λ ps. Applies First taken (pairs_at (plain old) (suc b) at) ps) (sym k.written.pairs) a.applies;
      moves = moves-then (look old) (look mid) (look new) (λ k. times k (plain old) (suc b) at) (λ k. only k at + row_times k (plain mid) b slots last) (λ k. times k (plain new) (suc b) at) a.moves k.moves;
      room = let x = k.written.weighs (λ _. 1) in let y = a.room in let z = k.spare in omega arith;
      linked = k.written.linked;
      up = k.up ∙ ap (option_map (λ n. n.up)) a.stays;
    }

    -- or it has no item
    pub drained : (kid : ℕ) → IsBare mid new slots last kid → IsDrained IsValue empty op old new at b r kid
    drained kid bare = record {
      taken = taken;
      applied = subst (λ s. IsApplied IsValue empty op old s at b true r First taken [] kid) (sym bare.same) (subst (λ j. IsApplied IsValue empty op old mid at b true r First taken [] j) (sym bare.only) (subst (λ xs. IsApplied IsValue empty op old mid at b true r First taken xs last) bare.none a));
    }

  -- the first item of a leaf goes
  pub leaf_first : (old : Store M) (at : ℕ) (r : Bool) (node : Node M) (row : List (Slot M)) (rest : ℕ) → CanApply IsValue empty op old at 0 true r First → look old at ≡ Some node → row ≡ more_slots node.second node.third node.kids → IsApplied IsValue empty op old old at 0 true r First (Some node.first) row rest
  leaf_first old at r here row end can found e =
      let n = plain_node here in
      let is : plain old at ≡ Some n = ap (option_map plain_node) found in
      let items = (node_of IsValue empty op (plain old) 0 true r at n is can.sound).items in
      let more = more_slots here.second here.third here.kids in
      let few = few_slots here in
      let a = applied_leaf IsValue empty op old at 0 true r First n.slots n.last n.agg n.leaf can is (Some here.first) more end refl few (All-tail (λ s. IsValue s.item.value) (record { kid = slice_index here.kids 0; item = here.first }) more items) (record { front = []; back = leaf_pairs more; was = refl; is = refl; met = λ item q. refl; gap = λ q. cc; first = (search, refl) }) in
      rw e a
