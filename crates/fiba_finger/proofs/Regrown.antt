-- A tree one of whose nodes on the right edge changed, with all that is above it as it was.
use Rattle.std.proofs.Common.{◌≡◌, ◌≤◌, ◌<◌, ◌||◌, ◌+◌, ◌++◌, ℕ, zero, suc, Bool, true, false, cond, List, [], ◌∷◌, Option, Some, length, refl, sym, ap, subst, ◌∙◌, arith, append_assoc}
use Rattle.std.specs.List.{All}
use Rattle.std.specs.Option.{option_map}
use Rattle.agg_laws.specs.Laws.{total}
use Rattle.agg_laws.specs.Pairs.{values_of}
use Rattle.fiba_nodes.specs.declared.slot.Slot.{Slot}
use Rattle.fiba_nodes.specs.declared.item.Item.{Item}
use Rattle.fiba_nodes.specs.declared.change.Change.{Change}
use Rattle.fiba_nodes.specs.Rows.{Plain, plain_node}
use Rattle.fiba_nodes.specs.Stores.{Store, look}
use Rattle.fiba_nodes.specs.Trees.{HasUp, IsAt, IsLinked, IsNode, KidsAt, Look, Moves, only, pair_of, pairs_at, plain, shown, size, times, ups, vacancy, weigh}
use Rattle.fiba_nodes.specs.Kids.{OthersAt, before, left_of, others, right_of}
use Rattle.fiba_nodes.specs.Changes.{Applies, CanApply, incoming, pairs_of, stands_before}
use Rattle.fiba_nodes.proofs.Frames.{Keeps, same_tree}
use Rattle.fiba_nodes.proofs.Sound.{node_of, only_self, tree_of, weight_of}
use Rattle.fiba_nodes.proofs.Kids.{kids-around, tally-around}
use Rattle.fiba_nodes.proofs.Links.{last_at}
use Rattle.fiba_nodes.proofs.Linked.{root_counted, tree_linked}
use Rattle.fiba_nodes.proofs.Nesting.{others_beside}
use Rattle.fiba_nodes.proofs.Changing.{ends-append, ends_before, goes_deeper}
use Rattle.fiba_nodes.proofs.Below.{kid_can}
use Rattle.fiba_finger.specs.Edges.{ahead, edge}
use Rattle.fiba_finger.proofs.Edges.{Opens, ahead_suc, edge_suc, edge_zero, kid_of_end, left_at, all_first, all_second, left_of_end, left_same, opens, rank_end, right_of_end}

module _ {M : Type 0} where
  -- the last child, and all others
  kids_end : (P : Bool → Bool → ℕ → Type 0) (l r : Bool) (slots : List (Slot M)) (last : ℕ) → 1 ≤ length slots → OthersAt P l r slots last (length slots) → P false r last → KidsAt P l r slots last
  kids_end P l r [] last some o k = absurd (omega arith)
  kids_end P l r (x ∷ []) last some o k = (o.0, k)
  kids_end P l r (x ∷ y ∷ ys) last some o k = (o.0, kids_end P false r (y ∷ ys) last (omega arith) o.1 k)

  none_shown : (l : Bool) (ps : List (ℕ × M)) → cond (l || true) [] ps ≡ []
  none_shown true ps = refl
  none_shown false ps = refl

module _ {M : Type 0} (IsValue : M → Type 0) (empty : M) (op : M → M → M) (old new : Look M) where
  -- on the right edge the last child isn't shown
  shown_same : (h : ℕ) (l : Bool) (slots : List (Slot M)) (last : ℕ) → Keeps old new (λ k. others (times k old h) slots last (length slots)) → shown l true (pairs_at new h) slots last ≡ shown l true (pairs_at old h) slots last
  shown_same h l [] last keeps = none_shown l (pairs_at new h last) ∙ sym (none_shown l (pairs_at old h last))
  shown_same h l (x ∷ xs) last keeps =
      let t = same_tree IsValue empty op old new h x.kid (λ k u. keeps k (omega arith)) in
      let rest = shown_same h false xs last (λ k u. keeps k (omega arith)) in
      ap (λ ps. cond l [] ps ++ pair_of x.item ∷ shown false true (pairs_at new h) xs last) t.pairs ∙ ap (λ ps. cond l [] (pairs_at old h x.kid) ++ pair_of x.item ∷ ps) rest

module _ {M : Type 0} (old new : Store M) where
  pub up_stays : (h at k : ℕ) → (0 < h → look new k ≡ look old k) → HasUp old h at k → HasUp new h at k
  up_stays zero at k same u = tt
  up_stays (suc h) at k same u = ap (option_map (λ n. n.up)) (same (omega arith)) ∙ u

  -- the other children know their parent still
  relinked : (h at : ℕ) (slots : List (Slot M)) (last : ℕ) (f g : ℕ → ℕ) → Moves (look old) (look new) f g → ((k : ℕ) → others (times k (plain old) h) slots last (length slots) + (f k + vacancy (look old k)) ≤ 1) → KidsAt (λ _ _ k. HasUp old h at k × IsLinked old h k) false false slots last → HasUp new h at last → IsLinked new h last → KidsAt (λ _ _ k. HasUp new h at k × IsLinked new h k) false false slots last
  relinked h at [] last f g m apart k up linked = (up, linked)
  relinked h at (x ∷ xs) last f g m apart k up linked =
      ((up_stays h at x.kid (λ lt. m.kept x.kid (let a = apart x.kid in let s = only_self x.kid in let r = root_counted (plain old) h x.kid x.kid lt in omega arith)) k.0.0, tree_linked old new h x.kid f g m (λ n. let a = apart n in omega arith) k.0.1), relinked h at xs last f g m (λ n. let a = apart n in omega arith) k.1 up linked)

  linked_again : (h at : ℕ) (n : Plain M) (f g : ℕ → ℕ) → plain old at ≡ Some n → plain new at ≡ Some n → Moves (look old) (look new) f g → ((k : ℕ) → others (times k (plain old) h) n.slots n.last (length n.slots) + (f k + vacancy (look old k)) ≤ 1) → IsLinked old (suc h) at → (HasUp old h at n.last → HasUp new h at n.last) → IsLinked new h n.last → IsLinked new (suc h) at
  unfolding IsLinked
  linked_again h at n f g was is m apart k up linked =
      let kids : KidsAt (λ _ _ j. HasUp old h at j × IsLinked old h j) false false n.slots n.last = rw was at k in
      let end = last_at (λ _ _ j. HasUp old h at j × IsLinked old h j) (λ j. HasUp old h at j) (λ l r j q. q.0) false false n.slots n.last kids in
      rw is (relinked h at n.slots n.last f g m apart kids (up end) linked)

-- a tree on the right edge changed, and keeps its number and height
pub record IsRegrown {M : Type 0} (IsValue : M → Type 0) (empty : M) (op : M → M → M) (old new : Store M) (at b : ℕ) (l : Bool) (change : Change M) (taken : Option (Item M)) : Type 0 where
  pub sound : IsAt IsValue empty op (plain new) (suc b) l true at
  pub applies : Applies change taken (pairs_at (plain old) (suc b) at) (pairs_at (plain new) (suc b) at)
  pub moves : Moves (look old) (look new) (λ k. times k (plain old) (suc b) at) (λ k. times k (plain new) (suc b) at)
  pub room : new.spare + size (plain new) (suc b) at ≡ old.spare + size (plain old) (suc b) at
  pub linked : IsLinked new (suc b) at
  pub up : ups new at ≡ ups old at

module _ {M : Type 0} (IsValue : M → Type 0) (empty : M) (op : M → M → M) (change : Change M) where
  -- a change can be made in the last child
  pub can_kid : (s : Store M) (b : ℕ) (l : Bool) (at : ℕ) (n : Plain M) → Opens IsValue empty op (plain s) (suc b) l at n → CanApply IsValue empty op s at (suc b) l true change → CanApply IsValue empty op s n.last b false true change
  can_kid s b l at n o can =
      let k = kid_can IsValue empty op s at b l true change n.slots n.last n.agg n.leaf can o.is (length n.slots) change (omega arith) can.value in
      let a : CanApply IsValue empty op s n.last b (left_of l n.slots (length n.slots)) (right_of true n.slots (length n.slots)) change = subst (λ j. CanApply IsValue empty op s j b (left_of l n.slots (length n.slots)) (right_of true n.slots (length n.slots)) change) (kid_of_end n.slots n.last) k in
      let r : CanApply IsValue empty op s n.last b (left_of l n.slots (length n.slots)) true change = subst (λ q. CanApply IsValue empty op s n.last b (left_of l n.slots (length n.slots)) q change) (right_of_end true n.slots) a in
      subst (λ q. CanApply IsValue empty op s n.last b q true change) (left_of_end l n.slots o.some) r

  pub can_edge : (s : Store M) (b d c at : ℕ) (l : Bool) → b ≡ d + c → CanApply IsValue empty op s at b l true change → CanApply IsValue empty op s (edge (plain s) d at) c (left_at l d) true change
  can_edge s b zero c at l e can = rw (edge_zero (plain s) at) (subst (λ n. CanApply IsValue empty op s at n l true change) (omega arith) can)
  can_edge s zero (suc d) c at l e can = absurd (omega arith)
  can_edge s (suc b) (suc d) c at l e can =
      let q = opens IsValue empty op (plain s) (suc b) l at can.sound in
      let k = can_edge s b d c q.0.last false (omega arith) (can_kid s b l at q.0 q.1 can) in
      rw (edge_suc (plain s) d at q.0 q.1.is) (subst (λ t. CanApply IsValue empty op s (edge (plain s) d q.0.last) c t true change) (left_same d) k)

  regroup : {X : Type 0} (b f t g : List X) → b ++ (f ++ t ++ g) ≡ (b ++ f) ++ t ++ g
  regroup b f t g = simp append_assoc

  -- one level up: only the last child's tree changed
  module _ (old new : Store M) (at c : ℕ) (l : Bool) (taken : Option (Item M)) (can : CanApply IsValue empty op old at (suc c) l true change) (n : Plain M) (o : Opens IsValue empty op (plain old) (suc c) l at n) (r : IsRegrown IsValue empty op old new n.last c false change taken) where
    weight : (w : ℕ → ℕ) → weigh w (plain old) (suc (suc c)) at ≡ w at + (others (weigh w (plain old) (suc c)) n.slots n.last (length n.slots) + weigh w (plain old) (suc c) n.last)
    weight w =
        let a = weight_of IsValue empty op (plain old) (suc c) l true at n o.is w in
        let t = tally-around (weigh w (plain old) (suc c)) n.slots n.last (length n.slots) in
        let e = ap (weigh w (plain old) (suc c)) (kid_of_end n.slots n.last) in
        omega arith

    apart : (k : ℕ) → others (times k (plain old) (suc c)) n.slots n.last (length n.slots) + (times k (plain old) (suc c) n.last + vacancy (look old k)) ≤ 1
    apart k = let w = weight (only k) in let u = can.owned k in omega arith

    stays : look new at ≡ look old at
    stays = r.moves.kept at (let w = weight (only at) in let u = can.owned at in let s = only_self at in omega arith)

    is_new : plain new at ≡ Some n
    is_new = ap (option_map plain_node) stays ∙ o.is

    node : IsNode IsValue empty op (pairs_at (plain old) (suc c)) (λ l r k. IsAt IsValue empty op (plain old) (suc c) l r k) l true (suc c) n
    node = node_of IsValue empty op (plain old) (suc c) l true at n o.is can.sound

    sound_again : IsAt IsValue empty op (plain new) (suc (suc c)) l true at
    sound_again =
        let beside = (kids-around (λ l r k. IsAt IsValue empty op (plain old) (suc c) l r k) l true n.slots n.last (length n.slots) node.kids).0 in
        let q = others_beside IsValue empty op old new (suc c) n.slots n.last (length n.slots) (λ k. times k (plain old) (suc c) n.last) (λ k. times k (plain new) (suc c) n.last) r.moves apart in
        let shows = shown_same IsValue empty op (plain old) (plain new) (suc c) l n.slots n.last (λ k u. let a = apart k in ap (option_map plain_node) (r.moves.kept k (omega arith))) in
        tree_of IsValue empty op (plain new) (suc c) l true at n is_new (record {
          some = node.some;
          bottom = node.bottom;
          items = node.items;
          aggregate = node.aggregate ∙ ap (λ ps. total empty op (values_of ps)) (sym shows);
          kids = kids_end (λ l r k. IsAt IsValue empty op (plain new) (suc c) l r k) l true n.slots n.last o.some (q.kids l true beside) r.sound;
        })

    pub regrown : All (λ p. stands_before change p.0 ≡ true) (before (pairs_at (plain old) (suc c)) n.slots (length n.slots)) → IsRegrown IsValue empty op old new at (suc c) l change taken
    regrown lower =
        let f = before (pairs_at (plain old) (suc c)) n.slots (length n.slots) in
        let rank = rank_end change (pairs_at (plain old) (suc c)) n.slots lower in
        let q = others_beside IsValue empty op old new (suc c) n.slots n.last (length n.slots) (λ k. times k (plain old) (suc c) n.last) (λ k. times k (plain new) (suc c) n.last) r.moves apart in
        let sound = sound_again in
        let p = opens IsValue empty op (plain new) (suc c) l at sound in
        let same : p.0 ≡ n = let e : Some p.0 ≡ Some n = sym p.1.is ∙ is_new in cc in
        let pairs : pairs_at (plain new) (suc (suc c)) at ≡ before (pairs_at (plain new) (suc c)) n.slots (length n.slots) ++ pairs_at (plain new) (suc c) n.last = subst (λ m. pairs_at (plain new) (suc (suc c)) at ≡ before (pairs_at (plain new) (suc c)) m.slots (length m.slots) ++ pairs_at (plain new) (suc c) m.last) same p.1.pairs in
        let weighs : (w : ℕ → ℕ) → weigh w (plain new) (suc (suc c)) at ≡ w at + (others (weigh w (plain old) (suc c)) n.slots n.last (length n.slots) + weigh w (plain new) (suc c) n.last) = λ w.
        let a = weight_of IsValue empty op (plain new) (suc c) l true at n is_new w in
        let t = tally-around (weigh w (plain new) (suc c)) n.slots n.last (length n.slots) in
        let e = ap (weigh w (plain new) (suc c)) (kid_of_end n.slots n.last) in
        let z = q.tallies w in
        omega arith in
        let a = r.applies in
        record {
          sound = sound;
          applies = record {
            front = f ++ a.front;
            back = a.back;
            was = o.pairs ∙ ap (λ ps. f ++ ps) a.was ∙ regroup f a.front (pairs_of taken) a.back;
            is = pairs ∙ ap (λ ps. ps ++ pairs_at (plain new) (suc c) n.last) q.front ∙ ap (λ ps. f ++ ps) a.is ∙ regroup f a.front (pairs_of (incoming change taken)) a.back;
            met = a.met;
            gap = λ e. let g = a.gap e in (ends-append (stands_before change) f a.front (ends_before (stands_before change) (pairs_at (plain old) (suc c)) n.slots (length n.slots) rank.low) g.0, g.1);
            first = goes_deeper change taken (pairs_at (plain old) (suc c)) n.slots (length n.slots) a.front rank a.first;
          };
          moves = record {
            counts = λ k. let w = weight (only k) in let v = weighs (only k) in let m = r.moves.counts k in omega arith;
            kept = λ k z. let w = weight (only k) in r.moves.kept k (omega arith);
          };
          room = let w = weight (λ _. 1) in let v = weighs (λ _. 1) in let m = r.room in omega arith;
          linked = linked_again old new (suc c) at n (λ k. times k (plain old) (suc c) n.last) (λ k. times k (plain new) (suc c) n.last) o.is is_new r.moves apart can.linked (λ u. r.up ∙ u) r.linked;
          up = ap (option_map (λ n. n.up)) stays;
        }

  -- all levels up
  pub lifted : (old new : Store M) (b d c at : ℕ) (l : Bool) (taken : Option (Item M)) → b ≡ d + c → CanApply IsValue empty op old at b l true change → All (λ p. stands_before change p.0 ≡ true) (ahead (plain old) (suc b) d at) → IsRegrown IsValue empty op old new (edge (plain old) d at) c (left_at l d) change taken → IsRegrown IsValue empty op old new at b l change taken × (edge (plain new) d at ≡ edge (plain old) d at)
  lifted old new b zero c at l taken e can lower r =
      let at_same : IsRegrown IsValue empty op old new at c l change taken = subst (λ k. IsRegrown IsValue empty op old new k c l change taken) (edge_zero (plain old) at) r in
      (subst (λ n. IsRegrown IsValue empty op old new at n l change taken) (omega arith) at_same, edge_zero (plain new) at ∙ sym (edge_zero (plain old) at))
  lifted old new zero (suc d) c at l taken e can lower r = absurd (omega arith)
  lifted old new (suc b) (suc d) c at l taken e can lower r =
      let q = opens IsValue empty op (plain old) (suc b) l at can.sound in
      let n = q.0 in
      let parts : All (λ p. stands_before change p.0 ≡ true) (before (pairs_at (plain old) (suc b)) n.slots (length n.slots) ++ ahead (plain old) (suc b) d n.last) = subst (λ ps. All (λ p. stands_before change p.0 ≡ true) ps) (ahead_suc (plain old) (suc b) d at n q.1.is) lower in
      let deeper : IsRegrown IsValue empty op old new (edge (plain old) d n.last) c (left_at false d) change taken = subst (λ t. IsRegrown IsValue empty op old new (edge (plain old) d n.last) c t change taken) (sym (left_same d)) (subst (λ k. IsRegrown IsValue empty op old new k c false change taken) (edge_suc (plain old) d at n q.1.is) r) in
      let below = lifted old new b d c n.last false taken (omega arith) (can_kid old b l at n q.1 can) (all_second (λ p. stands_before change p.0 ≡ true) (before (pairs_at (plain old) (suc b)) n.slots (length n.slots)) (ahead (plain old) (suc b) d n.last) parts) deeper in
      (regrown old new at b l taken can n q.1 below.0 (all_first (λ p. stands_before change p.0 ≡ true) (before (pairs_at (plain old) (suc b)) n.slots (length n.slots)) (ahead (plain old) (suc b) d n.last) parts), edge_suc (plain new) d at n (is_new old new at b l taken can n q.1 below.0) ∙ below.1 ∙ sym (edge_suc (plain old) d at n q.1.is))
