-- A tree that begins with an item, and an opened root that becomes a root again.
use Rattle.std.proofs.Common.{◌≡◌, ◌≤◌, ◌+◌, ℕ, zero, suc, Bool, false, List, [], ◌∷◌, Option, None, Some, length, refl, sym, ap, subst, ◌∙◌, arith}
use Rattle.fiba_nodes.specs.declared.slot.Slot.{Slot}
use Rattle.fiba_nodes.specs.declared.item.Item.{Item}
use Rattle.fiba_nodes.specs.declared.root.Root.{Root}
use Rattle.fiba_nodes.specs.declared.change.Change.{Change}
use Rattle.fiba_nodes.specs.declared.change.Change.TheVariants.{Insert, Set, Remove, First}
use Rattle.fiba_nodes.specs.Stores.{Store, look, Puts}
use Rattle.fiba_nodes.specs.Trees.{AreValues, IsAt, IsLoose, IsOpened, IsWritten, Look, Moves, only, pairs_at, plain, row_times, size, times, vacancy, weigh, woven}
use Rattle.fiba_nodes.specs.Changes.{IsApplied, added_of, growth, is_first, leaf_slots, pairs_of}
use Rattle.fiba_nodes.specs.Roots.{CanChange, CanSprout, IsChanged, IsPlanted, IsSprouted}
use Rattle.fiba_nodes.proofs.Lists.{append_none}
use Rattle.fiba_nodes.proofs.Opened.{no_pairs}
use Rattle.fiba_nodes.proofs.Sound.{few_kids}
use Rattle.fiba_nodes.proofs.Linked.{link_low, links_low, row_linked}
use Rattle.fiba_nodes.proofs.Writes.{freed_moves, row_beside}
use Rattle.fiba_nodes.proofs.Changing.{goes_other, grown, incoming_values}
use Rattle.fiba_nodes.proofs.Below.{woven_low}

pub weigh_low : {M : Type 0} (w : ℕ → ℕ) (look : Look M) (h at : ℕ) → h ≡ 0 → weigh w look h at ≡ 0
unfolding weigh
weigh_low w look zero at e = refl
weigh_low w look (suc h) at e = absurd (omega arith)

nil_of : {X : Type 0} (xs : List X) → length xs ≡ 0 → xs ≡ []
nil_of [] e = refl
nil_of (x ∷ xs) e = absurd (omega arith)

none_of : {X : Type 0} (o : Option X) → ((x : X) → o ≡ Some x → ⊥) → o ≡ None
none_of None h = refl
none_of (Some x) h = absurd (h x refl)

added_fits : {M : Type 0} (change : Change M) → length (pairs_of (added_of change)) ≤ growth change
added_fits (Insert item) = omega arith
added_fits (Set item) = omega arith
added_fits (Remove at) = omega arith
added_fits First = omega arith

module _ {M : Type 0} (IsValue : M → Type 0) (empty : M) (op : M → M → M) where
  pub tree_low : (look : Look M) (h : ℕ) (l r : Bool) (at : ℕ) → h ≡ 0 → IsAt IsValue empty op look h l r at
  unfolding IsAt
  tree_low look zero l r at e = tt
  tree_low look (suc h) l r at e = absurd (omega arith)

  -- no item comes in
  pub sprouted_none : (s : Store M) (root : Root) (l r : Bool) (item : Option (Item M)) → CanSprout IsValue empty op s root item → ((x : Item M) → item ≡ Some x → ⊥) → IsSprouted IsValue empty op s s root l r item root
  sprouted_none s root l r item can none =
      let e = none_of item none in
      record {
        tree = record { sound = tree_low (plain s) root.height l r root.at can.none; owned = λ k. let z = weigh_low (only k) (plain s) root.height root.at can.none in let o = can.owned k in omega arith; linked = link_low s root.height root.at can.none };
        pairs = no_pairs (plain s) root.height root.at can.none ∙ ap pairs_of (sym e);
        room = let z = weigh_low (λ _. 1) (plain s) root.height root.at can.none in omega arith;
        higher = can.none ∙ ap (λ o. length (pairs_of o)) (sym e);
      }

  -- the one item of a leaf
  pub sprout_loose : (s : Store M) (root : Root) (l r : Bool) (item : Option (Item M)) (x : Item M) → CanSprout IsValue empty op s root item → item ≡ Some x → IsLoose IsValue empty op s 0 l r (record { kid = 0; item = x } ∷ []) 0
  sprout_loose s root l r item x can e = record {
    items = subst (λ o. AreValues IsValue (leaf_slots o)) e can.value;
    kids = (tree_low (plain s) 0 l false 0 refl, tree_low (plain s) 0 false r 0 refl);
    owned = λ k. let z = weigh_low (only k) (plain s) 0 0 refl in let o = can.owned k in omega arith;
    linked = links_low s 0 (record { kid = 0; item = x } ∷ []) 0 refl;
  }

  pub sprouted : (old new : Store M) (root : Root) (l r : Bool) (item : Option (Item M)) (x : Item M) (at : ℕ) → CanSprout IsValue empty op old root item → item ≡ Some x → IsWritten IsValue empty op old new at 0 l r (record { kid = 0; item = x } ∷ []) 0 → Moves (look old) (look new) (λ k. row_times k (plain old) 0 (record { kid = 0; item = x } ∷ []) 0) (λ k. times k (plain new) 1 at) → new.spare + 1 ≡ old.spare → IsSprouted IsValue empty op old new root l r item (record { at = at; height = 1 })
  sprouted old new root l r item x at can e w moves spare = record {
    tree = record { sound = w.sound; owned = λ k. let z = weigh_low (only k) (plain old) 0 0 refl in let o = can.owned k in let m = moves.counts k in omega arith; linked = w.linked };
    pairs = w.pairs ∙ woven_low IsValue empty op (plain old) 0 (record { kid = 0; item = x } ∷ []) 0 refl ∙ ap pairs_of (sym e);
    room = let a = w.weighs (λ _. 1) in let z = weigh_low (λ _. 1) (plain old) 0 0 refl in omega arith;
    higher = ap (λ o. length (pairs_of o)) (sym e);
  }

  -- an opened root without items gives way to its only child
  pub planted_kid : (old new : Store M) (at b : ℕ) (l r : Bool) (slots : List (Slot M)) (last : ℕ) → length slots ≡ 0 → IsOpened IsValue empty op old at b l r slots last → Puts old new at None → new.spare ≡ old.spare + 1 → IsPlanted IsValue empty op old new at b l r slots last (record { at = last; height = b })
  planted_kid old new at b l r slots last none opened freed spare =
      let e = nil_of slots none in
      let o : IsOpened IsValue empty op old at b l r [] last = subst (λ xs. IsOpened IsValue empty op old at b l r xs last) e opened in
      let fm = freed_moves old new at freed in
      let apart : (k : ℕ) → row_times k (plain old) b [] last + (only k at + vacancy (look old k)) ≤ 1 = λ k. let x = o.owned k in omega arith in
      let row = row_beside IsValue empty op old new b [] last (λ k. only k at) (λ k. 0) fm apart in
      subst (λ xs. IsPlanted IsValue empty op old new at b l r xs last (record { at = last; height = b })) (sym e) (record {
        tree = record { sound = row.kids l r o.kids; owned = λ k. let t = row.tallies (only k) in let m = fm.counts k in let x = o.owned k in omega arith; linked = row_linked old new b [] last (λ k. only k at) (λ k. 0) fm apart o.linked };
        pairs = row.pairs;
        room = let t = row.tallies (λ _. 1) in omega arith;
        higher = omega arith;
      })

  -- room for the node that an opened root splits off, and for a new root
  pub applied_room : (old new : Store M) (at b : ℕ) (l r : Bool) (change : Change M) (taken : Option (Item M)) (slots : List (Slot M)) (last : ℕ) → length (pairs_at (plain old) (suc b) at) + growth change ≤ old.spare + size (plain old) (suc b) at → IsApplied IsValue empty op old new at b l r change taken slots last → length slots ≤ new.spare + 1
  applied_room old new at b l r change taken slots last room a =
      let g = grown change taken (pairs_at (plain old) (suc b) at) (woven (pairs_at (plain new) b) slots last) a.applies in
      let f = few_kids IsValue empty op (plain new) b l r slots last a.opened.kids in
      let q = a.room in
      omega arith

  -- an empty tree can take the item that comes in
  pub can_sprout : (s : Store M) (root : Root) (l r : Bool) (change : Change M) → root.height ≡ 0 → CanChange IsValue empty op s root l r change → CanSprout IsValue empty op s root (added_of change)
  can_sprout s root l r change low can = record {
    none = low;
    owned = λ k. let o = can.tree.owned k in omega arith;
    room = let a = added_fits change in let r = can.room in let z = weigh_low (λ _. 1) (plain s) root.height root.at low in let e : length (pairs_at (plain s) root.height root.at) ≡ 0 = ap length (no_pairs (plain s) root.height root.at low) in omega arith;
    value = incoming_values IsValue change None can.value;
  }

  pub changed_low : (old new : Store M) (root grown : Root) (l r : Bool) (change : Change M) → root.height ≡ 0 → is_first change ≡ false → IsSprouted IsValue empty op old new root l r (added_of change) grown → IsChanged IsValue empty op old new root grown l r change None
  changed_low old new root grown l r change low other s = record {
    tree = s.tree;
    applies = record { front = []; back = []; was = no_pairs (plain old) root.height root.at low; is = s.pairs ∙ sym (append_none (pairs_of (added_of change))); met = λ x e. cc; gap = λ e. (tt, tt); first = goes_other change None [] other };
    room = let z = weigh_low (λ _. 1) (plain old) root.height root.at low in let r = s.room in omega arith;
    higher = let a = added_fits change in let h = s.higher in omega arith;
  }
