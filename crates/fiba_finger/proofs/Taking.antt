-- The first item of a whole tree goes.
use Rattle.std.proofs.Common.{◌≡◌, ◌≤◌, ◌==◌, ◌-◌, ◌++◌, ℕ, suc, true, List, [], ◌∷◌, Option, None, Some, refl, sym, ap, subst, ◌∙◌, arith}
use Rattle.std.specs.Prelude.{slice_get}
use Rattle.std.proofs.lemmas.Bool.Decides.{nat_tests}
use Rattle.fiba_nodes.specs.declared.item.Item.{Item}
use Rattle.fiba_nodes.specs.declared.root.Root.{Root}
use Rattle.fiba_nodes.specs.declared.change.Change.TheVariants.{Remove, First}
use Rattle.fiba_nodes.specs.Arena.{pairs_in}
use Rattle.fiba_nodes.specs.Stores.{Store}
use Rattle.fiba_nodes.specs.Trees.{pair_of, pairs_at, plain}
use Rattle.fiba_nodes.specs.Changes.{Applies, CanApply}
use Rattle.fiba_nodes.specs.Roots.{CanChange, IsChanged, IsPlanted}
use Rattle.fiba_finger.specs.Pulls.{IsDrained, IsPulled}
use Rattle.fiba_finger.proofs.Pulling.{taken_some}

module _ {M : Type 0} where
  same_item : (x y : Item M) → pair_of x ≡ pair_of y → x ≡ y
  same_item x y e = let k : x.key ≡ y.key = ap (λ p. p.0) e in let v : x.value ≡ y.value = ap (λ p. p.1) e in ap (λ n. record { key = n; value = x.value }) k ∙ ap (λ w. record { key = y.key; value = w }) v

  -- the first item is the one with its key
  applies_key : (first : Item M) (taken : Option (Item M)) (old new : List (ℕ × M)) → slice_get old 0 ≡ Some (pair_of first) → Applies First taken old new → Applies (Remove first.key) (Some first) old new
  applies_key first None old new least a = absurd (taken_some {X = Item M} None a.first.0 refl)
  applies_key first (Some x) old new least a =
      let was : old ≡ pair_of x ∷ a.back = a.was ∙ ap (λ f. f ++ (pair_of x ∷ []) ++ a.back) a.first.1 in
      let is : new ≡ a.back = a.is ∙ ap (λ f. f ++ [] ++ a.back) a.first.1 in
      let o : Some (pair_of x) ≡ Some (pair_of first) = sym (ap (λ ps. slice_get ps 0) was) ∙ least in
      let p : pair_of x ≡ pair_of first = cc in
      let self : (first.key == first.key) ≡ true = grind (arith, nat_tests) in
      record {
        front = [];
        back = a.back;
        was = was ∙ ap (λ y. pair_of y ∷ a.back) (same_item x first p);
        is = is;
        met = λ item q. let same : first ≡ item = cc in subst (λ y. (y.key == first.key) ≡ true) same self;
        gap = λ e. cc;
        first = tt;
      }

module _ {M : Type 0} (IsValue : M → Type 0) (empty : M) (op : M → M → M) (old : Store M) (root : Root) (first : Item M) (can : CanChange IsValue empty op old root true true (Remove first.key)) (some : 1 ≤ root.height) where
  tall : root.height ≡ suc (root.height - 1)
  tall = omega arith

  pub can_pull : CanApply IsValue empty op old root.at (root.height - 1) true true First
  can_pull =
      let top : CanChange IsValue empty op old (record { at = root.at; height = suc (root.height - 1) }) true true (Remove first.key) = subst (λ h. CanChange IsValue empty op old (record { at = root.at; height = h }) true true (Remove first.key)) tall can in
      record { sound = top.tree.sound; owned = top.tree.owned; linked = top.tree.linked; room = top.room; value = tt }

  module _ (least : slice_get (pairs_in old root) 0 ≡ Some (pair_of first)) where
    least_tall : slice_get (pairs_at (plain old) (suc (root.height - 1)) root.at) 0 ≡ Some (pair_of first)
    least_tall = subst (λ h. slice_get (pairs_at (plain old) h root.at) 0 ≡ Some (pair_of first)) tall least

    -- the root keeps its number
    pub taken_whole : (new : Store M) → IsPulled IsValue empty op old new root.at (root.height - 1) true → IsChanged IsValue empty op old new root root true true (Remove first.key) (Some first)
    taken_whole new p =
        let top = can_pull in
        let high : Root = record { at = root.at; height = suc (root.height - 1) } in
        let c : IsChanged IsValue empty op old new high high true true (Remove first.key) (Some first) = record {
          tree = record { sound = p.sound; owned = λ k. let a = p.moves.counts k in let o = top.owned k in omega arith; linked = p.linked };
          applies = applies_key first p.taken (pairs_at (plain old) (suc (root.height - 1)) root.at) (pairs_at (plain new) (suc (root.height - 1)) root.at) least_tall p.applies;
          room = p.room;
          higher = omega arith;
        } in
        subst (λ h. IsChanged IsValue empty op old new (record { at = root.at; height = h }) (record { at = root.at; height = h }) true true (Remove first.key) (Some first)) (sym tall) c

    -- the root gives way to its only child
    pub taken_low : (mid new : Store M) (kid : ℕ) (grown : Root) → IsDrained IsValue empty op old mid root.at (root.height - 1) true kid → IsPlanted IsValue empty op mid new root.at (root.height - 1) true true [] kid grown → IsChanged IsValue empty op old new root grown true true (Remove first.key) (Some first)
    taken_low mid new kid grown d p =
        let high : Root = record { at = root.at; height = suc (root.height - 1) } in
        let a : Applies First d.taken (pairs_at (plain old) (suc (root.height - 1)) root.at) (pairs_at (plain new) grown.height grown.at) = subst (λ ps. Applies First d.taken (pairs_at (plain old) (suc (root.height - 1)) root.at) ps) (sym p.pairs) d.applied.applies in
        let c : IsChanged IsValue empty op old new high grown true true (Remove first.key) (Some first) = record {
          tree = p.tree;
          applies = applies_key first d.taken (pairs_at (plain old) (suc (root.height - 1)) root.at) (pairs_at (plain new) grown.height grown.at) least_tall a;
          room = let x = p.room in let y = d.applied.room in omega arith;
          higher = let x = p.higher in omega arith;
        } in
        subst (λ h. IsChanged IsValue empty op old new (record { at = root.at; height = h }) grown true true (Remove first.key) (Some first)) (sym tall) c
