-- Sound trees as the code meets them: in a store, at a height that is not 0.
use Rattle.std.proofs.Common.{◌≡◌, ◌≤◌, ◌<◌, ◌||◌, ◌+◌, ℕ, zero, suc, Bool, true, false, cond, List, [], ◌∷◌, Option, None, Some, IsSome, length, drop, refl, sym, ap, subst, ◌∙◌, arith}
use Rattle.std.specs.Prelude.{fold, slice_get}
use Rattle.std.specs.Option.{option_map}
use Rattle.agg_laws.specs.Laws.{MonoidLaws, total}
use Rattle.agg_laws.specs.Pairs.{values_of}
use Rattle.agg_laws.proofs.Totals.{fold-total}
use Rattle.fiba_nodes.specs.declared.slot.Slot.{Slot}
use Rattle.fiba_nodes.specs.declared.node.Node.{Node}
use Rattle.fiba_nodes.specs.Rows.{plain_node}
use Rattle.fiba_nodes.specs.Stores.{Store, look}
use Rattle.fiba_nodes.specs.Trees.{Look, plain, pair_of, shown, pairs_at, weigh, vacancy, IsAt}
use Rattle.std.proofs.lemmas.List.{map-append}
use Rattle.std.proofs.lemmas.List.Sums.{fold-append}
use Rattle.std.proofs.lemmas.List.Elements.{All-tail}
use Rattle.fiba_nodes.specs.Sums.{IsSummed}
use Rattle.fiba_nodes.proofs.Lists.{drop_at}
use Rattle.fiba_nodes.proofs.Frames.{shown-inner}
use Rattle.fiba_nodes.proofs.Sound.{node_of, pairs_of, there, all_values, few}

module _ {M : Type 0} where
  some_of_vacancy : (o : Option (Node M)) → vacancy (option_map plain_node o) ≡ 0 → IsSome o
  some_of_vacancy None e = absurd (omega arith)
  some_of_vacancy (Some n) e = search

  -- there is a node where it isn't free
  pub is_some : (s : Store M) (at : ℕ) → vacancy (plain s at) ≡ 0 → IsSome (look s at)
  is_some s at e = some_of_vacancy (look s at) e

module _ {M : Type 0} (IsValue : M → Type 0) (empty : M) (op : M → M → M) (s : Store M) where
  pub is_used : (h : ℕ) (l r : Bool) (at : ℕ) → 0 < h → IsAt IsValue empty op (plain s) h l r at → vacancy (plain s at) ≡ 0
  is_used zero l r at lt k = absurd (omega arith)
  is_used (suc h) l r at lt k = there IsValue empty op (plain s) h l r at k

  pub is_there : (h : ℕ) (l r : Bool) (at : ℕ) → 0 < h → IsAt IsValue empty op (plain s) h l r at → IsSome (look s at)
  is_there zero l r at lt k = absurd (omega arith)
  is_there (suc h) l r at lt k = is_some s at (there IsValue empty op (plain s) h l r at k)

module _ {M : Type 0} {IsValue : M → Type 0} {empty : M} {op : M → M → M} (laws : MonoidLaws IsValue empty op) (s : Store M) where
  -- the aggregate of a node off the edges is that of its pairs
  whole : (h : ℕ) (at : ℕ) (n : Node M) → 0 < h → look s at ≡ Some n → IsAt IsValue empty op (plain s) h false false at → n.agg ≡ total empty op (values_of (pairs_at (plain s) h at))
  whole zero at n lt is k = absurd (omega arith)
  whole (suc h) at n lt is k =
      let e : plain s at ≡ Some (plain_node n) = ap (option_map plain_node) is in
      let node = node_of IsValue empty op (plain s) h false false at (plain_node n) e k in
      node.aggregate ∙ ap (λ ps. total empty op (values_of ps)) (shown-inner (pairs_at (plain s) h) (plain_node n).slots (plain_node n).last ∙ sym (pairs_of IsValue empty op (plain s) h false false at (plain_node n) e))

  pub combined : (h : ℕ) (at : ℕ) (n : Node M) (sum : M) (l r : Bool) → 0 < h → look s at ≡ Some n → IsValue sum → l ≡ false → r ≡ false → IsAt IsValue empty op (plain s) h l r at → op sum n.agg ≡ fold op sum (values_of (pairs_at (plain s) h at))
  combined h at n sum l r lt is v el er placed =
      let k : IsAt IsValue empty op (plain s) h false false at = subst (λ b. IsAt IsValue empty op (plain s) h false b at) er (subst (λ b. IsAt IsValue empty op (plain s) h b r at) el placed) in
      ap (op sum) (whole h at n lt is k) ∙ sym (fold-total laws sum (values_of (pairs_at (plain s) h at)) v (all_values IsValue empty op (plain s) h false false at k))

-- a tree that isn't of height 0 has pairs
module _ {M : Type 0} (IsValue : M → Type 0) (empty : M) (op : M → M → M) where
  pub some_pairs : (look : Look M) (h : ℕ) (l r : Bool) (at : ℕ) → 0 < h → IsAt IsValue empty op look h l r at → 1 ≤ length (pairs_at look h at)
  unfolding weigh
  some_pairs look zero l r at lt k = absurd (omega arith)
  some_pairs look (suc h) l r at lt k = let f = few IsValue empty op look (suc h) l r at k in omega arith

-- a tree of height 0 has no pairs
pub no_pairs : {M : Type 0} (look : Look M) (h at : ℕ) → h ≡ 0 → pairs_at look h at ≡ []
unfolding pairs_at
no_pairs look zero at e = refl
no_pairs look (suc h) at e = absurd (omega arith)

-- one child and the item behind it are added to a sum
module _ {M : Type 0} (IsValue : M → Type 0) (empty : M) (op : M → M → M) (look : Look M) (h : ℕ) (l r : Bool) (slots : List (Slot M)) (last : ℕ) where
  fold_with : (left : Bool) (s : Slot M) (ss : List (Slot M)) (sum : M) → fold op (op (fold op sum (values_of (cond (left || false) [] (pairs_at look h s.kid)))) s.item.value) (values_of (shown false r (pairs_at look h) ss last)) ≡ fold op sum (values_of (shown left r (pairs_at look h) (s ∷ ss) last))
  fold_with true s ss sum = refl
  fold_with false s ss sum =
      let kid = values_of (pairs_at look h s.kid) in
      let rest = values_of (shown false r (pairs_at look h) ss last) in
      sym (ap (fold op sum) (map-append (λ p. p.1) (pairs_at look h s.kid) (pair_of s.item ∷ shown false r (pairs_at look h) ss last)) ∙ fold-append op sum kid (s.item.value ∷ rest))

  pub summed_more : (left : Bool) (i : ℕ) (s : Slot M) (sum kid next : M) → slice_get slots i ≡ Some s → IsSummed IsValue empty op look h l r slots last left (drop i slots) sum → kid ≡ fold op sum (values_of (cond (left || false) [] (pairs_at look h s.kid))) → next ≡ op kid s.item.value → IsSummed IsValue empty op look h l r slots last false (drop (i + 1) slots) next
  summed_more left i s sum kid next is so_far with_kid with_item =
      let rest = drop (i + 1) slots in
      let now : IsSummed IsValue empty op look h l r slots last left (s ∷ rest) sum = subst (λ xs. IsSummed IsValue empty op look h l r slots last left xs sum) (drop_at slots i s is) so_far in
      record {
        items = All-tail (λ s. IsValue s.item.value) s rest now.items;
        kids = now.kids.1;
        value = ap (λ a. fold op a (values_of (shown false r (pairs_at look h) rest last))) (with_item ∙ ap (λ a. op a s.item.value) with_kid) ∙ fold_with left s rest sum ∙ now.value;
      }

  pub first_kid : (left : Bool) (i : ℕ) (s : Slot M) (sum : M) → slice_get slots i ≡ Some s → IsSummed IsValue empty op look h l r slots last left (drop i slots) sum → IsAt IsValue empty op look h left false s.kid
  first_kid left i s sum is so_far =
      let now : IsSummed IsValue empty op look h l r slots last left (s ∷ drop (i + 1) slots) sum = subst (λ xs. IsSummed IsValue empty op look h l r slots last left xs sum) (drop_at slots i s is) so_far in
      now.kids.0
