-- What a sound tree has: values, at most as many nodes as pairs, and a tree that is written anew.
use Rattle.std.proofs.Common.{◌≡◌, ◌≢◌, ◌≤◌, ◌==◌, ◌+◌, ℕ, zero, suc, Bool, false, List, [], ◌∷◌, Option, None, Some, length, refl, sym, ap, subst, ◌∙◌, arith, length-append, inl, inr}
use Rattle.std.specs.List.{All}
use Rattle.std.specs.Option.{option_map, IsSomeAnd}
use Rattle.std.proofs.lemmas.List.Elements.{All-head, All-tail, All-append, All-cons, All-nil}
use Rattle.std.proofs.lemmas.List.{map-append}
use Rattle.std.proofs.lemmas.Bool.{cases_eq}
use Rattle.std.proofs.lemmas.Bool.Decides.{nat_tests}
use Rattle.agg_laws.specs.Laws.{total}
use Rattle.agg_laws.specs.Pairs.{values_of}
use Rattle.fiba_nodes.specs.declared.slot.Slot.{Slot}
use Rattle.fiba_nodes.specs.Rows.{Plain, plain_node}
use Rattle.fiba_nodes.specs.Stores.{Store, look}
use Rattle.fiba_nodes.specs.Trees.{Look, pair_of, woven, shown, tally, KidsAt, pairs_at, weigh, only, times, size, vacancy, AreValues, IsNode, IsAt, IsLinked, Moves, Owned, plain, row_times, IsOpened, IsWritten}
use Rattle.fiba_nodes.proofs.Frames.{same_kids}

module _ {M : Type 0} (IsValue : M → Type 0) (empty : M) (op : M → M → M) (look : Look M) where
  row_few : (h : ℕ) → ((l r : Bool) (at : ℕ) → IsAt IsValue empty op look h l r at → size look h at ≤ length (pairs_at look h at)) → (l r : Bool) (slots : List (Slot M)) (last : ℕ) → KidsAt (λ l r k. IsAt IsValue empty op look h l r k) l r slots last → tally (size look h) slots last + length slots ≤ length (woven (pairs_at look h) slots last)
  row_few h tree l r [] last k = let t = tree l r last k in omega arith
  row_few h tree l r (s ∷ ss) last k =
      let t = tree l false s.kid k.0 in
      let rest = row_few h tree false r ss last k.1 in
      let e = length-append (pairs_at look h s.kid) (pair_of s.item ∷ woven (pairs_at look h) ss last) in
      omega arith

  node_few : (h at : ℕ) → ((l r : Bool) (at : ℕ) → IsAt IsValue empty op look h l r at → size look h at ≤ length (pairs_at look h at)) → (l r : Bool) (o : Option (Plain M)) → look at ≡ o → IsAt IsValue empty op look (suc h) l r at → size look (suc h) at ≤ length (pairs_at look (suc h) at)
  unfolding pairs_at weigh IsAt
  node_few h at tree l r None is k = absurd (rw is at k)
  node_few h at tree l r (Some n) is k =
      let node : IsNode IsValue empty op (pairs_at look h) (λ l r k. IsAt IsValue empty op look h l r k) l r h n = rw is at k in
      let row = row_few h tree l r n.slots n.last node.kids in
      let some = node.some in
      rw is (omega arith)

  -- a sound tree has at most as many nodes as pairs
  pub few : (h : ℕ) (l r : Bool) (at : ℕ) → IsAt IsValue empty op look h l r at → size look h at ≤ length (pairs_at look h at)
  unfolding pairs_at weigh IsAt
  few zero l r at k = omega arith
  few (suc h) l r at k = node_few h at (few h) l r (look at) refl k

  pub few_kids : (h : ℕ) (l r : Bool) (slots : List (Slot M)) (last : ℕ) → KidsAt (λ l r k. IsAt IsValue empty op look h l r k) l r slots last → tally (size look h) slots last + length slots ≤ length (woven (pairs_at look h) slots last)
  few_kids h l r slots last k = row_few h (few h) l r slots last k

  row_values : (h : ℕ) → ((l r : Bool) (at : ℕ) → IsAt IsValue empty op look h l r at → All IsValue (values_of (pairs_at look h at))) → (l r : Bool) (slots : List (Slot M)) (last : ℕ) → AreValues IsValue slots → KidsAt (λ l r k. IsAt IsValue empty op look h l r k) l r slots last → All IsValue (values_of (woven (pairs_at look h) slots last))
  row_values h tree l r [] last v k = tree l r last k
  row_values h tree l r (s ∷ ss) last v k =
      let t = tree l false s.kid k.0 in
      let rest = row_values h tree false r ss last (All-tail (λ s. IsValue s.item.value) s ss v) k.1 in
      let own : IsValue s.item.value = All-head (λ s. IsValue s.item.value) s ss v in
      subst (All IsValue) (sym (map-append (λ p. p.1) (pairs_at look h s.kid) (pair_of s.item ∷ woven (pairs_at look h) ss last))) (All-append IsValue (values_of (pairs_at look h s.kid)) (s.item.value ∷ values_of (woven (pairs_at look h) ss last)) t (All-cons IsValue s.item.value (values_of (woven (pairs_at look h) ss last)) own rest))

  node_values : (h at : ℕ) → ((l r : Bool) (at : ℕ) → IsAt IsValue empty op look h l r at → All IsValue (values_of (pairs_at look h at))) → (l r : Bool) (o : Option (Plain M)) → look at ≡ o → IsAt IsValue empty op look (suc h) l r at → All IsValue (values_of (pairs_at look (suc h) at))
  unfolding pairs_at IsAt
  node_values h at tree l r None is k = absurd (rw is at k)
  node_values h at tree l r (Some n) is k =
      let node : IsNode IsValue empty op (pairs_at look h) (λ l r k. IsAt IsValue empty op look h l r k) l r h n = rw is at k in
      rw is (row_values h tree l r n.slots n.last node.items node.kids)

  -- the values of a sound tree are values
  pub all_values : (h : ℕ) (l r : Bool) (at : ℕ) → IsAt IsValue empty op look h l r at → All IsValue (values_of (pairs_at look h at))
  unfolding pairs_at IsAt
  all_values zero l r at k = All-nil IsValue
  all_values (suc h) l r at k = node_values h at (all_values h) l r (look at) refl k

  pub all_row_values : (h : ℕ) (l r : Bool) (slots : List (Slot M)) (last : ℕ) → AreValues IsValue slots → KidsAt (λ l r k. IsAt IsValue empty op look h l r k) l r slots last → All IsValue (values_of (woven (pairs_at look h) slots last))
  all_row_values h l r slots last v k = row_values h (all_values h) l r slots last v k

-- a tree, opened
module _ {M : Type 0} (IsValue : M → Type 0) (empty : M) (op : M → M → M) (look : Look M) (h : ℕ) (l r : Bool) (at : ℕ) where
  pub node_of : (n : Plain M) → look at ≡ Some n → IsAt IsValue empty op look (suc h) l r at → IsNode IsValue empty op (pairs_at look h) (λ l r k. IsAt IsValue empty op look h l r k) l r h n
  unfolding IsAt
  node_of n is k = rw is at k

  pub pairs_of : (n : Plain M) → look at ≡ Some n → pairs_at look (suc h) at ≡ woven (pairs_at look h) n.slots n.last
  unfolding pairs_at
  pairs_of n is = rw is refl

  pub weight_of : (n : Plain M) → look at ≡ Some n → (w : ℕ → ℕ) → weigh w look (suc h) at ≡ w at + tally (weigh w look h) n.slots n.last
  unfolding weigh
  weight_of n is w = rw is refl

  pub tree_of : (n : Plain M) → look at ≡ Some n → IsNode IsValue empty op (pairs_at look h) (λ l r k. IsAt IsValue empty op look h l r k) l r h n → IsAt IsValue empty op look (suc h) l r at
  unfolding IsAt
  tree_of n is k = rw is k

  pub there : IsAt IsValue empty op look (suc h) l r at → vacancy (look at) ≡ 0
  unfolding IsAt
  there k = elim (look at) as (λ o. IsSomeAnd o (λ n. IsNode IsValue empty op (pairs_at look h) (λ l r k. IsAt IsValue empty op look h l r k) l r h n) → vacancy o ≡ 0) [ None ↦ λ x. absurd x | Some n ↦ λ x. refl ] k

-- what changes, one change after another and beside what stays
pub moves-then : {X : Type 0} (a b c : ℕ → Option X) (f g h : ℕ → ℕ) → Moves a b f g → Moves b c g h → Moves a c f h
moves-then a b c f g h m n = record {
  counts = λ k. let x = m.counts k in let y = n.counts k in omega arith;
  kept = λ k e. let x = m.counts k in n.kept k (omega arith) ∙ m.kept k e;
}

pub moves-beside : {X : Type 0} (a b : ℕ → Option X) (f g f' g' : ℕ → ℕ) (extra : ℕ → ℕ) → Moves a b f g → ((k : ℕ) → f k + extra k ≡ f' k) → ((k : ℕ) → g' k ≡ g k + extra k) → Moves a b f' g'
moves-beside a b f g f' g' extra m before behind = record {
  counts = λ k. let x = m.counts k in let y = before k in let z = behind k in omega arith;
  kept = λ k e. let y = before k in m.kept k (omega arith);
}

pub owned-after : {X : Type 0} (a b : ℕ → Option X) (f g : ℕ → ℕ) → Moves a b f g → Owned a f → Owned b g
owned-after a b f g m o k = let x = m.counts k in let y = o k in omega arith

pub only_self : (k : ℕ) → only k k ≡ 1
only_self k = grind (arith, nat_tests)

pub only_other : (k n : ℕ) → k ≢ n → only k n ≡ 0
only_other k n ne = grind (arith, nat_tests)

pub vacancy_plain : {M : Type 0} (s : Store M) (k : ℕ) → vacancy (plain s k) ≡ vacancy (look s k)
vacancy_plain s k = elim (look s k) as (λ o. vacancy (option_map plain_node o) ≡ vacancy o) [ None ↦ refl | Some n ↦ refl ]

-- a node is written over trees that stand there already
module _ {M : Type 0} (IsValue : M → Type 0) (empty : M) (op : M → M → M) (old new : Store M) (h : ℕ) (l r : Bool) (at : ℕ) where
  pub written : (slots : List (Slot M)) (last : ℕ) (agg : M) (leaf : Bool) → plain new at ≡ Some (record { slots = slots; last = last; agg = agg; leaf = leaf }) → ((k : ℕ) → k ≢ at → plain new k ≡ plain old k) → 1 ≤ length slots → leaf ≡ (h == 0) → agg ≡ total empty op (values_of (shown l r (pairs_at (plain old) h) slots last)) → IsOpened IsValue empty op old at h l r slots last → IsLinked new (suc h) at → IsWritten IsValue empty op old new at h l r slots last
  written slots last agg leaf here others some bottom sum opened linked =
      let node : Plain M = record { slots = slots; last = last; agg = agg; leaf = leaf } in
      let apart : (k : ℕ) → 1 ≤ row_times k (plain old) h slots last → k ≢ at = λ k u e. let o = opened.owned k in let s = only_self k in let z : only k at ≡ 1 = rw (← e) s in absurd (omega arith) in
      let row = same_kids IsValue empty op (plain old) (plain new) h slots last (λ k u. others k (apart k u)) in
      record {
        sound = tree_of IsValue empty op (plain new) h l r at node here (record { some = some; bottom = bottom; items = opened.items; aggregate = sum ∙ ap (λ ps. total empty op (values_of ps)) (sym (row.shows l r)); kids = row.kids l r opened.kids });
        pairs = pairs_of IsValue empty op (plain new) h l r at node here ∙ row.pairs;
        weighs = λ w. weight_of IsValue empty op (plain new) h l r at node here w ∙ ap (λ t. w at + t) (row.tallies w);
        linked = linked;
      }

  pub written_moves : (slots : List (Slot M)) (last : ℕ) → IsWritten IsValue empty op old new at h l r slots last → ((k : ℕ) → k ≢ at → plain new k ≡ plain old k) → ((k : ℕ) → only k at + row_times k (plain old) h slots last ≡ 0 → look new k ≡ look old k) → Moves (look old) (look new) (λ k. only k at + row_times k (plain old) h slots last) (λ k. times k (plain new) (suc h) at)
  written_moves slots last w others away = record {
    counts = λ k. let e = w.weighs (only k) in
        let a = vacancy_plain new k in
        let b = vacancy_plain old k in
        elim (cases_eq k at) [
          | inl q ↦ let v : vacancy (plain new k) ≡ 0 = rw q (there IsValue empty op (plain new) h l r at w.sound) in omega arith
          | inr ne ↦ let v : vacancy (plain new k) ≡ vacancy (plain old k) = ap vacancy (others k ne) in omega arith
        ];
    kept = λ k e. away k (omega arith);
  }
