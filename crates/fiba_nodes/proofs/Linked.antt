-- Links to parents, where the nodes that they are between stay or where a node is written over its children.
use Rattle.std.proofs.Common.{◌≡◌, ◌≢◌, ◌≤◌, ◌<◌, ◌+◌, ℕ, zero, suc, Bool, false, List, [], ◌∷◌, Option, None, Some, refl, ap, ◌∙◌, arith}
use Rattle.std.specs.Option.{option_map}
use Rattle.fiba_nodes.specs.declared.slot.Slot.{Slot}
use Rattle.fiba_nodes.specs.declared.node.Node.{Node}
use Rattle.fiba_nodes.specs.Rows.{Plain, plain_node}
use Rattle.fiba_nodes.specs.Stores.{Store, look, Puts}
use Rattle.fiba_nodes.specs.Trees.{AreLinked, HasUp, IsLinked, KidsAt, Look, Moves, only, plain, row_times, tally, times, ups, vacancy, weigh}
use Rattle.fiba_nodes.specs.Kids.{OthersAt, others}
use Rattle.fiba_nodes.specs.Links.{AreAdopted}
use Rattle.fiba_nodes.proofs.Sound.{only_self, only_other}

module _ {M : Type 0} where
  tally-le : (f g : ℕ → ℕ) → ((k : ℕ) → f k ≤ g k) → (slots : List (Slot M)) (last : ℕ) → tally f slots last ≤ tally g slots last
  tally-le f g le [] last = le last
  tally-le f g le (x ∷ xs) last = let a = le x.kid in let b = tally-le f g le xs last in omega arith

  pub root_counted : (look : Look M) (h k n : ℕ) → 0 < h → only k n ≤ times k look h n
  unfolding weigh
  root_counted look zero k n lt = absurd (omega arith)
  root_counted look (suc h) k n lt = omega arith

  pub roots_counted : (look : Look M) (h k : ℕ) (slots : List (Slot M)) (last : ℕ) → 0 < h → tally (only k) slots last ≤ tally (times k look h) slots last
  roots_counted look h k slots last lt = tally-le (only k) (times k look h) (λ n. root_counted look h k n lt) slots last

  root_itself : (look : Look M) (h n : ℕ) → 0 < h → 1 ≤ times n look h n
  root_itself look h n lt = let s = only_self n in let r = root_counted look h n n lt in omega arith

  -- what holds of each child, wherever the row stands
  pub any_place : (Q : ℕ → Type 0) (l r l' r' : Bool) (slots : List (Slot M)) (last : ℕ) → KidsAt (λ _ _ k. Q k) l r slots last → KidsAt (λ _ _ k. Q k) l' r' slots last
  any_place Q l r l' r' [] last k = k
  any_place Q l r l' r' (x ∷ xs) last k = (k.0, any_place Q false r false r' xs last k.1)

  kids_both : (P Q : ℕ → Type 0) (slots : List (Slot M)) (last : ℕ) → KidsAt (λ _ _ k. P k) false false slots last → KidsAt (λ _ _ k. Q k) false false slots last → KidsAt (λ _ _ k. P k × Q k) false false slots last
  kids_both P Q [] last a b = (a, b)
  kids_both P Q (x ∷ xs) last a b = ((a.0, b.0), kids_both P Q xs last a.1 b.1)

  kids_second : (P Q : ℕ → Type 0) (slots : List (Slot M)) (last : ℕ) → KidsAt (λ _ _ k. P k × Q k) false false slots last → KidsAt (λ _ _ k. Q k) false false slots last
  kids_second P Q [] last a = a.1
  kids_second P Q (x ∷ xs) last a = (a.0.1, kids_second P Q xs last a.1)

-- trees of height 0 have no links
pub links_low : {M : Type 0} (s : Store M) (h : ℕ) (slots : List (Slot M)) (last : ℕ) → h ≡ 0 → AreLinked s h slots last
unfolding IsLinked
links_low s zero [] last e = tt
links_low s zero (x ∷ xs) last e = (tt, links_low s zero xs last e)
links_low s (suc h) slots last e = absurd (omega arith)

pub link_low : {M : Type 0} (s : Store M) (h at : ℕ) → h ≡ 0 → IsLinked s h at
unfolding IsLinked
link_low s zero at e = tt
link_low s (suc h) at e = absurd (omega arith)

-- the children of a linked tree's root are linked, and know the root
pub linked_kids : {M : Type 0} (s : Store M) (h at : ℕ) (n : Plain M) → plain s at ≡ Some n → IsLinked s (suc h) at → AreLinked s h n.slots n.last
unfolding IsLinked
linked_kids s h at n is k =
    let kids : KidsAt (λ _ _ j. HasUp s h at j × IsLinked s h j) false false n.slots n.last = rw is at k in
    kids_second (λ j. HasUp s h at j) (λ j. IsLinked s h j) n.slots n.last kids

linked_root : {M : Type 0} (s : Store M) (h at : ℕ) (n : Plain M) → plain s at ≡ Some n → KidsAt (λ _ _ k. HasUp s h at k) false false n.slots n.last → AreLinked s h n.slots n.last → IsLinked s (suc h) at
unfolding IsLinked
linked_root s h at n is up links = rw is (kids_both (λ k. HasUp s h at k) (λ k. IsLinked s h k) n.slots n.last up links)

-- in nodes, whose numbers differ, nothing changes
pub record Calm {M : Type 0} (old new : Store M) (used : ℕ → ℕ) : Type 0 where
  pub once : (k : ℕ) → used k ≤ 1
  pub same : (k : ℕ) → 1 ≤ used k → plain new k ≡ plain old k
  pub parents : (k : ℕ) → 1 ≤ used k → ups new k ≡ ups old k

-- in a tree, whose numbers differ, nothing changes but the parent of its root
record CalmTree {M : Type 0} (old new : Store M) (h at : ℕ) : Type 0 where
  once : (k : ℕ) → times k (plain old) h at ≤ 1
  same : (k : ℕ) → 1 ≤ times k (plain old) h at → plain new k ≡ plain old k
  parents : (k : ℕ) → 1 ≤ times k (plain old) h at → k ≢ at → ups new k ≡ ups old k

module _ {M : Type 0} (old new : Store M) where
  has_up : (h at k : ℕ) → (0 < h → ups new k ≡ ups old k) → HasUp old h at k → HasUp new h at k
  has_up zero at k same u = tt
  has_up (suc h) at k same u = same (omega arith) ∙ u

  linked_row : (h at : ℕ) → ((k : ℕ) → CalmTree old new h k → IsLinked old h k → IsLinked new h k) → (slots : List (Slot M)) (last : ℕ) → Calm old new (λ k. tally (times k (plain old) h) slots last) → KidsAt (λ _ _ k. HasUp old h at k × IsLinked old h k) false false slots last → KidsAt (λ _ _ k. HasUp new h at k × IsLinked new h k) false false slots last
  linked_row h at tree [] last c k =
      (has_up h at last (λ lt. c.parents last (root_itself (plain old) h last lt)) k.0, tree last (record { once = c.once; same = c.same; parents = λ n u ne. c.parents n u }) k.1)
  linked_row h at tree (x ∷ xs) last c k =
      let calm : CalmTree old new h x.kid = record { once = λ n. let o = c.once n in omega arith; same = λ n u. c.same n (omega arith); parents = λ n u ne. c.parents n (omega arith) } in
      let rest : Calm old new (λ n. tally (times n (plain old) h) xs last) = record { once = λ n. let o = c.once n in omega arith; same = λ n u. c.same n (omega arith); parents = λ n u. c.parents n (omega arith) } in
      ((has_up h at x.kid (λ lt. c.parents x.kid (let r = root_itself (plain old) h x.kid lt in omega arith)) k.0.0, tree x.kid calm k.0.1), linked_row h at tree xs last rest k.1)

  linked_node : (h at : ℕ) → ((k : ℕ) → CalmTree old new h k → IsLinked old h k → IsLinked new h k) → (o : Option (Plain M)) → plain old at ≡ o → plain new at ≡ o → CalmTree old new (suc h) at → IsLinked old (suc h) at → IsLinked new (suc h) at
  unfolding IsLinked weigh
  linked_node h at tree None was is c k = absurd (rw was at k)
  linked_node h at tree (Some n) was is c k =
      let kids : KidsAt (λ _ _ j. HasUp old h at j × IsLinked old h j) false false n.slots n.last = rw was at k in
      let weight : (j : ℕ) → times j (plain old) (suc h) at ≡ only j at + tally (times j (plain old) h) n.slots n.last = λ j. rw was refl in
      let apart : (j : ℕ) → 1 ≤ tally (times j (plain old) h) n.slots n.last → j ≢ at = λ j u e. let w = weight j in let o = c.once j in let s = only_self j in let z : only j at ≡ 1 = rw (← e) s in absurd (omega arith) in
      let calm : Calm old new (λ j. tally (times j (plain old) h) n.slots n.last) = record { once = λ j. let w = weight j in let o = c.once j in omega arith; same = λ j u. c.same j (let w = weight j in omega arith); parents = λ j u. c.parents j (let w = weight j in omega arith) (apart j u) } in
      rw is (linked_row h at tree n.slots n.last calm kids)

  linked_tree : (h at : ℕ) → CalmTree old new h at → IsLinked old h at → IsLinked new h at
  unfolding IsLinked
  linked_tree zero at c k = tt
  linked_tree (suc h) at c k = linked_node h at (linked_tree h) (plain old at) refl (c.same at (root_itself (plain old) (suc h) at (omega arith))) c k

  calm_tree : (h at : ℕ) → Calm old new (λ k. times k (plain old) h at) → CalmTree old new h at
  calm_tree h at c = record { once = c.once; same = c.same; parents = λ k u ne. c.parents k u }

  linked_trees : (h : ℕ) (slots : List (Slot M)) (last : ℕ) → Calm old new (λ k. tally (times k (plain old) h) slots last) → AreLinked old h slots last → AreLinked new h slots last
  linked_trees h [] last c k = linked_tree h last (calm_tree h last c) k
  linked_trees h (x ∷ xs) last c k =
      let calm : CalmTree old new h x.kid = record { once = λ n. let o = c.once n in omega arith; same = λ n u. c.same n (omega arith); parents = λ n u ne. c.parents n (omega arith) } in
      let rest : Calm old new (λ n. tally (times n (plain old) h) xs last) = record { once = λ n. let o = c.once n in omega arith; same = λ n u. c.same n (omega arith); parents = λ n u. c.parents n (omega arith) } in
      (linked_tree h x.kid calm k.0, linked_trees h xs last rest k.1)

  linked_beside : (h : ℕ) (slots : List (Slot M)) (last i : ℕ) → Calm old new (λ k. others (times k (plain old) h) slots last i) → OthersAt (λ _ _ k. IsLinked old h k) false false slots last i → OthersAt (λ _ _ k. IsLinked new h k) false false slots last i
  linked_beside h [] last i c o = tt
  linked_beside h (x ∷ xs) last zero c o = linked_trees h xs last c o
  linked_beside h (x ∷ xs) last (suc i) c o =
      let calm : CalmTree old new h x.kid = record { once = λ n. let p = c.once n in omega arith; same = λ n u. c.same n (omega arith); parents = λ n u ne. c.parents n (omega arith) } in
      let rest : Calm old new (λ n. others (times n (plain old) h) xs last i) = record { once = λ n. let p = c.once n in omega arith; same = λ n u. c.same n (omega arith); parents = λ n u. c.parents n (omega arith) } in
      (linked_tree h x.kid calm o.0, linked_beside h xs last i rest o.1)

  pub same_linked : (h at : ℕ) → ((k : ℕ) → times k (plain old) h at ≤ 1) → ((k : ℕ) → look new k ≡ look old k) → IsLinked old h at → IsLinked new h at
  same_linked h at once same k = linked_tree h at (record { once = once; same = λ n u. ap (option_map plain_node) (same n); parents = λ n u ne. ap (option_map (λ m. m.up)) (same n) }) k

  -- only the roots of a row get another parent
  linked_adopted : (h : ℕ) (slots : List (Slot M)) (last : ℕ) → 0 < h → ((k : ℕ) → tally (times k (plain old) h) slots last ≤ 1) → ((k : ℕ) → 1 ≤ tally (times k (plain old) h) slots last → plain new k ≡ plain old k) → ((k : ℕ) → 1 ≤ tally (times k (plain old) h) slots last → tally (only k) slots last ≡ 0 → ups new k ≡ ups old k) → AreLinked old h slots last → AreLinked new h slots last
  linked_adopted h [] last lt once same parents k =
      linked_tree h last (record { once = once; same = same; parents = λ n u ne. parents n u (only_other n last ne) }) k
  linked_adopted h (x ∷ xs) last lt once same parents k =
      let calm : CalmTree old new h x.kid = record {
        once = λ n. let o = once n in omega arith;
        same = λ n u. same n (omega arith);
        parents = λ n u ne. parents n (omega arith) (let a = only_other n x.kid ne in let b = roots_counted (plain old) h n xs last lt in let o = once n in omega arith);
      } in
      (linked_tree h x.kid calm k.0, linked_adopted h xs last lt (λ n. let o = once n in omega arith) (λ n u. same n (omega arith)) (λ n u z. parents n (omega arith) (let a = root_counted (plain old) h n x.kid lt in let o = once n in omega arith)) k.1)

  -- beside what moves nothing changes
  pub calm_beside : (used f g : ℕ → ℕ) → Moves (look old) (look new) f g → ((k : ℕ) → used k + (f k + vacancy (look old k)) ≤ 1) → Calm old new used
  calm_beside used f g m apart = record {
    once = λ k. let a = apart k in omega arith;
    same = λ k u. let a = apart k in ap (option_map plain_node) (m.kept k (omega arith));
    parents = λ k u. let a = apart k in ap (option_map (λ n. n.up)) (m.kept k (omega arith));
  }

  pub row_linked : (h : ℕ) (slots : List (Slot M)) (last : ℕ) (f g : ℕ → ℕ) → Moves (look old) (look new) f g → ((k : ℕ) → row_times k (plain old) h slots last + (f k + vacancy (look old k)) ≤ 1) → AreLinked old h slots last → AreLinked new h slots last
  row_linked h slots last f g m apart k = linked_trees h slots last (calm_beside (λ k. tally (times k (plain old) h) slots last) f g m apart) k

  pub tree_linked : (h at : ℕ) (f g : ℕ → ℕ) → Moves (look old) (look new) f g → ((k : ℕ) → times k (plain old) h at + (f k + vacancy (look old k)) ≤ 1) → IsLinked old h at → IsLinked new h at
  tree_linked h at f g m apart k = linked_tree h at (calm_tree h at (calm_beside (λ k. times k (plain old) h at) f g m apart)) k

  pub others_linked : (h : ℕ) (slots : List (Slot M)) (last i : ℕ) (f g : ℕ → ℕ) → Moves (look old) (look new) f g → ((k : ℕ) → others (times k (plain old) h) slots last i + (f k + vacancy (look old k)) ≤ 1) → OthersAt (λ _ _ k. IsLinked old h k) false false slots last i → OthersAt (λ _ _ k. IsLinked new h k) false false slots last i
  others_linked h slots last i f g m apart o = linked_beside h slots last i (calm_beside (λ k. others (times k (plain old) h) slots last i) f g m apart) o

module _ {M : Type 0} (old now new : Store M) (at : ℕ) where
  row_written : (h : ℕ) (slots : List (Slot M)) (last : ℕ) (node : Node M) → ((k : ℕ) → only k at + row_times k (plain old) h slots last ≤ 1) → AreAdopted old now h slots last at → Puts now new at (Some node) → AreLinked old h slots last → AreLinked new h slots last
  row_written zero slots last node owned adopted put k = links_low new 0 slots last refl
  row_written (suc h) slots last node owned adopted put k =
      let apart : (k : ℕ) → 1 ≤ row_times k (plain old) (suc h) slots last → k ≢ at = λ k u e. let o = owned k in let s = only_self k in let z : only k at ≡ 1 = rw (← e) s in absurd (omega arith) in
      linked_adopted old new (suc h) slots last (omega arith) (λ k. let o = owned k in omega arith)
      (λ k u. ap (option_map plain_node) (put.others k (apart k u)) ∙ adopted.same k)
      (λ k u z. ap (option_map (λ n. n.up)) (put.others k (apart k u)) ∙ ap (option_map (λ n. n.up)) (adopted.others k (λ lt. z)))
      k

  -- a node is written over children that were adopted, so it is linked
  pub linked_written : (h : ℕ) (slots : List (Slot M)) (last : ℕ) (node : Node M) (n : Plain M) → plain new at ≡ Some n → n.slots ≡ slots → n.last ≡ last → ((k : ℕ) → only k at + row_times k (plain old) h slots last ≤ 1) → AreAdopted old now h slots last at → Puts now new at (Some node) → KidsAt (λ _ _ k. HasUp new h at k) false false slots last → AreLinked old h slots last → IsLinked new (suc h) at
  linked_written h slots last node n is s l owned adopted put up links =
      linked_root new h at n is (rw (s, l) up) (rw (s, l) (row_written h slots last node owned adopted put links))
