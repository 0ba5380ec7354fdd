-- Rows of children taken apart and put together, and trees that a change elsewhere leaves alone.
use Rattle.std.proofs.Common.{◌≡◌, ◌≤◌, ◌||◌, ◌+◌, ◌++◌, ℕ, zero, suc, Bool, true, false, cond, List, [], ◌∷◌, Option, None, Some, refl, sym, ap, ◌∙◌, arith, append_assoc}
use Rattle.std.proofs.lemmas.Bool.Decides.{nat_tests}
use Rattle.agg_laws.specs.Laws.{total}
use Rattle.agg_laws.specs.Pairs.{values_of}
use Rattle.fiba_nodes.specs.declared.slot.Slot.{Slot}
use Rattle.fiba_nodes.specs.Rows.{Plain}
use Rattle.fiba_nodes.specs.Trees.{Look, pair_of, woven, shown, tally, KidsAt, pairs_at, weigh, times, IsNode, IsAt}

module _ {M : Type 0} where
  -- a row joined from two with a slot's item between
  pub woven-join : (f : ℕ → List (ℕ × M)) (xs : List (Slot M)) (s : Slot M) (ys : List (Slot M)) (last : ℕ) → woven f (xs ++ s ∷ ys) last ≡ woven f xs s.kid ++ pair_of s.item ∷ woven f ys last
  woven-join f [] s ys last = refl
  woven-join f (x ∷ xs) s ys last =
      ap (λ l. f x.kid ++ pair_of x.item ∷ l) (woven-join f xs s ys last) ∙ sym (append_assoc (f x.kid) (pair_of x.item ∷ woven f xs s.kid) (pair_of s.item ∷ woven f ys last))

  pub tally-join : (f : ℕ → ℕ) (xs : List (Slot M)) (s : Slot M) (ys : List (Slot M)) (last : ℕ) → tally f (xs ++ s ∷ ys) last ≡ tally f xs s.kid + tally f ys last
  tally-join f [] s ys last = refl
  tally-join f (x ∷ xs) s ys last = let e = tally-join f xs s ys last in omega (arith, e)

  pub shown-join : (left right : Bool) (f : ℕ → List (ℕ × M)) (xs : List (Slot M)) (s : Slot M) (ys : List (Slot M)) (last : ℕ) → shown left right f (xs ++ s ∷ ys) last ≡ shown left false f xs s.kid ++ pair_of s.item ∷ shown false right f ys last
  shown-join false right f [] s ys last = refl
  shown-join true right f [] s ys last = refl
  shown-join left right f (x ∷ xs) s ys last =
      ap (λ l. cond left [] (f x.kid) ++ pair_of x.item ∷ l) (shown-join false right f xs s ys last) ∙ sym (append_assoc (cond left [] (f x.kid)) (pair_of x.item ∷ shown false false f xs s.kid) (pair_of s.item ∷ shown false right f ys last))

  pub kids-join : (P : Bool → Bool → ℕ → Type 0) (left right : Bool) (xs : List (Slot M)) (s : Slot M) (ys : List (Slot M)) (last : ℕ) → KidsAt P left false xs s.kid → KidsAt P false right ys last → KidsAt P left right (xs ++ s ∷ ys) last
  kids-join P left right [] s ys last h t = (h, t)
  kids-join P left right (x ∷ xs) s ys last h t = (h.0, kids-join P false right xs s ys last h.1 t)

  pub kids-split : (P : Bool → Bool → ℕ → Type 0) (left right : Bool) (xs : List (Slot M)) (s : Slot M) (ys : List (Slot M)) (last : ℕ) → KidsAt P left right (xs ++ s ∷ ys) last → KidsAt P left false xs s.kid × KidsAt P false right ys last
  kids-split P left right [] s ys last h = h
  kids-split P left right (x ∷ xs) s ys last h =
      let rest = kids-split P false right xs s ys last h.1 in
      ((h.0, rest.0), rest.1)

  -- off both edges all is shown
  pub shown-inner : (f : ℕ → List (ℕ × M)) (xs : List (Slot M)) (last : ℕ) → shown false false f xs last ≡ woven f xs last
  shown-inner f [] last = refl
  shown-inner f (x ∷ xs) last = ap (λ l. f x.kid ++ pair_of x.item ∷ l) (shown-inner f xs last)

-- nothing changes that counts
abbrev pub Keeps : {M : Type 0} → Look M → Look M → (ℕ → ℕ) → Type 0
Keeps old new used = (k : ℕ) → 1 ≤ used k → new k ≡ old k

-- the tree of a height at a number is as before
pub record SameTree {M : Type 0} (IsValue : M → Type 0) (empty : M) (op : M → M → M) (old new : Look M) (h at : ℕ) : Type 0 where
  pub pairs : pairs_at new h at ≡ pairs_at old h at
  pub weighs : (w : ℕ → ℕ) → weigh w new h at ≡ weigh w old h at
  pub sound : (l r : Bool) → IsAt IsValue empty op old h l r at → IsAt IsValue empty op new h l r at

-- the trees of a row are as before
pub record SameRow {M : Type 0} (IsValue : M → Type 0) (empty : M) (op : M → M → M) (old new : Look M) (h : ℕ) (slots : List (Slot M)) (last : ℕ) : Type 0 where
  pub pairs : woven (pairs_at new h) slots last ≡ woven (pairs_at old h) slots last
  pub shows : (l r : Bool) → shown l r (pairs_at new h) slots last ≡ shown l r (pairs_at old h) slots last
  pub tallies : (w : ℕ → ℕ) → tally (weigh w new h) slots last ≡ tally (weigh w old h) slots last
  pub kids : (l r : Bool) → KidsAt (λ l r k. IsAt IsValue empty op old h l r k) l r slots last → KidsAt (λ l r k. IsAt IsValue empty op new h l r k) l r slots last

module _ {M : Type 0} (IsValue : M → Type 0) (empty : M) (op : M → M → M) (old new : Look M) where
  same_row : (h : ℕ) → ((at : ℕ) → Keeps old new (λ k. times k old h at) → SameTree IsValue empty op old new h at) → (slots : List (Slot M)) (last : ℕ) → Keeps old new (λ k. tally (times k old h) slots last) → SameRow IsValue empty op old new h slots last
  same_row h tree [] last keeps =
      let t = tree last keeps in
      record { pairs = t.pairs; shows = λ l r. ap (λ ps. cond (l || r) [] ps) t.pairs; tallies = t.weighs; kids = λ l r k. t.sound l r k }
  same_row h tree (s ∷ ss) last keeps =
      let t = tree s.kid (λ k u. keeps k (omega arith)) in
      let rest = same_row h tree ss last (λ k u. keeps k (omega arith)) in
      record {
        pairs = ap (λ ps. ps ++ pair_of s.item ∷ woven (pairs_at new h) ss last) t.pairs ∙ ap (λ ps. pairs_at old h s.kid ++ pair_of s.item ∷ ps) rest.pairs;
        shows = λ l r. ap (λ ps. cond l [] ps ++ pair_of s.item ∷ shown false r (pairs_at new h) ss last) t.pairs ∙ ap (λ ps. cond l [] (pairs_at old h s.kid) ++ pair_of s.item ∷ ps) (rest.shows false r);
        tallies = λ w. let a = t.weighs w in let b = rest.tallies w in omega arith;
        kids = λ l r k. (t.sound l false k.0, rest.kids false r k.1);
      }

  same_node : (h at : ℕ) → ((at : ℕ) → Keeps old new (λ k. times k old h at) → SameTree IsValue empty op old new h at) → (o : Option (Plain M)) → old at ≡ o → new at ≡ o → Keeps old new (λ k. times k old (suc h) at) → SameTree IsValue empty op old new (suc h) at
  unfolding pairs_at weigh IsAt
  same_node h at tree None was is keeps =
      record { pairs = rw (was, is) refl; weighs = λ w. rw (was, is) refl; sound = λ l r k. rw is (rw was at k) }
  same_node h at tree (Some n) was is keeps =
      let row = same_row h tree n.slots n.last (λ k u. keeps k (rw was (omega arith))) in
      record {
        pairs = rw (was, is) row.pairs;
        weighs = λ w. rw (was, is) (ap (λ t. w at + t) (row.tallies w));
        sound = λ l r k.
            let old_node : IsNode IsValue empty op (pairs_at old h) (λ l r k. IsAt IsValue empty op old h l r k) l r h n = rw was at k in
            rw is (record { some = old_node.some; bottom = old_node.bottom; items = old_node.items; aggregate = old_node.aggregate ∙ ap (λ ps. total empty op (values_of ps)) (sym (row.shows l r)); kids = row.kids l r old_node.kids });
      }

  times_own : (h at : ℕ) → 1 ≤ times at old (suc h) at
  unfolding weigh
  times_own h at = grind (arith, nat_tests)

  pub same_tree : (h at : ℕ) → Keeps old new (λ k. times k old h at) → SameTree IsValue empty op old new h at
  unfolding pairs_at weigh IsAt
  same_tree zero at keeps = record { pairs = refl; weighs = λ w. refl; sound = λ l r k. k }
  same_tree (suc h) at keeps =
      same_node h at (same_tree h) (old at) refl (keeps at (times_own h at)) keeps

  pub same_kids : (h : ℕ) (slots : List (Slot M)) (last : ℕ) → Keeps old new (λ k. tally (times k old h) slots last) → SameRow IsValue empty op old new h slots last
  same_kids h slots last keeps = same_row h (same_tree h) slots last keeps
