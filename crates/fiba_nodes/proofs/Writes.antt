-- Nodes created and opened nodes closed, beside trees that stay.
use Rattle.std.proofs.Common.{◌≡◌, ◌≤◌, ◌+◌, ◌++◌, ℕ, suc, Bool, false, List, [], ◌∷◌, None, Some, refl, sym, ap, ◌∙◌, arith, inl, inr}
use Rattle.std.specs.Option.{option_map}
use Rattle.std.proofs.lemmas.Bool.{cases_eq}
use Rattle.std.proofs.lemmas.List.Elements.{All-cons, All-nil}
use Rattle.fiba_nodes.specs.declared.slot.Slot.{Slot}
use Rattle.fiba_nodes.specs.declared.node.Node.{Node}
use Rattle.fiba_nodes.specs.Rows.{plain_node}
use Rattle.fiba_nodes.specs.Stores.{Store, look, Puts}
use Rattle.fiba_nodes.specs.Trees.{AreLinked, IsAt, IsClosed, IsLinked, IsLoose, IsOpened, IsWritten, KidsAt, Moves, only, pair_of, pairs_at, plain, row_times, tally, times, vacancy, weigh, woven}
use Rattle.fiba_nodes.proofs.Lists.{all_back, all_front, all_middle}
use Rattle.fiba_nodes.proofs.Frames.{SameRow, SameTree, kids-split, same_kids, same_tree, tally-join, woven-join}
use Rattle.fiba_nodes.proofs.Sound.{moves-then, moves-beside, only_self, only_other}
use Rattle.fiba_nodes.proofs.Linked.{row_linked, tree_linked}

-- a number is taken
pub fresh_moves : {M : Type 0} (old new : Store M) (at : ℕ) (node : Node M) → look old at ≡ None → Puts old new at (Some node) → Moves (look old) (look new) (λ k. 0) (λ k. only k at)
fresh_moves old new at node free put = record {
  counts = λ k. elim (cases_eq k at) [
    | inl e ↦ let o = only_self at in let a : vacancy (look new k) ≡ 0 = rw (e, put.here) refl in let b : vacancy (look old k) ≡ 1 = rw (e, free) refl in let c : only k at ≡ 1 = rw e o in omega arith
    | inr ne ↦ let o = only_other k at ne in let a : vacancy (look new k) ≡ vacancy (look old k) = ap vacancy (put.others k ne) in omega arith
  ];
  kept = λ k z. put.others k (λ e. let b : vacancy (look old k) ≡ 1 = rw (e, free) refl in absurd (omega arith));
}

-- a number is given back
pub freed_moves : {M : Type 0} (old new : Store M) (at : ℕ) → Puts old new at None → Moves (look old) (look new) (λ k. only k at) (λ k. 0)
freed_moves old new at put = record {
  counts = λ k. elim (cases_eq k at) [
    | inl e ↦ let o = only_self at in let a : vacancy (look new k) ≡ 1 = rw (e, put.here) refl in let c : only k at ≡ 1 = rw e o in omega arith
    | inr ne ↦ let a : vacancy (look new k) ≡ vacancy (look old k) = ap vacancy (put.others k ne) in omega arith
  ];
  kept = λ k z. put.others k (λ e. let o = only_self at in let c : only k at ≡ 1 = rw e o in absurd (omega arith));
}

module _ {M : Type 0} (IsValue : M → Type 0) (empty : M) (op : M → M → M) where
  -- a row or a tree that has nothing of what moves
  pub row_beside : (old new : Store M) (h : ℕ) (slots : List (Slot M)) (last : ℕ) (f g : ℕ → ℕ) → Moves (look old) (look new) f g → ((k : ℕ) → row_times k (plain old) h slots last + (f k + vacancy (look old k)) ≤ 1) → SameRow IsValue empty op (plain old) (plain new) h slots last
  row_beside old new h slots last f g m apart =
      same_kids IsValue empty op (plain old) (plain new) h slots last (λ k u. let a = apart k in ap (option_map plain_node) (m.kept k (omega arith)))

  pub tree_beside : (old new : Store M) (h at : ℕ) (f g : ℕ → ℕ) → Moves (look old) (look new) f g → ((k : ℕ) → times k (plain old) h at + (f k + vacancy (look old k)) ≤ 1) → SameTree IsValue empty op (plain old) (plain new) h at
  tree_beside old new h at f g m apart =
      same_tree IsValue empty op (plain old) (plain new) h at (λ k u. let a = apart k in ap (option_map plain_node) (m.kept k (omega arith)))

  module _ (old mid : Store M) (at h : ℕ) (l r : Bool) (slots : List (Slot M)) (last : ℕ) (node : Node M) (loose : IsLoose IsValue empty op old h l r slots last) (free : look old at ≡ None) (put : Puts old mid at (Some node)) where
    row_stays : SameRow IsValue empty op (plain old) (plain mid) h slots last
    row_stays = row_beside old mid h slots last (λ k. 0) (λ k. only k at) (fresh_moves old mid at node free put) (λ k. let o = loose.owned k in omega arith)

    pub opened_fresh : IsOpened IsValue empty op mid at h l r slots last
    opened_fresh =
        let row = row_stays in
        let m = fresh_moves old mid at node free put in
        record {
          items = loose.items;
          kids = row.kids l r loose.kids;
          owned = λ k. let o = loose.owned k in let c = m.counts k in let t = row.tallies (only k) in omega arith;
          linked = row_linked old mid h slots last (λ k. 0) (λ k. only k at) m (λ k. let o = loose.owned k in omega arith) loose.linked;
        }

    pub written_fresh : (new : Store M) → IsWritten IsValue empty op mid new at h l r slots last → IsWritten IsValue empty op old new at h l r slots last
    written_fresh new w =
        let row = row_stays in
        record { sound = w.sound; pairs = w.pairs ∙ row.pairs; weighs = λ v. w.weighs v ∙ ap (λ t. v at + t) (row.tallies v); linked = w.linked }

    pub moves_fresh : (new : Store M) → Moves (look mid) (look new) (λ k. only k at + row_times k (plain mid) h slots last) (λ k. times k (plain new) (suc h) at) → Moves (look old) (look new) (λ k. row_times k (plain old) h slots last) (λ k. times k (plain new) (suc h) at)
    moves_fresh new m =
        let row = row_stays in
        moves-then (look old) (look mid) (look new) (λ k. row_times k (plain old) h slots last) (λ k. only k at + row_times k (plain mid) h slots last) (λ k. times k (plain new) (suc h) at)
        (moves-beside (look old) (look mid) (λ k. 0) (λ k. only k at) (λ k. row_times k (plain old) h slots last) (λ k. only k at + row_times k (plain mid) h slots last) (λ k. row_times k (plain old) h slots last) (fresh_moves old mid at node free put) (λ k. omega arith) (λ k. let t = row.tallies (only k) in omega arith))
        m

  -- an opened node with many items in two parts
  module _ (old : Store M) (at h : ℕ) (l r : Bool) (xs : List (Slot M)) (s : Slot M) (ys : List (Slot M)) (last : ℕ) (opened : IsOpened IsValue empty op old at h l r (xs ++ s ∷ ys) last) where
    parts : KidsAt (λ l r k. IsAt IsValue empty op (plain old) h l r k) l false xs s.kid × KidsAt (λ l r k. IsAt IsValue empty op (plain old) h l r k) false r ys last
    parts = kids-split (λ l r k. IsAt IsValue empty op (plain old) h l r k) l r xs s ys last opened.kids

    linked_parts : AreLinked old h xs s.kid × AreLinked old h ys last
    linked_parts = kids-split (λ _ _ k. IsLinked old h k) false false xs s ys last opened.linked

    weight : (w : ℕ → ℕ) → tally (weigh w (plain old) h) (xs ++ s ∷ ys) last ≡ tally (weigh w (plain old) h) xs s.kid + tally (weigh w (plain old) h) ys last
    weight w = tally-join (weigh w (plain old) h) xs s ys last

    pub back_loose : IsLoose IsValue empty op old h false r ys last
    back_loose = record { items = all_back (λ s. IsValue s.item.value) xs s ys opened.items; kids = parts.1; owned = λ k. let o = opened.owned k in let t = weight (only k) in omega arith; linked = linked_parts.1 }

    module _ (mid : Store M) (end : ℕ) (moved : Moves (look old) (look mid) (λ k. row_times k (plain old) h ys last) (λ k. times k (plain mid) (suc h) end)) where
      front_stays : SameRow IsValue empty op (plain old) (plain mid) h xs s.kid
      front_stays = row_beside old mid h xs s.kid (λ k. row_times k (plain old) h ys last) (λ k. times k (plain mid) (suc h) end) moved (λ k. let o = opened.owned k in let t = weight (only k) in omega arith)

      -- the number that is held is left alone
      pub held_stays : look mid at ≡ look old at
      held_stays = moved.kept at (let o = opened.owned at in let t = weight (only at) in let s = only_self at in omega arith)

      pub front_opened : IsOpened IsValue empty op mid at h l false xs s.kid
      front_opened = record {
        items = all_front (λ s. IsValue s.item.value) xs s ys opened.items;
        kids = front_stays.kids l false parts.0;
        owned = λ k. let o = opened.owned k in let t = weight (only k) in let c = moved.counts k in let e = front_stays.tallies (only k) in omega arith;
        linked = row_linked old mid h xs s.kid (λ k. row_times k (plain old) h ys last) (λ k. times k (plain mid) (suc h) end) moved (λ k. let o = opened.owned k in let t = weight (only k) in omega arith) linked_parts.0;
      }

      pub closed_in_two : (new : Store M) → IsWritten IsValue empty op old mid end h false r ys last → IsWritten IsValue empty op mid new at h l false xs s.kid → Moves (look mid) (look new) (λ k. only k at + row_times k (plain mid) h xs s.kid) (λ k. times k (plain new) (suc h) at) → mid.spare + 1 ≡ old.spare → new.spare ≡ mid.spare → IsClosed IsValue empty op old new at h l r (xs ++ s ∷ ys) last (record { kid = at; item = s.item } ∷ []) end
      closed_in_two new back front then taken spare =
          let apart : (k : ℕ) → times k (plain mid) (suc h) end + (only k at + row_times k (plain mid) h xs s.kid + vacancy (look mid k)) ≤ 1 = λ k. let o = opened.owned k in let t = weight (only k) in let c = moved.counts k in let e = front_stays.tallies (only k) in omega arith in
          let stays = tree_beside mid new (suc h) end (λ k. only k at + row_times k (plain mid) h xs s.kid) (λ k. times k (plain new) (suc h) at) then apart in
          record {
            sizes =
                let t = weight (λ _. 1) in
                let a = front.weighs (λ _. 1) in
                let b = stays.weighs (λ _. 1) in
                let c = back.weighs (λ _. 1) in
                let e = front_stays.tallies (λ _. 1) in
                omega arith;
            items = All-cons (λ s. IsValue s.item.value) (record { kid = at; item = s.item }) [] (all_middle (λ s. IsValue s.item.value) xs s ys opened.items) (All-nil (λ s. IsValue s.item.value));
            kids = (front.sound, stays.sound false r back.sound);
            pairs = ap (λ ps. ps ++ pair_of s.item ∷ pairs_at (plain new) (suc h) end) (front.pairs ∙ front_stays.pairs) ∙ ap (λ ps. woven (pairs_at (plain old) h) xs s.kid ++ pair_of s.item ∷ ps) (stays.pairs ∙ back.pairs) ∙ sym (woven-join (pairs_at (plain old) h) xs s ys last);
            moves = record {
              counts = λ k. let t = weight (only k) in let c = moved.counts k in let d = then.counts k in let e = front_stays.tallies (only k) in let f = stays.weighs (only k) in omega arith;
              kept = λ k z. let t = weight (only k) in let c = moved.counts k in let e = front_stays.tallies (only k) in then.kept k (omega arith) ∙ moved.kept k (omega arith);
            };
            room =
                let t = weight (λ _. 1) in
                let a = front.weighs (λ _. 1) in
                let b = stays.weighs (λ _. 1) in
                let c = back.weighs (λ _. 1) in
                let e = front_stays.tallies (λ _. 1) in
                omega arith;
            linked = (front.linked, tree_linked mid new (suc h) end (λ k. only k at + row_times k (plain mid) h xs s.kid) (λ k. times k (plain new) (suc h) at) then apart back.linked);
          }
