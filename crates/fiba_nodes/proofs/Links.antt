-- The children of a row get another parent, one after another.
use Rattle.std.proofs.Common.{◌≡◌, ◌≢◌, ◌≤◌, ◌<◌, ◌==◌, ◌+◌, ℕ, zero, suc, Bool, false, List, [], ◌∷◌, Option, Some, IsSome, length, refl, ap, subst, ◌∙◌, arith, inl, inr}
use Rattle.std.specs.Prelude.{slice_get}
use Rattle.std.specs.Option.{option_map}
use Rattle.std.proofs.lemmas.Bool.{cases_eq}
use Rattle.fiba_nodes.specs.declared.slot.Slot.{Slot}
use Rattle.fiba_nodes.specs.Rows.{plain_node}
use Rattle.fiba_nodes.specs.Stores.{Store, look, Puts}
use Rattle.fiba_nodes.specs.declared.node.Node.{Node}
use Rattle.agg_laws.specs.Laws.{total}
use Rattle.agg_laws.specs.Pairs.{values_of}
use Rattle.fiba_nodes.specs.Trees.{HasUp, KidsAt, IsAt, IsOpened, IsWritten, Moves, TreesAt, Look, only, pairs_at, plain, row_times, shown, tally, times, ups, vacancy}
use Rattle.fiba_nodes.specs.Links.{IsAdopted, AreAdopted}
use Rattle.fiba_nodes.proofs.Sound.{only_self, written, written_moves}
use Rattle.fiba_nodes.proofs.Linked.{linked_written, roots_counted}
use Rattle.fiba_nodes.proofs.Opened.{is_used, is_some}

not_it : (k n total : ℕ) → only k n ≤ total → total ≡ 0 → k ≢ n
not_it k n total h z e = let s = only_self k in let q : only k n ≡ 1 = rw (← e) s in absurd (omega arith)

module _ {M : Type 0} where
  -- what holds of each child
  pub kid_at : (P : Bool → Bool → ℕ → Type 0) (Q : ℕ → Type 0) → ((l r : Bool) (k : ℕ) → P l r k → Q k) → (l r : Bool) (slots : List (Slot M)) (last i : ℕ) (s : Slot M) → slice_get slots i ≡ Some s → KidsAt P l r slots last → Q s.kid
  kid_at P Q weaker l r [] last i s is k = cc
  kid_at P Q weaker l r (x ∷ xs) last zero s is k = let e : x ≡ s = cc in subst (λ y. Q y.kid) e (weaker l false x.kid k.0)
  kid_at P Q weaker l r (x ∷ xs) last (suc i) s is k = kid_at P Q weaker false r xs last i s is k.1

  pub last_at : (P : Bool → Bool → ℕ → Type 0) (Q : ℕ → Type 0) → ((l r : Bool) (k : ℕ) → P l r k → Q k) → (l r : Bool) (slots : List (Slot M)) (last : ℕ) → KidsAt P l r slots last → Q last
  last_at P Q weaker l r [] last k = weaker l r last k
  last_at P Q weaker l r (x ∷ xs) last k = last_at P Q weaker false r xs last k.1

  pub all_kids : (Q : ℕ → Type 0) (slots : List (Slot M)) (last : ℕ) → ((i : ℕ) (s : Slot M) → slice_get slots i ≡ Some s → Q s.kid) → Q last → KidsAt (λ _ _ k. Q k) false false slots last
  all_kids Q [] last each end = end
  all_kids Q (x ∷ xs) last each end = (each 0 x refl, all_kids Q xs last (λ i s is. each (suc i) s is) end)

  kid_counted : (k : ℕ) (slots : List (Slot M)) (last i : ℕ) (s : Slot M) → slice_get slots i ≡ Some s → only k s.kid ≤ tally (only k) slots last
  kid_counted k [] last i s is = cc
  kid_counted k (x ∷ xs) last zero s is = let e : x ≡ s = cc in let q : only k x.kid ≡ only k s.kid = ap (λ y. only k y.kid) e in omega arith
  kid_counted k (x ∷ xs) last (suc i) s is = let h = kid_counted k xs last i s is in omega arith

  last_counted : (k : ℕ) (slots : List (Slot M)) (last : ℕ) → only k last ≤ tally (only k) slots last
  last_counted k [] last = omega arith
  last_counted k (x ∷ xs) last = let h = last_counted k xs last in omega arith

  -- some children have the parent, and nothing else changed
  pub record Adopting (old new : Store M) (slots : List (Slot M)) (last at i : ℕ) : Type 0 where
    pub same : (k : ℕ) → plain new k ≡ plain old k
    pub done : (j : ℕ) (s : Slot M) → j < i → slice_get slots j ≡ Some s → ups new s.kid ≡ Some (Some at)
    pub others : (k : ℕ) → tally (only k) slots last ≡ 0 → look new k ≡ look old k
    pub spare : new.spare ≡ old.spare

  kept_up : (old new : Store M) (kid at k : ℕ) → IsAdopted old new kid at → ups old k ≡ Some (Some at) → ups new k ≡ Some (Some at)
  kept_up old new kid at k a u =
      elim (cases_eq k kid) [
        | inl e ↦ rw e a.up
        | inr ne ↦ ap (option_map (λ n. n.up)) (a.others k ne) ∙ u
      ]

  pub adopting_more : (old now new : Store M) (slots : List (Slot M)) (last at i : ℕ) (s : Slot M) → slice_get slots i ≡ Some s → Adopting old now slots last at i → IsAdopted now new s.kid at → Adopting old new slots last at (i + 1)
  adopting_more old now new slots last at i s is h a = record {
    same = λ k. a.same k ∙ h.same k;
    done = λ j t lt e. elim (cases_eq j i) [
      | inl q ↦ let same : t ≡ s = let f : slice_get slots i ≡ Some t = rw (← q) e in cc in rw same a.up
      | inr ne ↦ kept_up now new s.kid at t.kid a (h.done j t (omega arith) e)
    ];
    others = λ k z. a.others k (not_it k s.kid _ (kid_counted k slots last i s is) z) ∙ h.others k z;
    spare = a.spare ∙ h.spare;
  }

  has_up : (s : Store M) (h at k : ℕ) → ups s k ≡ Some (Some at) → HasUp s h at k
  has_up s zero at k u = tt
  has_up s (suc h) at k u = u

  pub slot_below : (slots : List (Slot M)) (i : ℕ) (s : Slot M) → slice_get slots i ≡ Some s → i < length slots
  slot_below [] i s is = cc
  slot_below (x ∷ xs) zero s is = omega arith
  slot_below (x ∷ xs) (suc i) s is = let h = slot_below xs i s is in omega arith

  pub all_adopted : (old now new : Store M) (h : ℕ) (slots : List (Slot M)) (last at i : ℕ) → 0 < h → length slots ≤ i → Adopting old now slots last at i → IsAdopted now new last at → AreAdopted old new h slots last at
  all_adopted old now new h slots last at i lt all a b = record {
    same = λ k. b.same k ∙ a.same k;
    ups = all_kids (λ k. HasUp new h at k) slots last (λ j s is. let below = slot_below slots j s is in has_up new h at s.kid (kept_up now new last at s.kid b (a.done j s (omega arith) is))) (has_up new h at last b.up);
    others = λ k y. let z = y lt in b.others k (not_it k last _ (last_counted k slots last) z) ∙ a.others k z;
    spare = b.spare ∙ a.spare;
  }

  pub adopting_none : (s : Store M) (slots : List (Slot M)) (last at : ℕ) → Adopting s s slots last at 0
  adopting_none s slots last at = record { same = λ k. refl; done = λ j t lt e. absurd (omega arith); others = λ k z. refl; spare = refl }

  pub none_adopted : (s : Store M) (h : ℕ) (slots : List (Slot M)) (last at : ℕ) → h ≡ 0 → AreAdopted s s h slots last at
  none_adopted s zero slots last at e = record { same = λ k. refl; ups = all_kids (λ k. HasUp s zero at k) slots last (λ j t is. tt) tt; others = λ k z. refl; spare = refl }
  none_adopted s (suc h) slots last at e = absurd (omega arith)

module _ {M : Type 0} (IsValue : M → Type 0) (empty : M) (op : M → M → M) where
  -- a node is written where its children were adopted before
  pub node_written : (old now new : Store M) (at h : ℕ) (l r : Bool) (slots : List (Slot M)) (last : ℕ) (node : Node M) (agg : M) (leaf : Bool) → IsOpened IsValue empty op old at h l r slots last → 1 ≤ length slots → leaf ≡ (h == 0) → agg ≡ total empty op (values_of (shown l r (pairs_at (plain old) h) slots last)) → AreAdopted old now h slots last at → plain_node node ≡ record { slots = slots; last = last; agg = agg; leaf = leaf } → Puts now new at (Some node) → KidsAt (λ _ _ k. HasUp new h at k) false false slots last → IsWritten IsValue empty op old new at h l r slots last
  node_written old now new at h l r slots last node agg leaf opened some bottom sum adopted made put up =
      let is = ap (option_map plain_node) put.here ∙ ap Some made in
      written IsValue empty op old new h l r at slots last agg leaf
      is
      (λ k ne. ap (option_map plain_node) (put.others k ne) ∙ adopted.same k)
      some bottom sum opened
      (linked_written old now new at h slots last node (record { slots = slots; last = last; agg = agg; leaf = leaf }) is refl refl (λ k. let o = opened.owned k in omega arith) adopted put up opened.linked)

  pub node_moves : (old now new : Store M) (at h : ℕ) (l r : Bool) (slots : List (Slot M)) (last : ℕ) (node : Node M) → IsWritten IsValue empty op old new at h l r slots last → AreAdopted old now h slots last at → Puts now new at (Some node) → Moves (look old) (look new) (λ k. only k at + row_times k (plain old) h slots last) (λ k. times k (plain new) (suc h) at)
  node_moves old now new at h l r slots last node w adopted put =
      written_moves IsValue empty op old new h l r at slots last w
      (λ k ne. ap (option_map plain_node) (put.others k ne) ∙ adopted.same k)
      (λ k z.
      let away : k ≢ at = not_it k at _ (omega arith) z in
      put.others k away ∙ adopted.others k (λ lt. let c = roots_counted (plain old) h k slots last lt in omega arith))

  pub kid_there : (old now : Store M) (h : ℕ) (l r : Bool) (slots : List (Slot M)) (last at i : ℕ) (s : Slot M) → 0 < h → TreesAt IsValue empty op (plain old) h l r slots last → Adopting old now slots last at i → slice_get slots i ≡ Some s → IsSome (look now s.kid)
  kid_there old now h l r slots last at i s lt trees a is =
      kid_at (λ l r k. IsAt IsValue empty op (plain old) h l r k) (λ k. IsSome (look now k)) (λ l r k t. is_some now k (ap vacancy (a.same k) ∙ is_used IsValue empty op old h l r k lt t)) l r slots last i s is trees

  pub last_there : (old now : Store M) (h : ℕ) (l r : Bool) (slots : List (Slot M)) (last at i : ℕ) → 0 < h → TreesAt IsValue empty op (plain old) h l r slots last → Adopting old now slots last at i → IsSome (look now last)
  last_there old now h l r slots last at i lt trees a =
      last_at (λ l r k. IsAt IsValue empty op (plain old) h l r k) (λ k. IsSome (look now k)) (λ l r k t. is_some now k (ap vacancy (a.same k) ∙ is_used IsValue empty op old h l r k lt t)) l r slots last trees

module _ {M : Type 0} where
  up_kept : (now new : Store M) (h at k : ℕ) → (0 < h → look new k ≡ look now k) → HasUp now h at k → HasUp new h at k
  up_kept now new zero at k same u = tt
  up_kept now new (suc h) at k same u = ap (option_map (λ n. n.up)) (same (omega arith)) ∙ u

  -- the children of a row keep their parent where nothing changes at their numbers
  ups_kept : (now new : Store M) (h at : ℕ) (slots : List (Slot M)) (last : ℕ) → ((k : ℕ) → 0 < h → 1 ≤ tally (only k) slots last → look new k ≡ look now k) → KidsAt (λ _ _ k. HasUp now h at k) false false slots last → KidsAt (λ _ _ k. HasUp new h at k) false false slots last
  ups_kept now new h at [] last same k = up_kept now new h at last (λ lt. same last lt (let s = only_self last in omega arith)) k
  ups_kept now new h at (x ∷ xs) last same k =
      (up_kept now new h at x.kid (λ lt. same x.kid lt (let s = only_self x.kid in omega arith)) k.0, ups_kept now new h at xs last (λ n lt u. same n lt (omega arith)) k.1)

  -- the children that were adopted keep their parent where the parent itself is written
  pub kids_linked : (look_old : Look M) (now new : Store M) (at h : ℕ) (slots : List (Slot M)) (last : ℕ) (put_node : Option (Node M)) → ((k : ℕ) → only k at + tally (times k look_old h) slots last ≤ 1) → KidsAt (λ _ _ k. HasUp now h at k) false false slots last → Puts now new at put_node → KidsAt (λ _ _ k. HasUp new h at k) false false slots last
  kids_linked look_old now new at h slots last put_node owned linked put =
      ups_kept now new h at slots last (λ k lt u. put.others k (λ e. let o = owned k in let r = roots_counted look_old h k slots last lt in let s = only_self k in let z : only k at ≡ 1 = rw (← e) s in absurd (omega arith))) linked
