-- A change of a list around one place.
use Rattle.std.proofs.Common.{◌≡◌, ◌≤◌, ◌<◌, ◌+◌, ◌++◌, ℕ, zero, suc, Bool, true, false, List, [], ◌∷◌, Option, None, Some, IfNone, length, take, drop, refl, sym, ap, subst, ◌∙◌, arith, append_assoc, length-append}
use Rattle.std.specs.Prelude.{slice_get}
use Rattle.std.specs.List.{All}
use Rattle.std.proofs.lemmas.List.{map-append}
use Rattle.std.proofs.lemmas.List.Elements.{All-head, All-tail, All-append, All-cons, All-nil}
use Rattle.std.proofs.lemmas.Bool.Decides.{nat_tests}
use Rattle.fiba_nodes.specs.declared.slot.Slot.{Slot}
use Rattle.fiba_nodes.specs.declared.item.Item.{Item}
use Rattle.fiba_nodes.specs.declared.change.Change.{Change}
use Rattle.fiba_nodes.specs.declared.change.Change.TheVariants.{Insert, Set, Remove, First}
use Rattle.fiba_nodes.specs.Trees.{AreValues, pair_of}
use Rattle.fiba_nodes.specs.Kids.{OthersAt, before, behind, kid_of, left_of, others, right_of, with_item}
use Rattle.fiba_nodes.proofs.Kids.{kids-with_item, tally-with_item}
use Rattle.fiba_nodes.specs.Places.{BeginsIn, EndsIn}
use Rattle.fiba_nodes.specs.Changes.{Applies, BeginsBehind, CarriesValue, EndsBefore, GoesFirst, IsItemAt, IsPassed, IsRank, is_first, IsUnmet, added_of, growth, incoming, item_of, leaf_pairs, leaf_slots, meets, pairs_of, stands_before, stands_behind}
use Rattle.fiba_nodes.proofs.Lists.{append_none, split_at, take_drop}

module _ {M : Type 0} where
  -- a list that ends with a pair that passes, or whose end does
  pub ends_after : (test : ℕ → Bool) (xs : List (ℕ × M)) (p : ℕ × M) (zs : List (ℕ × M)) → test p.0 ≡ true → EndsIn test zs → EndsIn test (xs ++ p ∷ zs)
  ends_after test [] p [] t e = t
  ends_after test [] p (z ∷ zs) t e = e
  ends_after test (x ∷ []) p zs t e = ends_after test [] p zs t e
  ends_after test (x ∷ y ∷ xs) p zs t e = ends_after test (y ∷ xs) p zs t e

  pub ends-append : (test : ℕ → Bool) (xs ys : List (ℕ × M)) → EndsIn test xs → EndsIn test ys → EndsIn test (xs ++ ys)
  ends-append test [] ys a b = b
  ends-append test (x ∷ []) [] a b = a
  ends-append test (x ∷ []) (y ∷ ys) a b = b
  ends-append test (x ∷ z ∷ xs) ys a b = ends-append test (z ∷ xs) ys a b

  pub begins-append : (test : ℕ → Bool) (xs ys : List (ℕ × M)) → BeginsIn test xs → BeginsIn test ys → BeginsIn test (xs ++ ys)
  begins-append test [] ys a b = b
  begins-append test (x ∷ xs) ys a b = a

  -- what stands before a child ends with a pair that passes, if the items before it do
  pub ends_before : (test : ℕ → Bool) (f : ℕ → List (ℕ × M)) (slots : List (Slot M)) (i : ℕ) → ((j : ℕ) (s : Slot M) → j < i → slice_get slots j ≡ Some s → test s.item.key ≡ true) → EndsIn test (before f slots i)
  ends_before test f [] i low = tt
  ends_before test f (s ∷ ss) zero low = tt
  ends_before test f (s ∷ ss) (suc i) low =
      ends_after test (f s.kid) (pair_of s.item) (before f ss i) (low 0 s (omega arith) refl) (ends_before test f ss i (λ j t lt is. low (suc j) t (omega arith) is))

  pub begins_behind : (test : ℕ → Bool) (f : ℕ → List (ℕ × M)) (slots : List (Slot M)) (last i : ℕ) → ((s : Slot M) → slice_get slots i ≡ Some s → test s.item.key ≡ true) → BeginsIn test (behind f slots last i)
  begins_behind test f [] last i high = tt
  begins_behind test f (s ∷ ss) last zero high = high s refl
  begins_behind test f (s ∷ ss) last (suc i) high = begins_behind test f ss last i high

  -- not before and not met is behind
  pub behind_else : (change : Change M) (key : ℕ) → stands_before change key ≡ false → meets change key ≡ false → stands_behind change key ≡ true
  behind_else (Insert item) key b m = grind (arith, nat_tests)
  behind_else (Set item) key b m = grind (arith, nat_tests)
  behind_else (Remove at) key b m = grind (arith, nat_tests)
  behind_else First key b m = refl

  pub behind_at : (change : Change M) (slots : List (Slot M)) (i : ℕ) → IsRank change slots i → IsUnmet change slots i → (s : Slot M) → slice_get slots i ≡ Some s → stands_behind change s.item.key ≡ true
  behind_at change slots i r u s is = behind_else change s.item.key (r.high s is) (u s is)

  -- the first item of all is the one at the first place
  first_rank : (slots : List (Slot M)) (i : ℕ) → IsRank First slots i → i ≡ 0
  first_rank [] i r = let w = r.within in omega arith
  first_rank (s ∷ ss) zero r = refl
  first_rank (s ∷ ss) (suc i) r = let e : false ≡ true = r.low 0 s (omega arith) refl in cc

  first_met : (slots : List (Slot M)) (i : ℕ) → 1 ≤ length slots → IsRank First slots i → IsUnmet First slots i → ⊥
  first_met [] i some r u = absurd (omega arith)
  first_met (s ∷ ss) i some r u = let z = first_rank (s ∷ ss) i r in let e : true ≡ false = u s (rw z refl) in cc

  before_leaf : (slots : List (Slot M)) (i : ℕ) → before (λ k. []) slots i ≡ leaf_pairs (take i slots)
  before_leaf [] zero = refl
  before_leaf [] (suc i) = refl
  before_leaf (s ∷ ss) zero = refl
  before_leaf (s ∷ ss) (suc i) = ap (λ l. pair_of s.item ∷ l) (before_leaf ss i)

  goes_first_met : (change : Change M) (old : Item M) (slots : List (Slot M)) (i : ℕ) → IsRank change slots i → GoesFirst change (Some old) (leaf_pairs (take i slots))
  goes_first_met (Insert item) old slots i r = tt
  goes_first_met (Set item) old slots i r = tt
  goes_first_met (Remove at) old slots i r = tt
  goes_first_met First old slots i r = let z = first_rank slots i r in (search, rw z refl)

  goes_first_unmet : (change : Change M) (slots : List (Slot M)) (i : ℕ) (front : List (ℕ × M)) → 1 ≤ length slots → IsRank change slots i → IsUnmet change slots i → GoesFirst change None front
  goes_first_unmet (Insert item) slots i front some r u = tt
  goes_first_unmet (Set item) slots i front some r u = tt
  goes_first_unmet (Remove at) slots i front some r u = tt
  goes_first_unmet First slots i front some r u = absurd (first_met slots i some r u)

  -- a leaf where the item at the place goes out
  pub leaf_met : (change : Change M) (slots : List (Slot M)) (i : ℕ) (old : Item M) (new : List (ℕ × M)) → IsRank change slots i → IsItemAt slots i old → meets change old.key ≡ true → new ≡ leaf_pairs (take i slots) ++ pairs_of (item_of change) ++ leaf_pairs (drop (i + 1) slots) → Applies change (Some old) (leaf_pairs slots) new
  leaf_met change slots i old new r at m e =
      let front = leaf_pairs (take i slots) in
      let back = leaf_pairs (drop (i + 1) slots) in
      record {
        front = front;
        back = back;
        was = ap leaf_pairs (split_at slots i at.slot at.stands) ∙ map-append (λ s. pair_of s.item) (take i slots) (at.slot ∷ drop (i + 1) slots) ∙ ap (λ x. front ++ pair_of x ∷ back) at.same ∙ sym (append_assoc front (pair_of old ∷ []) back);
        is = e;
        met = λ item q. let same : old ≡ item = cc in subst (λ x. meets change x.key ≡ true) same m;
        gap = λ q. cc;
        first = goes_first_met change old slots i r;
      }

  -- a leaf where none goes out
  pub leaf_unmet : (change : Change M) (slots : List (Slot M)) (last i : ℕ) (new : List (ℕ × M)) → 1 ≤ length slots → IsRank change slots i → IsUnmet change slots i → new ≡ leaf_pairs (take i slots) ++ pairs_of (added_of change) ++ leaf_pairs (drop i slots) → Applies change None (leaf_pairs slots) new
  leaf_unmet change slots last i new some r u e =
      let front = leaf_pairs (take i slots) in
      let back = leaf_pairs (drop i slots) in
      record {
        front = front;
        back = back;
        was = ap leaf_pairs (sym (take_drop slots i)) ∙ map-append (λ s. pair_of s.item) (take i slots) (drop i slots) ∙ ap (λ l. l ++ back) (sym (append_none front));
        is = e;
        met = λ item q. cc;
        gap = λ q. (subst (EndsBefore change) (before_leaf slots i) (ends_before (stands_before change) (λ k. []) slots i r.low), begins_drop slots i (behind_at change slots i r u));
        first = goes_first_unmet change slots i front some r u;
      }
    where
      begins_drop : (slots : List (Slot M)) (i : ℕ) → ((s : Slot M) → slice_get slots i ≡ Some s → stands_behind change s.item.key ≡ true) → BeginsBehind change (leaf_pairs (drop i slots))
      begins_drop [] zero high = tt
      begins_drop [] (suc i) high = tt
      begins_drop (s ∷ ss) zero high = high s refl
      begins_drop (s ∷ ss) (suc i) high = begins_drop ss i high

  -- the values in a changed leaf
  all-take : (P : Slot M → Type 0) (slots : List (Slot M)) (i : ℕ) → All P slots → All P (take i slots)
  all-take P [] zero a = a
  all-take P [] (suc i) a = a
  all-take P (s ∷ ss) zero a = All-nil P
  all-take P (s ∷ ss) (suc i) a = All-cons P s (take i ss) (All-head P s ss a) (all-take P ss i (All-tail P s ss a))

  all-drop : (P : Slot M → Type 0) (slots : List (Slot M)) (i : ℕ) → All P slots → All P (drop i slots)
  all-drop P [] zero a = a
  all-drop P [] (suc i) a = a
  all-drop P (s ∷ ss) zero a = a
  all-drop P (s ∷ ss) (suc i) a = all-drop P ss i (All-tail P s ss a)

  item_values : (IsValue : M → Type 0) (change : Change M) → CarriesValue IsValue change → AreValues IsValue (leaf_slots (item_of change))
  item_values IsValue (Insert item) v = All-cons (λ s. IsValue s.item.value) (record { kid = 0; item = item }) [] v (All-nil (λ s. IsValue s.item.value))
  item_values IsValue (Set item) v = All-cons (λ s. IsValue s.item.value) (record { kid = 0; item = item }) [] v (All-nil (λ s. IsValue s.item.value))
  item_values IsValue (Remove at) v = All-nil (λ s. IsValue s.item.value)
  item_values IsValue First v = All-nil (λ s. IsValue s.item.value)

  added_values : (IsValue : M → Type 0) (change : Change M) → CarriesValue IsValue change → AreValues IsValue (leaf_slots (added_of change))
  added_values IsValue (Insert item) v = All-cons (λ s. IsValue s.item.value) (record { kid = 0; item = item }) [] v (All-nil (λ s. IsValue s.item.value))
  added_values IsValue (Set item) v = All-nil (λ s. IsValue s.item.value)
  added_values IsValue (Remove at) v = All-nil (λ s. IsValue s.item.value)
  added_values IsValue First v = All-nil (λ s. IsValue s.item.value)

  pub incoming_values : (IsValue : M → Type 0) (change : Change M) (taken : Option (Item M)) → CarriesValue IsValue change → AreValues IsValue (leaf_slots (incoming change taken))
  incoming_values IsValue change None v = added_values IsValue change v
  incoming_values IsValue change (Some old) v = item_values IsValue change v

  pub leaf_values : (IsValue : M → Type 0) (slots all : List (Slot M)) (i j : ℕ) (item : Option (Item M)) → AreValues IsValue slots → AreValues IsValue (leaf_slots item) → all ≡ (take i slots ++ leaf_slots item) ++ drop j slots → AreValues IsValue all
  leaf_values IsValue slots all i j item a v e =
      let P : Slot M → Type 0 = λ s. IsValue s.item.value in
      subst (All P) (sym e) (All-append P (take i slots ++ leaf_slots item) (drop j slots) (All-append P (take i slots) (leaf_slots item) (all-take P slots i a) v) (all-drop P slots j a))

  slot_pairs : (item : Option (Item M)) → leaf_pairs (leaf_slots item) ≡ pairs_of item
  slot_pairs None = refl
  slot_pairs (Some item) = refl

  pub leaf_parts : (slots all : List (Slot M)) (i j : ℕ) (item : Option (Item M)) → all ≡ (take i slots ++ leaf_slots item) ++ drop j slots → leaf_pairs all ≡ leaf_pairs (take i slots) ++ pairs_of item ++ leaf_pairs (drop j slots)
  leaf_parts slots all i j item e =
      ap leaf_pairs e ∙ map-append (λ s. pair_of s.item) (take i slots ++ leaf_slots item) (drop j slots) ∙ ap (λ l. l ++ leaf_pairs (drop j slots)) (map-append (λ s. pair_of s.item) (take i slots) (leaf_slots item) ∙ ap (λ l. leaf_pairs (take i slots) ++ l) (slot_pairs item))

  pub passed : (change : Change M) (slots : List (Slot M)) (at : ℕ) (o : Option (Item M)) → IfNone o (IsUnmet change slots at) → IfNone o (IsPassed change slots at)
  passed change slots at None h = λ s is e. behind_else change s.item.key e (h s is)
  passed change slots at (Some x) h = h

  -- what is said of the first item alone
  pub goes_other : (change : Change M) (taken : Option (Item M)) (front : List (ℕ × M)) → is_first change ≡ false → GoesFirst change taken front
  goes_other (Insert item) taken front e = tt
  goes_other (Set item) taken front e = tt
  goes_other (Remove at) taken front e = tt
  goes_other First taken front e = cc

  before_none : (f : ℕ → List (ℕ × M)) (slots : List (Slot M)) (i : ℕ) → i ≡ 0 → before f slots i ≡ []
  before_none f [] i e = refl
  before_none f (s ∷ ss) zero e = refl
  before_none f (s ∷ ss) (suc i) e = absurd (omega arith)

  pub goes_deeper : (change : Change M) (taken : Option (Item M)) (f : ℕ → List (ℕ × M)) (slots : List (Slot M)) (i : ℕ) (front : List (ℕ × M)) → IsRank change slots i → GoesFirst change taken front → GoesFirst change taken (before f slots i ++ front)
  goes_deeper (Insert item) taken f slots i front r g = tt
  goes_deeper (Set item) taken f slots i front r g = tt
  goes_deeper (Remove at) taken f slots i front r g = tt
  goes_deeper First taken f slots i front r g = let z = first_rank slots i r in (g.0, ap (λ l. l ++ front) (before_none f slots i z) ∙ g.1)

  growth_fits : (change : Change M) (taken : Option (Item M)) → length (pairs_of (incoming change taken)) ≤ length (pairs_of taken) + growth change
  growth_fits (Insert item) None = omega arith
  growth_fits (Insert item) (Some old) = omega arith
  growth_fits (Set item) None = omega arith
  growth_fits (Set item) (Some old) = omega arith
  growth_fits (Remove at) None = omega arith
  growth_fits (Remove at) (Some old) = omega arith
  growth_fits First None = omega arith
  growth_fits First (Some old) = omega arith

  -- a change makes a list longer by its growth at most
  pub grown : (change : Change M) (taken : Option (Item M)) (old new : List (ℕ × M)) → Applies change taken old new → length new ≤ length old + growth change
  grown change taken old new a =
      let x = ap length a.was ∙ length-append (a.front ++ pairs_of taken) a.back in
      let y = ap length a.is ∙ length-append (a.front ++ pairs_of (incoming change taken)) a.back in
      let z = length-append a.front (pairs_of taken) in
      let w = length-append a.front (pairs_of (incoming change taken)) in
      let g = growth_fits change taken in
      omega arith

  -- an item in a row, seen from the child behind it
  pub before_item : (f : ℕ → List (ℕ × M)) (slots : List (Slot M)) (i : ℕ) (s : Slot M) (item : Item M) → slice_get slots i ≡ Some s → (front : List (ℕ × M)) × (before f slots (suc i) ≡ front ++ pair_of s.item ∷ []) × (before f (with_item slots i item) (suc i) ≡ front ++ pair_of item ∷ [])
  before_item f [] i s item is = cc
  before_item f (x ∷ []) zero s item is = let e : x ≡ s = cc in (f x.kid, ap (λ y. f x.kid ++ pair_of y.item ∷ []) e, refl)
  before_item f (x ∷ []) (suc i) s item is = cc
  before_item f (x ∷ t ∷ ts) zero s item is = let e : x ≡ s = cc in (f x.kid, ap (λ y. f x.kid ++ pair_of y.item ∷ []) e, refl)
  before_item f (x ∷ t ∷ ts) (suc i) s item is =
      let h = before_item f (t ∷ ts) i s item is in
      (f x.kid ++ pair_of x.item ∷ h.0, ap (λ l. f x.kid ++ pair_of x.item ∷ l) h.1 ∙ sym (append_assoc (f x.kid) (pair_of x.item ∷ h.0) (pair_of s.item ∷ [])), ap (λ l. f x.kid ++ pair_of x.item ∷ l) h.2 ∙ sym (append_assoc (f x.kid) (pair_of x.item ∷ h.0) (pair_of item ∷ [])))

  -- another item changes nothing around a child
  pub kid-with_item : (slots : List (Slot M)) (last j : ℕ) (item : Item M) (i : ℕ) → kid_of (with_item slots j item) last i ≡ kid_of slots last i
  kid-with_item [] last j item i = refl
  kid-with_item (s ∷ ss) last zero item zero = refl
  kid-with_item (s ∷ ss) last zero item (suc i) = refl
  kid-with_item (s ∷ ss) last (suc j) item zero = refl
  kid-with_item (s ∷ ss) last (suc j) item (suc i) = kid-with_item ss last j item i

  pub others-with_item : (f : ℕ → ℕ) (slots : List (Slot M)) (last j : ℕ) (item : Item M) (i : ℕ) → others f (with_item slots j item) last i ≡ others f slots last i
  others-with_item f [] last j item i = refl
  others-with_item f (s ∷ ss) last zero item zero = refl
  others-with_item f (s ∷ ss) last zero item (suc i) = refl
  others-with_item f (s ∷ ss) last (suc j) item zero = tally-with_item f ss last j item
  others-with_item f (s ∷ ss) last (suc j) item (suc i) = ap (λ n. f s.kid + n) (others-with_item f ss last j item i)

  pub left-with_item : (l : Bool) (slots : List (Slot M)) (j : ℕ) (item : Item M) (i : ℕ) → left_of l (with_item slots j item) i ≡ left_of l slots i
  left-with_item l [] j item i = refl
  left-with_item l (s ∷ ss) zero item zero = refl
  left-with_item l (s ∷ ss) zero item (suc i) = refl
  left-with_item l (s ∷ ss) (suc j) item zero = refl
  left-with_item l (s ∷ ss) (suc j) item (suc i) = left-with_item false ss j item i

  pub right-with_item : (r : Bool) (slots : List (Slot M)) (j : ℕ) (item : Item M) (i : ℕ) → right_of r (with_item slots j item) i ≡ right_of r slots i
  right-with_item r [] j item i = refl
  right-with_item r (s ∷ ss) zero item zero = refl
  right-with_item r (s ∷ ss) zero item (suc i) = refl
  right-with_item r (s ∷ ss) (suc j) item zero = refl
  right-with_item r (s ∷ ss) (suc j) item (suc i) = right-with_item r ss j item i

  pub beside-with_item : (P : Bool → Bool → ℕ → Type 0) (l r : Bool) (slots : List (Slot M)) (last j : ℕ) (item : Item M) (i : ℕ) → OthersAt P l r slots last i → OthersAt P l r (with_item slots j item) last i
  beside-with_item P l r [] last j item i o = o
  beside-with_item P l r (s ∷ ss) last zero item zero o = o
  beside-with_item P l r (s ∷ ss) last zero item (suc i) o = o
  beside-with_item P l r (s ∷ ss) last (suc j) item zero o = kids-with_item P false r ss last j item o
  beside-with_item P l r (s ∷ ss) last (suc j) item (suc i) o = (o.0, beside-with_item P false r ss last j item i o.1)

  pub behind-with_item : (f : ℕ → List (ℕ × M)) (slots : List (Slot M)) (last j : ℕ) (item : Item M) → behind f (with_item slots j item) last (suc j) ≡ behind f slots last (suc j)
  behind-with_item f [] last j item = refl
  behind-with_item f (s ∷ ss) last zero item = refl
  behind-with_item f (s ∷ ss) last (suc j) item = behind-with_item f ss last j item
