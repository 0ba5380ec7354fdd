-- A range of keys, folded by the children at its two ends and what lies between.
use Rattle.std.proofs.Common.{◌≡◌, ◌≢◌, ◌≤◌, ◌<◌, ◌+◌, ◌++◌, ℕ, zero, suc, Bool, true, false, not, List, [], ◌∷◌, Some, length, refl, sym, ap, subst, ◌∙◌, arith, append_assoc, length-append, inl, inr}
use Rattle.std.specs.Prelude.{slice_get, fold}
use Rattle.std.proofs.lemmas.List.{map-append}
use Rattle.std.proofs.lemmas.List.Sums.{fold-append}
use Rattle.agg_laws.specs.Pairs.{values_of}
use Rattle.fiba_nodes.specs.declared.slot.Slot.{Slot}
use Rattle.fiba_nodes.specs.declared.bound.Bound.{Bound}
use Rattle.fiba_nodes.specs.declared.bound.Bound.TheVariants.{Start, Key, End}
use Rattle.fiba_nodes.specs.Trees.{IsAt, KidsAt, Look, TreesAt, pair_of, pairs_at}
use Rattle.fiba_nodes.specs.Kids.{before, behind, kid_of, left_of, right_of}
use Rattle.fiba_nodes.specs.Places.{AreOrdered, BeginsIn, EndsIn, IsFolded, IsPlace, IsStrung, is_all, is_over, is_under, way_high, way_low}
use Rattle.std.proofs.lemmas.Bool.{cases_lt}
use Rattle.fiba_nodes.proofs.Lists.{append_none}
use Rattle.fiba_nodes.proofs.Links.{slot_below}
use Rattle.fiba_nodes.proofs.Sound.{node_of, pairs_of}
use Rattle.fiba_nodes.proofs.Kids.{kids-around, right-inner, woven-around}
use Rattle.fiba_nodes.proofs.Changing.{begins-append, begins_behind, ends-append, ends_before}

over_else : (bound : Bound) (key : ℕ) → is_under bound key ≡ false → is_over bound key ≡ true
over_else bound key e = ap not e

module _ {M : Type 0} where
  -- a slot within
  get_some : (slots : List (Slot M)) (i : ℕ) → i < length slots → (s : Slot M) × (slice_get slots i ≡ Some s)
  get_some [] i lt = absurd (omega arith)
  get_some (s ∷ ss) zero lt = (s, refl)
  get_some (s ∷ ss) (suc i) lt = get_some ss i (omega arith)

  -- the first bound has its place before the second one's
  pub places_ordered : (low high : Bound) (slots : List (Slot M)) (i j : ℕ) → AreOrdered low high → IsPlace (is_under low) slots i → IsPlace (is_under high) slots j → i ≤ j
  places_ordered low high slots i j order a b =
      elim (cases_lt j i) [
        | inr le ↦ le
        | inl lt ↦ let w = a.within in let s = get_some slots j (omega arith) in let u : false ≡ true = sym (b.high s.0 s.1) ∙ order s.0.item.key (a.low j s.0 lt s.1) in cc
      ]

  begins_all : (xs : List (ℕ × M)) → BeginsIn (is_over Start) xs
  begins_all [] = tt
  begins_all (x ∷ xs) = refl

  ends_all : (xs : List (ℕ × M)) → EndsIn (is_under End) xs
  ends_all [] = tt
  ends_all (x ∷ []) = refl
  ends_all (x ∷ y ∷ xs) = ends_all (y ∷ xs)

  none_before : (xs : List (ℕ × M)) → EndsIn (is_under Start) xs → xs ≡ []
  none_before [] e = refl
  none_before (x ∷ []) e = cc
  none_before (x ∷ y ∷ xs) e = let z : y ∷ xs ≡ [] = none_before (y ∷ xs) e in cc

  none_behind : (xs : List (ℕ × M)) → BeginsIn (is_over End) xs → xs ≡ []
  none_behind [] e = refl
  none_behind (x ∷ xs) e = cc

  ends_suffix : (test : ℕ → Bool) (xs ys : List (ℕ × M)) → EndsIn test (xs ++ ys) → EndsIn test ys
  ends_suffix test [] ys e = e
  ends_suffix test (x ∷ []) [] e = tt
  ends_suffix test (x ∷ []) (y ∷ ys) e = e
  ends_suffix test (x ∷ z ∷ xs) ys e = ends_suffix test (z ∷ xs) ys e

  ends_more : (test : ℕ → Bool) (xs : List (ℕ × M)) (y : ℕ × M) (ys : List (ℕ × M)) → EndsIn test (y ∷ ys) → EndsIn test (xs ++ y ∷ ys)
  ends_more test [] y ys e = e
  ends_more test (x ∷ []) y ys e = e
  ends_more test (x ∷ z ∷ xs) y ys e = ends_more test (z ∷ xs) y ys e

  begins_more : (test : ℕ → Bool) (xs : List (ℕ × M)) (p : ℕ × M) (rest ys : List (ℕ × M)) → BeginsIn test (xs ++ p ∷ rest) → BeginsIn test ((xs ++ p ∷ rest) ++ ys)
  begins_more test [] p rest ys b = b
  begins_more test (x ∷ xs) p rest ys b = b

  -- the child at a slot
  pub kid_is : (slots : List (Slot M)) (last i : ℕ) (s : Slot M) → slice_get slots i ≡ Some s → kid_of slots last i ≡ s.kid
  kid_is [] last i s is = cc
  kid_is (x ∷ xs) last zero s is = let e : x ≡ s = cc in ap (λ y. y.kid) e
  kid_is (x ∷ xs) last (suc i) s is = kid_is xs last i s is

  -- up to the next child
  pub before_next : (f : ℕ → List (ℕ × M)) (slots : List (Slot M)) (last i : ℕ) (s : Slot M) → slice_get slots i ≡ Some s → before f slots (suc i) ≡ before f slots i ++ f (kid_of slots last i) ++ pair_of s.item ∷ []
  before_next f [] last i s is = cc
  before_next f (x ∷ []) last zero s is = let e : x ≡ s = cc in ap (λ y. f x.kid ++ pair_of y.item ∷ []) e
  before_next f (x ∷ []) last (suc i) s is = cc
  before_next f (x ∷ t ∷ ts) last zero s is = let e : x ≡ s = cc in ap (λ y. f x.kid ++ pair_of y.item ∷ []) e
  before_next f (x ∷ t ∷ ts) last (suc i) s is =
      ap (λ l. f x.kid ++ pair_of x.item ∷ l) (before_next f (t ∷ ts) last i s is) ∙ regroup_next (f x.kid) (pair_of x.item) (before f (t ∷ ts) i) (f (kid_of (t ∷ ts) last i)) (pair_of s.item)
    where
      regroup_next : (a : List (ℕ × M)) (p : ℕ × M) (b c : List (ℕ × M)) (q : ℕ × M) → a ++ p ∷ (b ++ c ++ q ∷ []) ≡ (a ++ p ∷ b) ++ c ++ q ∷ []
      regroup_next a p b c q = simp append_assoc

regroup_strung : {X : Type 0} (a b m k : List X) (p : X) → (a ++ b ++ m) ++ k ++ p ∷ [] ≡ a ++ b ++ (m ++ k ++ p ∷ [])
regroup_strung a b m k p = simp append_assoc

module _ {M : Type 0} (op : M → M → M) where
  values-append : (xs ys : List (ℕ × M)) (sum : M) → fold op sum (values_of (xs ++ ys)) ≡ fold op (fold op sum (values_of xs)) (values_of ys)
  values-append xs ys sum = ap (fold op sum) (map-append (λ p. p.1) xs ys) ∙ fold-append op sum (values_of xs) (values_of ys)

  -- the first item of a string
  pub strung_one : (f : ℕ → List (ℕ × M)) (slots : List (Slot M)) (last i : ℕ) (s : Slot M) (sum result : M) (steps after : ℕ) → slice_get slots i ≡ Some s → result ≡ op sum s.item.value → after ≤ steps + 1 → IsStrung op f slots last i (i + 1) sum result steps after
  strung_one f slots last i s sum result steps after is value cost = record {
    string = pair_of s.item ∷ [];
    is = ap (before f slots) (omega arith) ∙ before_next f slots last i s is;
    first = λ t e. let same : s ≡ t = cc in ([], ap (λ y. pair_of y.item ∷ []) same);
    value = value;
    one_each = cost;
  }

  -- one more child and item
  pub strung_more : (f : ℕ → List (ℕ × M)) (slots : List (Slot M)) (last i k : ℕ) (s : Slot M) (sum now kid next : M) (steps before_it between after : ℕ) → slice_get slots k ≡ Some s → IsStrung op f slots last i k sum now steps before_it → kid ≡ fold op now (values_of (f s.kid)) → between ≤ before_it + length (f s.kid) → next ≡ op kid s.item.value → after ≤ between + 1 → IsStrung op f slots last i (k + 1) sum next steps after
  strung_more f slots last i k s sum now kid next steps before_it between after is st with_kid kid_cost with_item cost =
      let same_kid : kid_of slots last k ≡ s.kid = kid_is slots last k s is in
      let longer : before f slots (k + 1) ≡ before f slots i ++ f (kid_of slots last i) ++ (st.string ++ f s.kid ++ pair_of s.item ∷ []) = ap (before f slots) (omega arith) ∙ before_next f slots last k s is ∙ ap (λ n. before f slots k ++ f n ++ pair_of s.item ∷ []) same_kid ∙ ap (λ l. l ++ f s.kid ++ pair_of s.item ∷ []) st.is ∙ regroup_strung (before f slots i) (f (kid_of slots last i)) st.string (f s.kid) (pair_of s.item) in
      record {
        string = st.string ++ f s.kid ++ pair_of s.item ∷ [];
        is = longer;
        first = λ t e. let h = st.first t e in (h.0 ++ f s.kid ++ pair_of s.item ∷ [], ap (λ l. l ++ f s.kid ++ pair_of s.item ∷ []) h.1);
        value = with_item ∙ ap (λ a. op a s.item.value) (with_kid ∙ ap (λ a. fold op a (values_of (f s.kid))) st.value) ∙ sym (values-append (st.string ++ f s.kid) (pair_of s.item ∷ []) sum ∙ ap (λ a. op a s.item.value) (values-append st.string (f s.kid) sum));
        one_each = let a = length-append (st.string ++ f s.kid) (pair_of s.item ∷ []) in let b = length-append st.string (f s.kid) in let c = st.one_each in omega arith;
      }

  -- nothing to fold
  pub folded_none : (low high : Bound) (pairs : List (ℕ × M)) (sum : M) (steps : ℕ) → pairs ≡ [] → IsFolded op low high pairs sum sum steps steps
  folded_none low high pairs sum steps e = record { front = []; middle = []; back = []; was = e; before_low = tt; from_low = tt; before_high = tt; from_high = tt; value = refl; one_each = omega arith }

  -- all is folded
  pub folded_all : (low high : Bound) (pairs : List (ℕ × M)) (sum result : M) (steps after : ℕ) → is_all low high ≡ true → result ≡ fold op sum (values_of pairs) → after ≤ steps + 1 → 1 ≤ length pairs → IsFolded op low high pairs sum result steps after
  folded_all Start Start pairs sum result steps after e value cost some = cc
  folded_all Start (Key at) pairs sum result steps after e value cost some = cc
  folded_all (Key at) high pairs sum result steps after e value cost some = cc
  folded_all End high pairs sum result steps after e value cost some = cc
  folded_all Start End pairs sum result steps after e value cost some = record { front = []; middle = pairs; back = []; was = sym (append_none pairs); before_low = tt; from_low = begins_all pairs; before_high = ends_all pairs; from_high = tt; value = value; one_each = omega arith }

regroup_folded : {X : Type 0} (f a m b g : List X) → f ++ (a ++ m ++ b) ++ g ≡ (f ++ a) ++ m ++ (b ++ g)
regroup_folded f a m b g = simp append_assoc

regroup_spans : {X : Type 0} (f a m t n b g : List X) → (f ++ (a ++ m ++ []) ++ t) ++ ([] ++ n ++ b) ++ g ≡ (f ++ a) ++ (m ++ t ++ n) ++ (b ++ g)
regroup_spans f a m t n b g = simp (append_assoc, append_none)

module _ {M : Type 0} (IsValue : M → Type 0) (empty : M) (op : M → M → M) (look : Look M) (at h c : ℕ) (l r : Bool) (slots : List (Slot M)) (last : ℕ) (agg : M) (leaf : Bool) (e : h ≡ suc c) (tree : IsAt IsValue empty op look h l r at) (is : look at ≡ Some (record { slots = slots; last = last; agg = agg; leaf = leaf })) (i : ℕ) where
  node_tree : IsAt IsValue empty op look (suc c) l r at
  node_tree = subst (λ n. IsAt IsValue empty op look n l r at) e tree

  pub span_kids : TreesAt IsValue empty op look c l r slots last
  span_kids = (node_of IsValue empty op look c l r at (record { slots = slots; last = last; agg = agg; leaf = leaf }) is node_tree).kids

  pub span_kid : IsAt IsValue empty op look c (left_of l slots i) (right_of r slots i) (kid_of slots last i)
  span_kid = (kids-around (λ l r k. IsAt IsValue empty op look c l r k) l r slots last i span_kids).1

  all_pairs : pairs_at look h at ≡ before (pairs_at look c) slots i ++ pairs_at look c (kid_of slots last i) ++ behind (pairs_at look c) slots last i
  all_pairs = ap (λ n. pairs_at look n at) e ∙ pairs_of IsValue empty op look c l r at (record { slots = slots; last = last; agg = agg; leaf = leaf }) is ∙ woven-around (pairs_at look c) slots last i

  -- both bounds lie in one child
  pub folded_in_one : (low high : Bound) (sum result : M) (steps after : ℕ) → IsPlace (is_under low) slots i → IsPlace (is_under high) slots i → IsFolded op low high (pairs_at look c (kid_of slots last i)) sum result steps after → IsFolded op low high (pairs_at look h at) sum result steps after
  folded_in_one low high sum result steps after a b f =
      let x = before (pairs_at look c) slots i in
      let y = behind (pairs_at look c) slots last i in
      record {
        front = x ++ f.front;
        middle = f.middle;
        back = f.back ++ y;
        was = all_pairs ∙ ap (λ ps. x ++ ps ++ y) f.was ∙ regroup_folded x f.front f.middle f.back y;
        before_low = ends-append (is_under low) x f.front (ends_before (is_under low) (pairs_at look c) slots i a.low) f.before_low;
        from_low = f.from_low;
        before_high = f.before_high;
        from_high = begins-append (is_over high) f.back y f.from_high (begins_behind (is_over high) (pairs_at look c) slots last i (λ s q. over_else high s.item.key (b.high s q)));
        value = f.value;
        one_each = f.one_each;
      }

module _ {M : Type 0} (IsValue : M → Type 0) (empty : M) (op : M → M → M) (look : Look M) (at h c : ℕ) (l r : Bool) (slots : List (Slot M)) (last : ℕ) (agg : M) (leaf : Bool) (e : h ≡ suc c) (tree : IsAt IsValue empty op look h l r at) (is : look at ≡ Some (record { slots = slots; last = last; agg = agg; leaf = leaf })) where
  -- the bounds lie in two children
  pub folded_in_two : (i j : ℕ) (low high : Bound) (sum one two result : M) (steps s1 s2 after : ℕ) → i < j → IsPlace (is_under low) slots i → IsPlace (is_under high) slots j → IsFolded op low End (pairs_at look c (kid_of slots last i)) sum one steps s1 → IsStrung op (pairs_at look c) slots last i j one two s1 s2 → IsFolded op Start high (pairs_at look c (kid_of slots last j)) two result s2 after → IsFolded op low high (pairs_at look h at) sum result steps after
  folded_in_two i j low high sum one two result steps s1 s2 after lt a b f st g =
      let x = before (pairs_at look c) slots i in
      let y = behind (pairs_at look c) slots last j in
      let s = get_some slots i (let w = b.within in omega arith) in
      let head = st.first s.0 s.1 in
      let first_kid : pairs_at look c (kid_of slots last i) ≡ f.front ++ f.middle ++ [] = f.was ∙ ap (λ ps. f.front ++ f.middle ++ ps) (none_behind f.back f.from_high) in
      let last_kid : pairs_at look c (kid_of slots last j) ≡ [] ++ g.middle ++ g.back = g.was ∙ ap (λ ps. ps ++ g.middle ++ g.back) (none_before g.front g.before_low) in
      let string_ends : EndsIn (is_under high) st.string = ends_suffix (is_under high) (x ++ pairs_at look c (kid_of slots last i)) st.string (subst (EndsIn (is_under high)) st.is (ends_before (is_under high) (pairs_at look c) slots j b.low)) in
      let longer_ends : EndsIn (is_under high) (f.middle ++ st.string) = rw head.1 (ends_more (is_under high) f.middle (pair_of s.0.item) head.0 (rw head.1 at string_ends)) in
      record {
        front = x ++ f.front;
        middle = f.middle ++ st.string ++ g.middle;
        back = g.back ++ y;
        was = all_pairs IsValue empty op look at h c l r slots last agg leaf e tree is j ∙ ap (λ ps. ps ++ pairs_at look c (kid_of slots last j) ++ y) (st.is ∙ ap (λ ps. x ++ ps ++ st.string) first_kid) ∙ ap (λ ps. (x ++ (f.front ++ f.middle ++ []) ++ st.string) ++ ps ++ y) last_kid ∙ regroup_spans x f.front f.middle st.string g.middle g.back y;
        before_low = ends-append (is_under low) x f.front (ends_before (is_under low) (pairs_at look c) slots i a.low) f.before_low;
        from_low = rw head.1 (begins_more (is_over low) f.middle (pair_of s.0.item) head.0 g.middle (begins-append (is_over low) f.middle (pair_of s.0.item ∷ head.0) f.from_low (over_else low s.0.item.key (a.high s.0 s.1))));
        before_high = ends-append (is_under high) (f.middle ++ st.string) g.middle longer_ends g.before_high;
        from_high = begins-append (is_over high) g.back y g.from_high (begins_behind (is_over high) (pairs_at look c) slots last j (λ t q. over_else high t.item.key (b.high t q)));
        value = g.value ∙ ap (λ z. fold op z (values_of g.middle)) (st.value ∙ ap (λ z. fold op z (values_of st.string)) f.value) ∙ sym (values-append op (f.middle ++ st.string) g.middle sum ∙ ap (λ z. fold op z (values_of g.middle)) (values-append op f.middle st.string sum));
        one_each = let p = length-append (f.middle ++ st.string) g.middle in let q = length-append f.middle st.string in let u = f.one_each in let v = st.one_each in let w = g.one_each in omega arith;
      }

-- where a child stands on an edge
module _ {M : Type 0} where
  left_false : (slots : List (Slot M)) (i : ℕ) → left_of false slots i ≡ false
  left_false [] i = refl
  left_false (s ∷ ss) zero = refl
  left_false (s ∷ ss) (suc i) = left_false ss i

  pub left_later : (l : Bool) (slots : List (Slot M)) (i : ℕ) → 0 < i → 1 ≤ length slots → left_of l slots i ≡ false
  left_later l [] i lt some = absurd (omega arith)
  left_later l (s ∷ ss) zero lt some = absurd (omega arith)
  left_later l (s ∷ ss) (suc i) lt some = left_false ss i

  pub left_true : (l : Bool) (slots : List (Slot M)) (i : ℕ) → left_of l slots i ≡ true → l ≡ true
  left_true l [] i e = e
  left_true l (s ∷ ss) zero e = e
  left_true l (s ∷ ss) (suc i) e = let f = left_false ss i in cc

  pub right_true : (r : Bool) (slots : List (Slot M)) (i : ℕ) → right_of r slots i ≡ true → r ≡ true
  right_true r [] i e = e
  right_true r (s ∷ ss) zero e = cc
  right_true r (s ∷ ss) (suc i) e = right_true r ss i e

  pub right_within : (r : Bool) (slots : List (Slot M)) (i : ℕ) → i < length slots → right_of r slots i ≡ false
  right_within r slots i lt = let s = get_some slots i lt in right-inner r slots i s.0 s.1

  pub inner_kid : (P : Bool → Bool → ℕ → Type 0) (l r : Bool) (slots : List (Slot M)) (last k : ℕ) (s : Slot M) → 0 < k → slice_get slots k ≡ Some s → KidsAt P l r slots last → P false false s.kid
  inner_kid P l r slots last k s lt is kids =
      let w = slot_below slots k s is in
      let t = (kids-around P l r slots last k kids).1 in
      subst (λ n. P false false n) (kid_is slots last k s is) (subst (λ b. P false b (kid_of slots last k)) (right-inner r slots k s is) (subst (λ b. P b (right_of r slots k) (kid_of slots last k)) (left_later l slots k lt (omega arith)) t))

-- a range without bounds lies on no edge
pub off_left : (low high : Bound) (l : Bool) → is_all low high ≡ true → (l ≡ true → low ≢ Start) → l ≡ false
off_left low high false e h = refl
off_left Start high true e h = absurd (h refl refl)
off_left (Key at) high true e h = cc
off_left End high true e h = cc

pub off_right : (low high : Bound) (r : Bool) → is_all low high ≡ true → (r ≡ true → high ≢ End) → r ≡ false
off_right low high false e h = refl
off_right low End true e h = absurd (h refl refl)
off_right Start Start true e h = cc
off_right Start (Key at) true e h = cc
off_right (Key k) Start true e h = cc
off_right (Key k) (Key at) true e h = cc
off_right End Start true e h = cc
off_right End (Key at) true e h = cc

low_less : (b : Bound) (c : ℕ) → way_low b c ≤ way_low b (suc c)
low_less Start c = omega arith
low_less (Key at) c = omega arith
low_less End c = omega arith

high_less : (b : Bound) (c : ℕ) → way_high b c ≤ way_high b (suc c)
high_less Start c = omega arith
high_less (Key at) c = omega arith
high_less End c = omega arith

pub order_end : (low : Bound) → AreOrdered low End
order_end low key u = refl

pub order_start : (high : Bound) → AreOrdered Start high
order_start high key u = cc

pub not_both : {X : Type 0} {b : Bool} → b ≡ false → b ≡ true → X
not_both f t = cc

-- the way on in one child
pub way_in_one : (low high : Bound) (h c : ℕ) → h ≡ suc c → way_low low c + way_high high c ≤ way_low low h + way_high high h
way_in_one low high h c e =
    let a = low_less low c in
    let b = high_less high c in
    let w : way_low low c + way_high high c ≤ way_low low (suc c) + way_high high (suc c) = omega arith in
    subst (λ n. way_low low c + way_high high c ≤ way_low low n + way_high high n) (sym e) w

two : (low high : Bound) (c : ℕ) → is_all low high ≡ false → way_low low c + way_high high c + 6 ≤ way_low low (suc c) + way_high high (suc c)
two Start End c e = cc
two Start Start c e = omega arith
two Start (Key at) c e = omega arith
two (Key k) Start c e = omega arith
two (Key k) (Key at) c e = omega arith
two (Key k) End c e = omega arith
two End Start c e = omega arith
two End (Key at) c e = omega arith
two End End c e = omega arith

-- the way on in two children, and what lies between
pub way_in_two : (low high : Bound) (h c : ℕ) → h ≡ suc c → is_all low high ≡ false → way_low low c + way_high high c + 6 ≤ way_low low h + way_high high h
way_in_two low high h c e n = subst (λ k. way_low low c + way_high high c + 6 ≤ way_low low k + way_high high k) (sym e) (two low high c n)
