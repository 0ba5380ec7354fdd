-- Settled tuples: a prefix of what is kept, with a cut behind it.
use Rattle.std.proofs.Common.{◌≡◌, ◌∙◌, ℕ, suc, ◌+◌, ◌<◌, ◌≤◌, Bool, true, false, cond, not, List, [], ◌∷◌, ◌++◌, length, get_or, drop, ap, sym, refl, subst, arith, inl, inr}
use Rattle.std.specs.Prelude.{◌⊎◌, ◌↔◌, ◌≢◌, ◌||◌, ◌&&◌, ◌==◌, nat_le, nat_lt}
use Rattle.std.specs.List.{All, Contains, filter, list_all, list_any}
use Rattle.std.proofs.Math.Seq.{drop-append_seam}
use Rattle.std.proofs.lemmas.Bool.{and_from, and_parts, cases_Bool, cases_lt, eqb-true, eq-eqb, false≢true, false_from_ne_true, le-leb, leb-true, leb-false, ltb-true, or_left, or_right}
use Rattle.std.proofs.lemmas.List.Elements.{All-contains, Contains-append_right, Contains-get_or}
use Rattle.stream_base.specs.declared.def.Def.{Def}
use Rattle.stream_base.specs.declared.kept.Kept.{Kept}
use Rattle.stream_base.specs.declared.kind.Kind.{Kind}
use Rattle.stream_base.specs.declared.limits.TheConstants.{FINAL}
use Rattle.stream_base.specs.Laws.{TimesDoNotFall}
use Rattle.stream_base.specs.Limits.{Definitions}
use Rattle.stream_base.specs.Kinds.{IsKindWithin, is_events}
use Rattle.stream_base.specs.Model.Changes.{Moment}
use Rattle.stream_base.specs.Model.Cuts.{has_cut}
use Rattle.stream_base.specs.Model.Slices.{is_settled, is_settled_in, selects, unsettled}
use Rattle.stream_base.specs.Model.Windows.{Instance, instances_of, is_within, within}
use Rattle.stream_base.proofs.ChangeFacts.{any_from_member}
use Rattle.stream_base.proofs.Members.{filter_has, filter_members}
use Rattle.stream_base.proofs.Rising.{Contains-cons_cases, Contains-head, Contains-tail, none_in_nil}
use Rattle.window_laws.specs.Positions.{AreKept, HaveDistinctPositions}
use Rattle.window_laws.specs.Settled.{IsSettledAt, settled}
use Rattle.window_laws.proofs.EdgeFacts.{edge_is_cut}
use Rattle.window_laws.proofs.InstanceFacts.{inside_span}
use Rattle.window_laws.proofs.KindFacts.{spans_hold_selections, holding}
use Rattle.stream_base.proofs.Filters.{filter_all, filter_none}
use Rattle.slice_lists.proofs.Order.{nd_head, nd_tail}

-- ---- members and tests
any_member : {X : Type 0} (p : X → Bool) (xs : List X) → list_any p xs ≡ true → (x : X) × Contains xs x × (p x ≡ true)
any_member p [] h = absurd (false≢true h)
any_member {X} p (x ∷ xs) h = by (cases_Bool (p x)) (any_member p xs)
  where
    by : (p x ≡ true) ⊎ (p x ≡ false) → (list_any p xs ≡ true → (y : X) × Contains xs y × (p y ≡ true)) → (y : X) × Contains (x ∷ xs) y × (p y ≡ true)
    by (inl e) later = (x, Contains-head x xs, e)
    by (inr e) later = let t = later (sym (ap (λ b. b || list_any p xs) e) ∙ h) in (t.0, Contains-tail x xs t.0 t.1, t.2)

pub all_member : {X : Type 0} (p : X → Bool) (xs : List X) (x : X) → list_all p xs ≡ true → Contains xs x → p x ≡ true
all_member p [] x h c = absurd (none_in_nil x c)
all_member p (y ∷ ys) x h c =
    let t : (p y ≡ true) × (list_all p ys ≡ true) = and_parts (p y) (list_all p ys) h in
    elim (Contains-cons_cases y ys x c) [ inl e ↦ sym (ap p e) ∙ t.0 | inr d ↦ all_member p ys x t.1 d ]

pub all_from : {X : Type 0} (p : X → Bool) (xs : List X) → ((x : X) → Contains xs x → p x ≡ true) → list_all p xs ≡ true
all_from p [] h = refl
all_from p (x ∷ xs) h = and_from (p x) (list_all p xs) (h x (Contains-head x xs)) (all_from p xs (λ y c. h y (Contains-tail x xs y c)))

pub not_all : {X : Type 0} (p : X → Bool) (xs : List X) → list_all p xs ≡ false → (x : X) × Contains xs x × (p x ≡ false)
not_all p [] h = absurd (false≢true (sym h))
not_all {X} p (x ∷ xs) h = by (cases_Bool (p x)) (not_all p xs)
  where
    by : (p x ≡ true) ⊎ (p x ≡ false) → (list_all p xs ≡ false → (y : X) × Contains xs y × (p y ≡ false)) → (y : X) × Contains (x ∷ xs) y × (p y ≡ false)
    by (inl e) later = let t = later (sym (ap (λ b. b && list_all p xs) e) ∙ h) in (t.0, Contains-tail x xs t.0 t.1, t.2)
    by (inr e) later = (x, Contains-head x xs, e)

-- of two tuples at one position there is but one
pub one_of_a_position : (kept : List Kept) (x y : Kept) → HaveDistinctPositions kept → Contains kept x → Contains kept y → x.position ≡ y.position → x ≡ y
one_of_a_position [] x y d a b e = absurd (none_in_nil x a)
one_of_a_position (z ∷ zs) x y d a b e =
    elim (Contains-cons_cases z zs x a) [
      | inl s ↦ elim (Contains-cons_cases z zs y b) [ inl t ↦ sym s ∙ t | inr t ↦ absurd (first y t (ap (λ (w : Kept). w.position) s ∙ e)) ]
      | inr s ↦ elim (Contains-cons_cases z zs y b) [
        | inl t ↦ absurd (first x s (ap (λ (w : Kept). w.position) t ∙ sym e))
        | inr t ↦ one_of_a_position zs x y (λ i j w l m. d (suc i) (suc j) w (omega arith) (omega arith)) s t e
      ]
    ]
  where
    first : (w : Kept) → Contains zs w → z.position ≢ w.position
    first w c = All-contains (λ (w : Kept). z.position ≢ w.position) zs w (λ k v l. d 0 (suc k) v (omega arith) (omega arith)) c

-- ---- an instance selects a tuple exactly where its span holds its time
module _ (kept : List Kept) (marks : List ℕ) (a : AreKept kept) (kind : Kind) (k : IsKindWithin kind) (e : is_events kind ≡ false) where
  selection : (i : Instance) → Contains (instances_of kind kept marks) i → i.chosen ≡ within i.low i.high kept
  selection i c = All-contains (λ (i : Instance). i.chosen ≡ within i.low i.high kept) (instances_of kind kept marks) i (spans_hold_selections kind kept marks k e a.in_order) c

  selects_held : (i : Instance) (x : Kept) → Contains (instances_of kind kept marks) i → Contains kept x → i.low ≤ x.time → x.time < i.high → selects x i ≡ true
  selects_held i x c d l h =
      any_from_member (λ (y : Kept). y.position == x.position) i.chosen x
      (subst (λ ys. Contains ys x) (sym (selection i c)) (filter_has (is_within i.low i.high) kept x d (inside_span i.low i.high x l h)))
      (eq-eqb x.position x.position refl)

  held_selected : (i : Instance) (x : Kept) → Contains (instances_of kind kept marks) i → Contains kept x → selects x i ≡ true → (i.low ≤ x.time) × (x.time < i.high)
  held_selected i x c d s =
      let m : (y : Kept) × Contains i.chosen y × ((y.position == x.position) ≡ true) = any_member (λ (y : Kept). y.position == x.position) i.chosen s in
      let n : Contains kept m.0 × (is_within i.low i.high m.0 ≡ true) = filter_members (is_within i.low i.high) kept m.0 (subst (λ ys. Contains ys m.0) (selection i c) m.1) in
      let same : m.0 ≡ x = one_of_a_position kept m.0 x a.distinct n.0 d (eqb-true (m.0).position x.position m.2) in
      let p : (nat_le i.low x.time ≡ true) × (nat_lt x.time i.high ≡ true) = and_parts (nat_le i.low x.time) (nat_lt x.time i.high) (subst (λ z. is_within i.low i.high z ≡ true) same n.1) in
      (leb-true i.low x.time p.0, ltb-true x.time i.high p.1)

-- ---- settled in one window, by times
pub settled_by_times : (lateness : ℕ) (m : Moment) (x : Kept) (def : Def) → AreKept m.kept → IsKindWithin def.kind → is_events def.kind ≡ false → Contains m.kept x → is_settled_in lateness m x def ≡ true → IsSettledAt lateness def.kind m x.time
settled_by_times lateness m x def a k e d s i c l h =
    let all : list_all (λ i. not (selects x i) || nat_le (i.high + lateness) m.water) (instances_of def.kind m.kept m.marks) ≡ true = sym (ap (λ b. b || list_all (λ i. not (selects x i) || nat_le (i.high + lateness) m.water) (instances_of def.kind m.kept m.marks)) e) ∙ s in
    let one : (not (selects x i) || nat_le (i.high + lateness) m.water) ≡ true = all_member (λ i. not (selects x i) || nat_le (i.high + lateness) m.water) (instances_of def.kind m.kept m.marks) i all c in
    leb-true (i.high + lateness) m.water (sym (ap (λ b. not b || nat_le (i.high + lateness) m.water) (selects_held m.kept m.marks a def.kind k e i x c d l h)) ∙ one)

pub times_settle : (lateness : ℕ) (m : Moment) (x : Kept) (def : Def) → AreKept m.kept → IsKindWithin def.kind → is_events def.kind ≡ false → Contains m.kept x → IsSettledAt lateness def.kind m x.time → is_settled_in lateness m x def ≡ true
times_settle lateness m x def a k e d s =
    ap (λ b. b || list_all (λ i. not (selects x i) || nat_le (i.high + lateness) m.water) (instances_of def.kind m.kept m.marks)) e
    ∙ all_from (λ i. not (selects x i) || nat_le (i.high + lateness) m.water) (instances_of def.kind m.kept m.marks) (λ i c. elim (cases_Bool (selects x i)) [
      | inl u ↦ or_right (not (selects x i)) (nat_le (i.high + lateness) m.water) (let g = held_selected m.kept m.marks a def.kind k e i x c d u in le-leb (i.high + lateness) m.water (s i c g.0 g.1))
      | inr u ↦ or_left (not (selects x i)) (nat_le (i.high + lateness) m.water) (ap not u)
    ])

-- ---- one window: earlier tuples are settled first, with a cut behind
module _ (lateness : ℕ) (m : Moment) (a : AreKept m.kept) (def : Def) (k : IsKindWithin def.kind) where
  early_of : (x : Kept) → Contains m.kept x → x.time < FINAL
  early_of x c = All-contains (λ (z : Kept). z.time < FINAL) m.kept x a.early c

  pub settled_earlier : (x y : Kept) → Contains m.kept x → Contains m.kept y → x.time ≤ y.time → is_settled_in lateness m y def ≡ true → is_settled_in lateness m x def ≡ true
  settled_earlier x y c d l s = elim (cases_Bool (is_events def.kind)) [
    | inl e ↦ or_left (is_events def.kind) (list_all (λ i. not (selects x i) || nat_le (i.high + lateness) m.water) (instances_of def.kind m.kept m.marks)) e
    | inr e ↦ times_settle lateness m x def a k e c (λ i b low high. by e i b low high (settled_by_times lateness m y def a k e d s) (holding def.kind m.kept m.marks y k e a.in_order (early_of y d) d) (cases_lt y.time i.high))
  ]
    where
      by : is_events def.kind ≡ false → (i : Instance) → Contains (instances_of def.kind m.kept m.marks) i → i.low ≤ x.time → x.time < i.high → IsSettledAt lateness def.kind m y.time → (j : Instance) × Contains (instances_of def.kind m.kept m.marks) j × (j.low ≤ y.time) × (y.time < j.high) → (y.time < i.high) ⊎ (i.high ≤ y.time) → i.high + lateness ≤ m.water
      by e i b low high s h (inl g) = s i b (omega arith) g
      by e i b low high s h (inr g) = omega (arith, s h.0 h.1 h.2 h.3, h.3)

  pub settled_cut : (windows : List Def) → All (λ w. IsKindWithin w.kind) windows → Contains windows def → (x y : Kept) → Contains m.kept x → Contains m.kept y → x.time ≤ y.time → is_settled_in lateness m x def ≡ true → is_settled_in lateness m y def ≡ false → has_cut windows m.marks x.time y.time ≡ true
  settled_cut windows within w x y c d l s u =
      let e : is_events def.kind ≡ false = no_events (cases_Bool (is_events def.kind)) in
      let none : list_all (λ i. not (selects y i) || nat_le (i.high + lateness) m.water) (instances_of def.kind m.kept m.marks) ≡ false = sym (ap (λ b. b || list_all (λ i. not (selects y i) || nat_le (i.high + lateness) m.water) (instances_of def.kind m.kept m.marks)) e) ∙ u in
      let j : (j : Instance) × Contains (instances_of def.kind m.kept m.marks) j × ((not (selects y j) || nat_le (j.high + lateness) m.water) ≡ false) = not_all (λ i. not (selects y i) || nat_le (i.high + lateness) m.water) (instances_of def.kind m.kept m.marks) none in
      let h = held_selected m.kept m.marks a def.kind k e j.0 y j.1 d (picked (selects y j.0) (nat_le ((j.0).high + lateness) m.water) j.2) in
      let late : m.water < (j.0).high + lateness = leb-false ((j.0).high + lateness) m.water (unmet (selects y j.0) (nat_le ((j.0).high + lateness) m.water) j.2) in
      let after : x.time < (j.0).low = elim (cases_lt x.time (j.0).low) [ inl g ↦ g | inr g ↦ absurd (let z : (j.0).high + lateness ≤ m.water = settled_by_times lateness m x def a k e c s j.0 j.1 g (omega (arith, h.1)) in omega arith) ] in
      edge_is_cut m.kept m.marks a.in_order a.early windows def j.0 within w e j.1 (j.0).low (inl refl) x y c d after h.0
    where
      no_events : (is_events def.kind ≡ true) ⊎ (is_events def.kind ≡ false) → is_events def.kind ≡ false
      no_events (inl t) = absurd (false≢true (sym u ∙ or_left (is_events def.kind) (list_all (λ i. not (selects y i) || nat_le (i.high + lateness) m.water) (instances_of def.kind m.kept m.marks)) t))
      no_events (inr t) = t

      picked : (s p : Bool) → (not s || p) ≡ false → s ≡ true
      picked true p h = refl
      picked false p h = absurd (false≢true (sym h))

      unmet : (s p : Bool) → (not s || p) ≡ false → p ≡ false
      unmet true p h = h
      unmet false p h = absurd (false≢true (sym h))

-- ---- all windows
pub settled_before : (d : Definitions) (m : Moment) (x y : Kept) → All (λ w. IsKindWithin w.kind) d.windows → AreKept m.kept → Contains m.kept x → Contains m.kept y → x.time ≤ y.time → is_settled d m y ≡ true → is_settled d m x ≡ true
settled_before d m x y within a c e l s =
    all_from (is_settled_in d.lateness m x) d.windows
    (λ w f. settled_earlier d.lateness m a w (All-contains (λ w. IsKindWithin w.kind) d.windows w within f) x y c e l (all_member (is_settled_in d.lateness m y) d.windows w s f))

pub cut_behind_settled : (d : Definitions) (m : Moment) (x y : Kept) → All (λ w. IsKindWithin w.kind) d.windows → AreKept m.kept → Contains m.kept x → Contains m.kept y → x.time ≤ y.time → is_settled d m x ≡ true → is_settled d m y ≡ false → has_cut d.windows m.marks x.time y.time ≡ true
cut_behind_settled d m x y within a c e l s u =
    let w = not_all (is_settled_in d.lateness m y) d.windows u in
    settled_cut d.lateness m a w.0 (All-contains (λ w. IsKindWithin w.kind) d.windows w.0 within w.1) d.windows within w.1 x y c e l (all_member (is_settled_in d.lateness m x) d.windows w.0 s w.1) w.2

-- what passes a test comes first, where it does of each later element that passes
parts_by : (p : Kept → Bool) (xs : List Kept) → TimesDoNotFall xs → ((x y : Kept) → Contains xs x → Contains xs y → x.time ≤ y.time → p y ≡ true → p x ≡ true) → xs ≡ filter p xs ++ filter (λ x. not (p x)) xs
parts_by p [] h mono = refl
parts_by p (x ∷ xs) h mono = by (cases_Bool (p x)) (parts_by p xs (nd_tail (λ (z : Kept). z.time) x xs h) (λ a b c d. mono a b (Contains-tail x xs a c) (Contains-tail x xs b d)))
  where
    by : (p x ≡ true) ⊎ (p x ≡ false) → xs ≡ filter p xs ++ filter (λ x. not (p x)) xs → x ∷ xs ≡ cond (p x) (x ∷ filter p xs) (filter p xs) ++ cond (not (p x)) (x ∷ filter (λ x. not (p x)) xs) (filter (λ x. not (p x)) xs)
    by (inl e) later = ap (λ l. x ∷ l) later ∙ sym (ap (λ b. cond b (x ∷ filter p xs) (filter p xs) ++ cond (not b) (x ∷ filter (λ x. not (p x)) xs) (filter (λ x. not (p x)) xs)) e)
    by (inr e) later =
        let out : (y : Kept) → Contains xs y → p y ≡ false = λ y c. false_from_ne_true (p y) (λ t. false≢true (sym e ∙ mono x y (Contains-head x xs) (Contains-tail x xs y c) (All-contains (λ (z : Kept). x.time ≤ z.time) xs y (nd_head (λ (z : Kept). z.time) x xs h) c) t)) in
        let none : filter p xs ≡ [] = filter_none p xs (λ k d l. out (get_or xs k d) (Contains-get_or xs k d l)) in
        let all : filter (λ x. not (p x)) xs ≡ xs = filter_all (λ x. not (p x)) xs (λ k d l. ap not (out (get_or xs k d) (Contains-get_or xs k d l))) in
        sym (λ i. cond (e i) (x ∷ none i) (none i) ++ cond (not (e i)) (x ∷ all i) (all i))

pub settled_first : (d : Definitions) (m : Moment) → All (λ w. IsKindWithin w.kind) d.windows → AreKept m.kept → m.kept ≡ settled d m ++ unsettled d m
settled_first d m within a = parts_by (is_settled d m) m.kept a.in_order (λ x y c e l s. settled_before d m x y within a c e l s)

pub unsettled_drop : (d : Definitions) (m : Moment) → All (λ w. IsKindWithin w.kind) d.windows → AreKept m.kept → unsettled d m ≡ drop (length (settled d m)) m.kept
unsettled_drop d m within a = sym (ap (drop (length (settled d m))) (settled_first d m within a) ∙ drop-append_seam (settled d m) (unsettled d m))

pub cut_at_unsettled : (d : Definitions) (m : Moment) (front : List Kept) (x y : Kept) (back : List Kept) → All (λ w. IsKindWithin w.kind) d.windows → AreKept m.kept → settled d m ≡ front ++ x ∷ [] → unsettled d m ≡ y ∷ back → has_cut d.windows m.marks x.time y.time ≡ true
cut_at_unsettled d m front x y back within a e f =
    let p : Contains m.kept x × (is_settled d m x ≡ true) = filter_members (is_settled d m) m.kept x (subst (λ l. Contains l x) (sym e) (Contains-append_right front (x ∷ []) x (Contains-head x []))) in
    let q : Contains m.kept y × (not (is_settled d m y) ≡ true) = filter_members (λ x. not (is_settled d m x)) m.kept y (subst (λ l. Contains l y) (sym f) (Contains-head y back)) in
    cut_behind_settled d m x y within a p.0 q.0 (times p.0 q.0 (cases_lt y.time x.time)) p.1 (flip (is_settled d m y) q.1)
  where
    flip : (b : Bool) → not b ≡ true → b ≡ false
    flip true h = absurd (false≢true h)
    flip false h = refl

    times : Contains m.kept x → Contains m.kept y → (y.time < x.time) ⊎ (x.time ≤ y.time) → x.time ≤ y.time
    times c g (inr l) = l
    times c g (inl l) = let s : is_settled d m y ≡ true = settled_before d m y x within a g c (omega arith) (filter_members (is_settled d m) m.kept x (subst (λ l. Contains l x) (sym e) (Contains-append_right front (x ∷ []) x (Contains-head x [])))).1 in
        absurd (false≢true (sym (ap not s) ∙ (filter_members (λ x. not (is_settled d m x)) m.kept y (subst (λ l. Contains l y) (sym f) (Contains-head y back))).1))

-- ---- in the order of the laws
pub told_by_times : (lateness : ℕ) (m : Moment) (x : Kept) (w : Def) → AreKept m.kept → IsKindWithin w.kind → is_events w.kind ≡ false → Contains m.kept x → (is_settled_in lateness m x w ≡ true) ↔ IsSettledAt lateness w.kind m x.time
told_by_times lateness m x w a k e c = (settled_by_times lateness m x w a k e c, times_settle lateness m x w a k e c)

pub window_earlier : (lateness : ℕ) (m : Moment) (w : Def) (x y : Kept) → AreKept m.kept → IsKindWithin w.kind → Contains m.kept x → Contains m.kept y → x.time ≤ y.time → is_settled_in lateness m y w ≡ true → is_settled_in lateness m x w ≡ true
window_earlier lateness m w x y a k c d l s = settled_earlier lateness m a w k x y c d l s

pub window_cut : (lateness : ℕ) (m : Moment) (windows : List Def) (w : Def) (x y : Kept) → AreKept m.kept → All (λ w. IsKindWithin w.kind) windows → Contains windows w → Contains m.kept x → Contains m.kept y → x.time ≤ y.time → is_settled_in lateness m x w ≡ true → is_settled_in lateness m y w ≡ false → has_cut windows m.marks x.time y.time ≡ true
window_cut lateness m windows w x y a within f c d l s u = settled_cut lateness m a w (All-contains (λ w. IsKindWithin w.kind) windows w within f) windows within f x y c d l s u
