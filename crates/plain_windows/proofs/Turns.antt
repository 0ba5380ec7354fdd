-- Settled tuples of a key: those before the first tuple of the first instance that ends after the watermark minus the lateness.
use Rattle.std.proofs.Common.{◌≡◌, ◌∙◌, ℕ, zero, suc, ◌+◌, ◌-◌, ◌<◌, ◌≤◌, Bool, true, false, cond, not, List, [], ◌∷◌, length, get_or, take, drop, ap, sym, refl, subst, arith, inl, inr, None, Some}
use Rattle.std.specs.Prelude.{◌⊎◌, ◌&&◌, min, nat_lt}
use Rattle.std.specs.List.{Contains, filter, find, list_all}
use Rattle.std.proofs.lemmas.Bool.{and_from, cases_Bool, cases_lt, false≢true, false_from_ne_true, ltb-true, ltb-false, or_left}
use Rattle.std.proofs.lemmas.Bool.Decides.{nat_tests}
use Rattle.std.proofs.lemmas.List.{get_or-drop, get_or-take, get_or_default, length-drop, length-take, take_all}
use Rattle.std.proofs.lemmas.List.Elements.{All-contains, All-weaker, Contains-get_or}
use Rattle.std.proofs.lemmas.List.Folds.{list_all_more}
use Rattle.std.proofs.lemmas.Map.Keys.{sorted_tail}
use Rattle.stream_base.specs.declared.def.Def.{Def}
use Rattle.stream_base.specs.declared.kept.Kept.{Kept}
use Rattle.stream_base.specs.declared.limits.TheConstants.{FINAL, TIME_MAX}
use Rattle.stream_base.specs.Laws.{by_start, RiseByStart}
use Rattle.stream_base.specs.Limits.{Definitions}
use Rattle.stream_base.specs.Kinds.{IsKindWithin, is_events}
use Rattle.stream_base.specs.Model.Changes.{Moment}
use Rattle.stream_base.specs.Model.Slices.{is_settled, is_settled_in, unsettled}
use Rattle.stream_base.specs.Model.Windows.{Instance, instances_of, is_within, within}
use Rattle.stream_base.proofs.Distinct.{by_start_total, lt_from_less}
use Rattle.stream_base.proofs.KindFacts.{instances_rise, instances_select}
use Rattle.stream_base.proofs.EventOrder.{times_do_not_fall}
use Rattle.stream_base.proofs.Members.{filter_has, filter_members}
use Rattle.stream_base.proofs.Rising.{Contains-cons_cases, below_tail, none_in_nil}
use Rattle.window_laws.specs.Positions.{AreKept, HaveDistinctPositions}
use Rattle.window_laws.proofs.InstanceFacts.{inside_span}
use Rattle.window_laws.proofs.KindFacts.{bounds_are_ends, spans_hold_selections}
use Rattle.window_laws.proofs.SettledFacts.{settled_by_times, settled_earlier, times_settle}
use Rattle.plain_windows.specs.declared.extent.Extent.{Extent}
use Rattle.plain_windows.specs.Extents.{AreKeyLists, IsExtentIn, instance_in}
use Rattle.plain_windows.specs.Turns.{IsTurnOf}
use Rattle.plain_windows.proofs.Walks.{found}

-- ---- turns of tests
-- where each of two tests turns, both together turn at the earlier place
pub turn_of_both : (p q : Kept → Bool) (xs : List Kept) (a b n : ℕ) → n ≡ min a b → IsTurnOf p xs a → IsTurnOf q xs b → IsTurnOf (λ x. p x && q x) xs n
turn_of_both p q xs a b n is f g = record {
  within = omega (arith, f.within);
  before = λ k d low high. and_from (p (get_or xs k d)) (q (get_or xs k d)) (f.before k d low (omega arith)) (g.before k d low (omega arith));
  behind = λ k d low high. elim (cases_lt k a) [
    | inr l ↦ ap (λ t. t && q (get_or xs k d)) (f.behind k d l high)
    | inl l ↦ ap (λ t. p (get_or xs k d) && t) (g.behind k d (omega arith) high) ∙ no_more (p (get_or xs k d))
  ];
}
  where
    no_more : (t : Bool) → (t && false) ≡ false
    no_more true = refl
    no_more false = refl

-- a test that is the same turns at the same place
pub turn_same : (p q : Kept → Bool) (xs : List Kept) (n : ℕ) → ((x : Kept) → p x ≡ q x) → IsTurnOf p xs n → IsTurnOf q xs n
turn_same p q xs n same f = record {
  within = f.within;
  before = λ k d low high. sym (same (get_or xs k d)) ∙ f.before k d low high;
  behind = λ k d low high. sym (same (get_or xs k d)) ∙ f.behind k d low high;
}

-- a test that all pass turns at the end
pub turn_at_end : (p : Kept → Bool) (xs : List Kept) → ((x : Kept) → Contains xs x → p x ≡ true) → IsTurnOf p xs (length xs)
turn_at_end p xs h = record {
  within = omega arith;
  before = λ k d low high. h (get_or xs k d) (Contains-get_or xs k d high);
  behind = λ k d low high. absurd (omega arith);
}

-- what doesn't pass stands from the turn on
pub behind_turn : (p : Kept → Bool) (xs : List Kept) (n : ℕ) → IsTurnOf p xs n → filter (λ x. not (p x)) xs ≡ drop n xs
behind_turn p [] zero f = refl
behind_turn p [] (suc n) f = refl
behind_turn p (x ∷ xs) zero f =
    ap (λ t. cond (not t) (x ∷ filter (λ x. not (p x)) xs) (filter (λ x. not (p x)) xs)) (f.behind 0 x (omega arith) (omega arith))
    ∙ ap (λ l. x ∷ l) (behind_turn p xs zero (record {
      within = omega arith;
      before = λ k d low high. absurd (omega arith);
      behind = λ k d low high. f.behind (suc k) d (omega arith) (omega arith);
    }))
behind_turn p (x ∷ xs) (suc n) f =
    ap (λ t. cond (not t) (x ∷ filter (λ x. not (p x)) xs) (filter (λ x. not (p x)) xs)) (f.before 0 x (omega arith) (omega arith))
    ∙ behind_turn p xs n (record {
      within = omega (arith, f.within);
      before = λ k d low high. f.before (suc k) d (omega arith) (omega arith);
      behind = λ k d low high. f.behind (suc k) d (omega arith) (omega arith);
    })

-- one window more
pub turn_more : {W : Type 0} (test : Kept → W → Bool) (ws : List W) (i : ℕ) (w : W) (xs : List Kept) (a b n : ℕ) → i < length ws → n ≡ min a b → IsTurnOf (λ x. list_all (test x) (take i ws)) xs a → IsTurnOf (λ x. test x (get_or ws i w)) xs b → IsTurnOf (λ x. list_all (test x) (take (i + 1) ws)) xs n
turn_more test ws i w xs a b n lt is f g =
    turn_same (λ x. list_all (test x) (take i ws) && test x (get_or ws i w)) (λ x. list_all (test x) (take (i + 1) ws)) xs n
    (λ x. sym (list_all_more (test x) ws i w lt))
    (turn_of_both (λ x. list_all (test x) (take i ws)) (λ x. test x (get_or ws i w)) xs a b n is f g)

-- all windows
pub turn_of_all : {W : Type 0} (test : Kept → W → Bool) (ws : List W) (i : ℕ) (xs : List Kept) (n : ℕ) → length ws ≤ i → IsTurnOf (λ x. list_all (test x) (take i ws)) xs n → IsTurnOf (λ x. list_all (test x) ws) xs n
turn_of_all test ws i xs n le f = turn_same (λ x. list_all (test x) (take i ws)) (λ x. list_all (test x) ws) xs n (λ x. ap (list_all (test x)) (take_all i ws le)) f

-- ---- a key's lists
pub key_is_kept : (kept : List Kept) (marks : List ℕ) → AreKeyLists kept marks → HaveDistinctPositions kept → AreKept kept
key_is_kept kept marks h d = record {
  in_order = times_do_not_fall kept h.in_order;
  early = All-weaker (λ (x : Kept). x.time ≤ TIME_MAX) (λ (x : Kept). x.time < FINAL) (λ x l. omega arith) kept h.times;
  distinct = d;
}

-- what a search found nothing for passes nowhere
found_none : {X : Type 0} (p : X → Bool) (xs : List X) (x : X) → find p xs ≡ None → Contains xs x → p x ≡ false
found_none p [] x e c = absurd (none_in_nil x c)
found_none {X} p (y ∷ ys) x e c = by (p y) refl e (λ f d. found_none p ys x f d)
  where
    by : (t : Bool) → p y ≡ t → cond t (Some y) (find p ys) ≡ None → (find p ys ≡ None → Contains ys x → p x ≡ false) → p x ≡ false
    by true h f later = cc
    by false h f later = elim (Contains-cons_cases y ys x c) [ inl s ↦ sym (ap p s) ∙ h | inr d ↦ later f d ]

-- and what is found first starts no later than any that passes
found_first : (p : Instance → Bool) (is : List Instance) (i j : Instance) → RiseByStart is → find p is ≡ Some i → Contains is j → p j ≡ true → i.low ≤ j.low
found_first p [] i j s e c t = absurd (none_in_nil j c)
found_first p (x ∷ is) i j s e c t = by (p x) refl e (λ f d. found_first p is i j (sorted_tail by_start x is s) f d t)
  where
    by : (b : Bool) → p x ≡ b → cond b (Some x) (find p is) ≡ Some i → (find p is ≡ Some i → Contains is j → i.low ≤ j.low) → i.low ≤ j.low
    by true h f later =
        let same : x.low ≡ i.low = let whole : x ≡ i = cc in ap (λ (k : Instance). k.low) whole in
        elim (Contains-cons_cases x is j c) [
          | inl e ↦ (let low : x.low ≡ j.low = ap (λ (k : Instance). k.low) e in omega arith)
          | inr d ↦ (let behind : x.low < j.low = lt_from_less x.low j.low (below_tail by_start_total x is s j d) in omega arith)
        ]
    by false h f later = elim (Contains-cons_cases x is j c) [ inl e ↦ absurd (false≢true (sym h ∙ ap p e ∙ t)) | inr d ↦ later f d ]

-- ---- one window
module _ (lateness : ℕ) (m : Moment) (w : Def) where
  -- a window of event counts settles all
  pub counts_settle : is_events w.kind ≡ true → IsTurnOf (λ x. is_settled_in lateness m x w) m.kept (length m.kept)
  counts_settle e = turn_at_end (λ x. is_settled_in lateness m x w) m.kept (λ x c. or_left (is_events w.kind) _ e)

  module _ (lists : AreKeyLists m.kept m.marks) (distinct : HaveDistinctPositions m.kept) (k : IsKindWithin w.kind) (e : is_events w.kind ≡ false) (bar : ℕ) (is : bar ≡ m.water - lateness) where
    are_kept : AreKept m.kept
    are_kept = key_is_kept m.kept m.marks lists distinct

    ends : (i : Instance) → Contains (instances_of w.kind m.kept m.marks) i → i.bound ≡ i.high
    ends i c = All-contains (λ (i : Instance). i.bound ≡ i.high) (instances_of w.kind m.kept m.marks) i (bounds_are_ends w.kind m.kept m.marks e) c

    -- the bar is the watermark minus the lateness; an instance that holds a time and doesn't end after the bar
    over : (i : Instance) (time : ℕ) → Contains (instances_of w.kind m.kept m.marks) i → time < i.high → nat_lt bar i.bound ≡ false → i.high + lateness ≤ m.water
    over i time c h t = let le : i.bound ≤ bar = ltb-false bar i.bound t in omega (arith, ends i c)

    -- where no instance ends after that, all are settled
    pub all_settle : find (λ i. nat_lt bar i.bound) (instances_of w.kind m.kept m.marks) ≡ None → IsTurnOf (λ x. is_settled_in lateness m x w) m.kept (length m.kept)
    all_settle f = turn_at_end (λ x. is_settled_in lateness m x w) m.kept (λ x c. times_settle lateness m x w are_kept k e c (λ i d l h. over i x.time d h (found_none (λ i. nat_lt bar i.bound) (instances_of w.kind m.kept m.marks) i f d)))

    module _ (o : Extent) (inside : IsExtentIn m.kept o) (f : find (λ i. nat_lt bar i.bound) (instances_of w.kind m.kept m.marks) ≡ Some (instance_in m.kept o)) where
      abbrev ahead : Instance
      ahead = instance_in m.kept o

      there : Contains (instances_of w.kind m.kept m.marks) ahead
      there = (found (λ i. nat_lt bar i.bound) (instances_of w.kind m.kept m.marks) ahead f).0

      is_ahead : bar < o.bound
      is_ahead = ltb-true bar o.bound (found (λ i. nat_lt bar i.bound) (instances_of w.kind m.kept m.marks) ahead f).1

      selection : take o.count (drop o.first m.kept) ≡ within o.low o.high m.kept
      selection = All-contains (λ (i : Instance). i.chosen ≡ within i.low i.high m.kept) (instances_of w.kind m.kept m.marks) ahead (spans_hold_selections w.kind m.kept m.marks k e are_kept.in_order) there

      some : 1 ≤ length (take o.count (drop o.first m.kept))
      some = All-contains (λ (i : Instance). 1 ≤ length i.chosen) (instances_of w.kind m.kept m.marks) ahead (instances_select w.kind m.kept m.marks k) there

      few : o.first < length m.kept
      few = omega (arith, length-take o.count (drop o.first m.kept), length-drop o.first m.kept, some)

      -- a tuple that it selects stands at its first place or behind it
      selected : (x : Kept) → Contains (within o.low o.high m.kept) x → (n : ℕ) × (o.first ≤ n) × (n < length m.kept) × (get_or m.kept n x ≡ x)
      selected x c =
          let d : Contains (take o.count (drop o.first m.kept)) x = subst (λ l. Contains l x) (sym selection) c in
          let inner : d.0 < length (take o.count (drop o.first m.kept)) = d.1 in
          let near : d.0 < o.count = omega (arith, length-take o.count (drop o.first m.kept)) in
          (o.first + d.0, omega arith, omega (arith, length-take o.count (drop o.first m.kept), length-drop o.first m.kept), sym (get_or-take o.count (drop o.first m.kept) d.0 x near ∙ get_or-drop o.first m.kept d.0 x) ∙ get_or_default (take o.count (drop o.first m.kept)) d.0 x x inner ∙ d.2)

      abbrev first : Kept → Kept
      first d = get_or m.kept o.first d

      first_within : (d : Kept) → (o.low ≤ (first d).time) × ((first d).time < o.high)
      first_within d =
          let c : Contains (take o.count (drop o.first m.kept)) (get_or (take o.count (drop o.first m.kept)) 0 d) = Contains-get_or (take o.count (drop o.first m.kept)) 0 d some in
          let place : o.first + 0 ≡ o.first = omega arith in
          let counts : 0 < o.count = omega (arith, length-take o.count (drop o.first m.kept), some) in
          let at : get_or (take o.count (drop o.first m.kept)) 0 d ≡ first d = get_or-take o.count (drop o.first m.kept) 0 d counts ∙ get_or-drop o.first m.kept 0 d ∙ ap (λ n. get_or m.kept n d) place in
          let g : Contains m.kept (first d) × (is_within o.low o.high (first d) ≡ true) = filter_members (is_within o.low o.high) m.kept (first d) (subst (λ l. Contains l (first d)) selection (subst (λ x. Contains (take o.count (drop o.first m.kept)) x) at c)) in
          span_of (first d) g.1
        where
          span_of : (x : Kept) → is_within o.low o.high x ≡ true → (o.low ≤ x.time) × (x.time < o.high)
          span_of x t = grind (arith, nat_tests)

      -- the tuples before its first are settled
      before : (n : ℕ) (d : Kept) → n < o.first → is_settled_in lateness m (get_or m.kept n d) w ≡ true
      before n d lt = times_settle lateness m x w are_kept k e (Contains-get_or m.kept n d (omega (arith, few))) (λ i c l h. by i c l h (cases_Bool (nat_lt bar i.bound)))
        where
          x : Kept
          x = get_or m.kept n d

          sorted : x.time ≤ (first d).time
          sorted = are_kept.in_order n o.first d (omega arith) few

          apart : (b : ℕ) → o.first ≤ b → b < length m.kept → get_or m.kept b x ≡ x → ⊥
          apart b le in_list same =
              distinct n b d (omega arith) in_list (ap (λ (z : Kept). z.position) (sym same ∙ get_or_default m.kept b x d in_list))

          by : (i : Instance) → Contains (instances_of w.kind m.kept m.marks) i → i.low ≤ x.time → x.time < i.high → (nat_lt bar i.bound ≡ true) ⊎ (nat_lt bar i.bound ≡ false) → i.high + lateness ≤ m.water
          by i c l h (inr t) = over i x.time c h t
          by i c l h (inl t) =
              let low : o.low ≤ i.low = found_first (λ i. nat_lt bar i.bound) (instances_of w.kind m.kept m.marks) ahead i (instances_rise w.kind m.kept m.marks k are_kept.in_order) f c t in
              let g = selected x (filter_has (is_within o.low o.high) m.kept x (Contains-get_or m.kept n d (omega (arith, few))) (inside_span o.low o.high x (omega arith) (omega (arith, sorted, (first_within d).1)))) in
              absurd (apart g.0 g.1 g.2 g.3)

      -- and those from it on aren't
      behind : (n : ℕ) (d : Kept) → o.first ≤ n → n < length m.kept → is_settled_in lateness m (get_or m.kept n d) w ≡ false
      behind n d le lt = false_from_ne_true (is_settled_in lateness m (get_or m.kept n d) w) (λ t. refuted
          (settled_by_times lateness m (first d) w are_kept k e (Contains-get_or m.kept o.first d few)
          (settled_earlier lateness m are_kept w k (first d) (get_or m.kept n d) (Contains-get_or m.kept o.first d few) (Contains-get_or m.kept n d lt) (are_kept.in_order o.first n d le lt) t)
          ahead there (first_within d).0 (first_within d).1))
        where
          refuted : o.high + lateness ≤ m.water → ⊥
          refuted h = let b : o.bound ≡ o.high = ends ahead there in omega (arith, is_ahead, (first_within d).1)

      pub first_open : IsTurnOf (λ x. is_settled_in lateness m x w) m.kept o.first
      first_open = record { within = omega (arith, few); before = λ n d low high. before n d high; behind = behind }

-- what isn't settled stands from the turn of all windows on
pub unsettled_behind : (d : Definitions) (m : Moment) (windows : List Def) (lateness n : ℕ) → d.windows ≡ windows → d.lateness ≡ lateness → IsTurnOf (λ x. list_all (is_settled_in lateness m x) windows) m.kept n → unsettled d m ≡ drop n m.kept
unsettled_behind d m windows lateness n w l f =
    behind_turn (is_settled d m) m.kept n (turn_same (λ x. list_all (is_settled_in lateness m x) windows) (is_settled d m) m.kept n (λ x. λ i. list_all (is_settled_in (sym l i) m x) (sym w i)) f)
