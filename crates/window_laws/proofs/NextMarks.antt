-- The next bound of sessions and of intervals between marks.
use Rattle.std.proofs.Common.{◌≡◌, ◌∙◌, ℕ, ◌+◌, ◌-◌, ◌<◌, ◌≤◌, fold, max, min, Bool, true, false, cond, Option, Some, None, List, [], ◌∷◌, ◌++◌, length, ap, sym, refl, subst, arith, inl, inr}
use Rattle.std.specs.Prelude.{◌⊎◌, nat_le, nat_lt}
use Rattle.std.specs.List.{All, Contains, filter, find}
use Rattle.std.specs.Option.{option_map_or}
use Rattle.std.proofs.lemmas.Bool.{cases_lt, le-leb, le-ltb, leb-true, lt-ltb, ltb-true, and_parts}
use Rattle.std.proofs.lemmas.List.Elements.{All-contains, All-head, All-tail, Contains-append_cases, Contains-append_left}
use Rattle.stream_base.specs.declared.def.Def.{Def}
use Rattle.stream_base.specs.declared.kept.Kept.{Kept}
use Rattle.stream_base.specs.declared.kind.Kind.TheVariants.{Marks, Session}
use Rattle.stream_base.specs.declared.limits.TheConstants.{FINAL}
use Rattle.stream_base.specs.Laws.{TimesDoNotFall}
use Rattle.stream_base.specs.Model.Changes.{Moment}
use Rattle.stream_base.specs.Model.Journal.{put_in_order}
use Rattle.stream_base.specs.Model.Windows.{Instance, instances_of, interval, is_selecting, is_within, pieces_of, session, sessions, stretches, within}
use Rattle.stream_base.proofs.Distinct.{All_from_members}
use Rattle.stream_base.proofs.Members.{filter_has, filter_members}
use Rattle.stream_base.proofs.Rising.{Contains-head, Contains-tail}
use Rattle.stream_base.proofs.KindFacts.{instances_select}
use Rattle.window_laws.specs.Due.{first_open}
use Rattle.window_laws.specs.Positions.{AreKept}
use Rattle.window_laws.specs.Stretches.{IsPutInStretches, if_selecting, last_mark, next_mark}
use Rattle.window_laws.specs.Walk.{IsFirstFrom}
use Rattle.window_laws.proofs.WalkFacts.{least_of}
use Rattle.window_laws.proofs.SessionFacts.{session_sides}
use Rattle.window_laws.proofs.InstanceFacts.{inside_span, session_runs, sessions_select}
use Rattle.window_laws.proofs.KindFacts.{bounds_are_ends, spans_hold_selections}
use Rattle.window_laws.proofs.LateFacts.{find_none, some_of_member}
use Rattle.slice_lists.proofs.Order.{All-map_of, amid}
use Rattle.window_laws.proofs.HoldingFacts.{only_interval, session_last, sessions_apart}
use Rattle.window_laws.proofs.StretchFacts.{most_of, span_of_holder, stretches_after_put}

find_behind : (q : Instance → Bool) (front : List Instance) (i : Instance) (back : List Instance) → All (λ j. q j ≡ false) front → q i ≡ true → find q (front ++ i ∷ back) ≡ Some i
find_behind q [] i back a h = ap (λ b. cond b (Some i) (find q back)) h
find_behind q (j ∷ front) i back a h = ap (λ b. cond b (Some j) (find q (front ++ i ∷ back))) (All-head (λ j. q j ≡ false) j front a) ∙ find_behind q front i back (All-tail (λ j. q j ≡ false) j front a) h

-- ---- sessions
module _ (gap : ℕ) (kept : List Kept) (water : ℕ) (some : 1 ≤ gap) (h : TimesDoNotFall kept) where
  last_kept : (j : Instance) → Contains (sessions gap kept) j → (w : Kept) × Contains kept w × (w.time + gap ≡ j.high)
  last_kept j c =
      let w = session_last gap kept j some h c in
      let m : Contains kept w.0 × (is_within j.low j.high w.0 ≡ true) = filter_members (is_within j.low j.high) kept w.0 (subst (λ l. Contains l w.0) (All-contains (λ (i : Instance). i.chosen ≡ within i.low i.high kept) (sessions gap kept) j (sessions_select gap kept some h) c) w.1) in
      (w.0, m.0, w.2)

  find_session : (y : Kept) (i : Instance) → IsFirstFrom kept (water + 1 - gap) y → Contains (sessions gap kept) i → i.low ≤ y.time → y.time < i.high → i.bound ≡ i.high → find (λ (j : Instance). nat_lt water j.bound) (sessions gap kept) ≡ Some i
  find_session y i first c l r b =
      let a = amid (sessions gap kept) i c in
      let early : All (λ (j : Instance). j.high ≤ i.low) a.front = sessions_apart gap (pieces_of (λ x y. nat_le gap (y.time - x.time)) kept) some (session_runs gap kept h) a.front i a.back a.is in
      ap (find (λ (j : Instance). nat_lt water j.bound)) a.is
      ∙ find_behind (λ (j : Instance). nat_lt water j.bound) a.front i a.back
      (All_from_members (λ (j : Instance). nat_lt water j.bound ≡ false) a.front
      (λ j d. let g : Contains (sessions gap kept) j = subst (λ l. Contains l j) (sym a.is) (Contains-append_left a.front (i ∷ a.back) j d) in
      le-ltb water j.bound (closed j g (All-contains (λ (j : Instance). j.high ≤ i.low) a.front j early d) (All-contains (λ (j : Instance). j.bound ≡ j.high) (sessions gap kept) j (bounds_of_sessions) g))))
      (lt-ltb water i.bound (elim (session_sides gap kept i some h c y first.member) [ inl s ↦ absurd (omega arith) | inr s ↦ elim s [ inl u ↦ omega (arith, u.1, first.after, b) | inr u ↦ absurd (omega arith) ] ]))
    where
      bounds_of_sessions : All (λ (j : Instance). j.bound ≡ j.high) (sessions gap kept)
      bounds_of_sessions = All-map_of (λ (j : Instance). j.bound ≡ j.high) (session gap) (pieces_of (λ x y. nat_le gap (y.time - x.time)) kept) (λ k d l. refl)

      closed : (j : Instance) → Contains (sessions gap kept) j → j.high ≤ i.low → j.bound ≡ j.high → j.bound ≤ water
      closed j g le e = elim (cases_lt water j.bound) [
        | inr n ↦ n
        | inl n ↦ absurd (let w = last_kept j g in elim (All-contains (λ (z : Kept). (z.time < water + 1 - gap) ⊎ (y.time ≤ z.time)) kept w.0 first.first w.1) [ inl s ↦ omega (arith, w.2, e) | inr s ↦ omega (arith, w.2, e) ])
      ]

  no_session : All (λ (x : Kept). x.time < water + 1 - gap) kept → find (λ (j : Instance). nat_lt water j.bound) (sessions gap kept) ≡ None
  no_session early =
      find_none (λ (j : Instance). nat_lt water j.bound) (sessions gap kept)
      (λ j c. let w = last_kept j c in
      let l : (w.0).time < water + 1 - gap = All-contains (λ (x : Kept). x.time < water + 1 - gap) kept w.0 early w.1 in
      let e : j.bound ≡ j.high = All-contains (λ (j : Instance). j.bound ≡ j.high) (sessions gap kept) j (All-map_of (λ (j : Instance). j.bound ≡ j.high) (session gap) (pieces_of (λ x y. nat_le gap (y.time - x.time)) kept) (λ k d l. refl)) c in
      le-ltb water j.bound (omega (arith, w.2, e)))

pub next_of_sessions : (gap : ℕ) (w : Def) (m : Moment) (y : Kept) (i : Instance) → w.kind ≡ Session gap → 1 ≤ gap → TimesDoNotFall m.kept → IsFirstFrom m.kept (m.water + 1 - gap) y → Contains (sessions gap m.kept) i → i.low ≤ y.time → y.time < i.high → first_open m w ≡ i.high
unfolding instances_of
next_of_sessions gap w m y i e some h first c l r =
    let b : i.bound ≡ i.high = All-contains (λ (j : Instance). j.bound ≡ j.high) (sessions gap m.kept) i (All-map_of (λ (j : Instance). j.bound ≡ j.high) (session gap) (pieces_of (λ x y. nat_le gap (y.time - x.time)) m.kept) (λ k d l. refl)) c in
    (λ k. option_map_or (λ (i : Instance). i.bound) (find (λ (i : Instance). nat_lt m.water i.bound) (instances_of (e k) m.kept m.marks)) FINAL)
    ∙ ap (λ (o : Option Instance). option_map_or (λ (i : Instance). i.bound) o FINAL) (find_session gap m.kept m.water some h y i first c l r b)
    ∙ b

pub none_next_of_sessions : (gap : ℕ) (w : Def) (m : Moment) → w.kind ≡ Session gap → 1 ≤ gap → TimesDoNotFall m.kept → All (λ (x : Kept). x.time < m.water + 1 - gap) m.kept → first_open m w ≡ FINAL
unfolding instances_of
none_next_of_sessions gap w m e some h early =
    (λ k. option_map_or (λ (i : Instance). i.bound) (find (λ (i : Instance). nat_lt m.water i.bound) (instances_of (e k) m.kept m.marks)) FINAL)
    ∙ ap (λ (o : Option Instance). option_map_or (λ (i : Instance). i.bound) o FINAL) (no_session gap m.kept m.water some h early)

-- ---- intervals between marks
-- the interval between marks that holds a kept tuple lies between the marks at its sides
pub stretch_span : (marks : List ℕ) (kept : List Kept) (i : Instance) (z : Kept) → z.time < FINAL → Contains kept z → Contains (stretches marks kept) i → i.low ≤ z.time → z.time < i.high → (i.low ≡ last_mark marks z.time) × (i.high ≡ next_mark marks z.time)
stretch_span marks kept i z f d c l r = by (stretches_after_put marks kept z f) (span_of_holder marks kept z f)
  where
    by : (p : IsPutInStretches kept z (stretches marks kept) (stretches marks (put_in_order kept z))) → (p.low ≡ last_mark marks z.time) × (p.high ≡ next_mark marks z.time) → (i.low ≡ last_mark marks z.time) × (i.high ≡ next_mark marks z.time)
    by p s =
        elim (Contains-append_cases p.front (if_selecting p.low p.high kept ++ p.back) i (subst (λ t. Contains t i) p.was c)) [
          | inl g ↦ absurd (let e : i.high ≤ p.low = All-contains (λ (j : Instance). j.high ≤ p.low) p.front i p.end_before g in omega (arith, p.starts))
          | inr g ↦ elim (Contains-append_cases (if_selecting p.low p.high kept) p.back i g) [
            | inl t ↦ (let q = only_interval p.low p.high kept i t in (q.0 ∙ s.0, q.1 ∙ s.1))
            | inr b ↦ absurd (let e : p.high ≤ i.low = All-contains (λ (j : Instance). p.high ≤ j.low) p.back i p.start_behind b in omega (arith, p.ends))
          ]
        ]

max_member : (start : ℕ) (xs : List ℕ) → (fold max start xs ≡ start) ⊎ Contains xs (fold max start xs)
max_member start [] = inl refl
max_member start (x ∷ xs) = elim (max_member (max start x) xs) [
  | inr c ↦ inr (Contains-tail x xs (fold max (max start x) xs) c)
  | inl e ↦ elim (cases_lt start x) [ inl l ↦ inr (subst (Contains (x ∷ xs)) (larger start x l ∙ sym e) (Contains-head x xs)) | inr l ↦ inl (e ∙ smaller start x l) ]
]
  where
    larger : (a b : ℕ) → a < b → b ≡ max a b
    larger a b l = omega arith

    smaller : (a b : ℕ) → b ≤ a → max a b ≡ a
    smaller a b l = omega arith

min_member : (start : ℕ) (xs : List ℕ) → (fold min start xs ≡ start) ⊎ Contains xs (fold min start xs)
min_member start [] = inl refl
min_member start (x ∷ xs) = elim (min_member (min start x) xs) [
  | inr c ↦ inr (Contains-tail x xs (fold min (min start x) xs) c)
  | inl e ↦ elim (cases_lt x start) [ inl l ↦ inr (subst (Contains (x ∷ xs)) (smaller start x l ∙ sym e) (Contains-head x xs)) | inr l ↦ inl (e ∙ larger start x l) ]
]
  where
    smaller : (a b : ℕ) → b < a → b ≡ min a b
    smaller a b l = omega arith

    larger : (a b : ℕ) → a ≤ b → min a b ≡ a
    larger a b l = omega arith

module _ (marks : List ℕ) (kept : List Kept) (water : ℕ) (a : AreKept kept) where
  -- a tuple in an interval that isn't complete lies at or after the last mark
  from_last : (j : Instance) (z : Kept) → Contains (stretches marks kept) j → Contains kept z → j.low ≤ z.time → z.time < j.high → water < j.high → last_mark marks water ≤ z.time
  from_last j z c d l r n = elim (cases_lt z.time (last_mark marks water)) [
    | inr s ↦ s
    | inl s ↦ absurd (elim (max_member 0 (filter (λ mark. nat_le mark water) marks)) [
      | inl e ↦ no_less s e
      | inr k ↦ (let m : Contains marks (last_mark marks water) × (nat_le (last_mark marks water) water ≡ true) = filter_members (λ mark. nat_le mark water) marks (last_mark marks water) k in
          let g : last_mark marks water ≤ water = leb-true (last_mark marks water) water m.1 in
          let span = stretch_span marks kept j z (All-contains (λ (z : Kept). z.time < FINAL) kept z a.early d) d c l r in
          let t : next_mark marks z.time ≤ last_mark marks water = least_of FINAL (filter (λ mark. nat_lt z.time mark) marks) (last_mark marks water) (filter_has (λ mark. nat_lt z.time mark) marks (last_mark marks water) m.0 (lt-ltb z.time (last_mark marks water) s)) in
          too_late g t span.1 n)
    ])
  ]
    where
      no_less : {x y : ℕ} → x < y → y ≡ 0 → ⊥
      no_less l e = omega arith

      too_late : {e w n h : ℕ} → e ≤ w → n ≤ e → h ≡ n → w < h → ⊥
      too_late x y z u = omega arith

  -- each interval between marks selects a tuple
  has_tuple : (j : Instance) → Contains (stretches marks kept) j → (z : Kept) × Contains kept z × (j.low ≤ z.time) × (z.time < j.high)
  unfolding instances_of
  has_tuple j c =
      let full : 1 ≤ length j.chosen = All-contains (λ (j : Instance). 1 ≤ length j.chosen) (stretches marks kept) j (instances_select Marks kept marks tt) c in
      let same : j.chosen ≡ within j.low j.high kept = All-contains (λ (j : Instance). j.chosen ≡ within j.low j.high kept) (stretches marks kept) j (spans_hold_selections Marks kept marks tt refl a.in_order) c in
      by j.chosen full same
    where
      by : (ys : List Kept) → 1 ≤ length ys → ys ≡ within j.low j.high kept → (z : Kept) × Contains kept z × (j.low ≤ z.time) × (z.time < j.high)
      by [] l e = absurd (omega arith)
      by (z ∷ zs) l e =
          let m : Contains kept z × (is_within j.low j.high z ≡ true) = filter_members (is_within j.low j.high) kept z (subst (λ l. Contains l z) e (Contains-head z zs)) in
          let p : (nat_le j.low z.time ≡ true) × (nat_lt z.time j.high ≡ true) = and_parts (nat_le j.low z.time) (nat_lt z.time j.high) m.1 in
          (z, m.0, leb-true j.low z.time p.0, ltb-true z.time j.high p.1)

  bounds_so : All (λ (j : Instance). j.bound ≡ j.high) (stretches marks kept)
  unfolding instances_of
  bounds_so = bounds_are_ends Marks kept marks refl

  find_stretch : (y : Kept) → IsFirstFrom kept (last_mark marks water) y → water < FINAL → (p : IsPutInStretches kept y (stretches marks kept) (stretches marks (put_in_order kept y))) → (p.low ≡ last_mark marks y.time) × (p.high ≡ next_mark marks y.time) → find (λ (j : Instance). nat_lt water j.bound) (stretches marks kept) ≡ Some (interval p.low p.high kept)
  find_stretch y first final p s =
      let one = interval p.low p.high kept in
      let sel : is_selecting one ≡ true = some_of_member (is_within p.low p.high) kept y first.member (inside_span p.low p.high y p.starts p.ends) in
      ap (find (λ (j : Instance). nat_lt water j.bound)) (p.was ∙ ap (λ b. p.front ++ (cond b (one ∷ []) [] ++ p.back)) sel)
      ∙ find_behind (λ (j : Instance). nat_lt water j.bound) p.front one p.back
      (All_from_members (λ (j : Instance). nat_lt water j.bound ≡ false) p.front
      (λ j d. let g : Contains (stretches marks kept) j = subst (λ l. Contains l j) (sym p.was) (Contains-append_left p.front (if_selecting p.low p.high kept ++ p.back) j d) in
      let e : j.bound ≡ j.high = All-contains (λ (j : Instance). j.bound ≡ j.high) (stretches marks kept) j bounds_so g in
      le-ltb water j.bound (elim (cases_lt water j.bound) [ inr n ↦ n | inl n ↦ absurd (closed j g (omega (arith, e)) (All-contains (λ (j : Instance). j.high ≤ p.low) p.front j p.end_before d) (has_tuple j g)) ])))
      (lt-ltb water p.high (elim (cases_lt water p.high) [ inl n ↦ n | inr n ↦ absurd (open_one n (min_member FINAL (filter (λ mark. nat_lt y.time mark) marks))) ]))
    where
      closed : (j : Instance) → Contains (stretches marks kept) j → water < j.high → j.high ≤ p.low → (z : Kept) × Contains kept z × (j.low ≤ z.time) × (z.time < j.high) → ⊥
      closed j g n le z =
          let f : last_mark marks water ≤ (z.0).time = from_last j z.0 g z.1 z.2 z.3 n in
          elim (All-contains (λ (z : Kept). (z.time < last_mark marks water) ⊎ (y.time ≤ z.time)) kept z.0 first.first z.1) [ inl t ↦ clash t f | inr t ↦ omega (arith, z.3, p.starts) ]
        where
          clash : {x y : ℕ} → x < y → y ≤ x → ⊥
          clash l r = omega arith

      open_one : p.high ≤ water → (next_mark marks y.time ≡ FINAL) ⊎ Contains (filter (λ mark. nat_lt y.time mark) marks) (next_mark marks y.time) → ⊥
      open_one n (inl e) = beyond (s.1 ∙ e) n final
        where
          beyond : {h f w : ℕ} → h ≡ f → h ≤ w → w < f → ⊥
          beyond x y z = omega arith
      open_one n (inr c) =
          let m : Contains marks (next_mark marks y.time) × (nat_lt y.time (next_mark marks y.time) ≡ true) = filter_members (λ mark. nat_lt y.time mark) marks (next_mark marks y.time) c in
          let l : y.time < next_mark marks y.time = ltb-true y.time (next_mark marks y.time) m.1 in
          let le : next_mark marks y.time ≤ water = subst (λ t. t ≤ water) s.1 n in
          let g : next_mark marks y.time ≤ last_mark marks water = most_of 0 (filter (λ mark. nat_le mark water) marks) (next_mark marks y.time) (filter_has (λ mark. nat_le mark water) marks (next_mark marks y.time) m.0 (le-leb (next_mark marks y.time) water le)) in
          around l g first.after
        where
          around : {y n e : ℕ} → y < n → n ≤ e → e ≤ y → ⊥
          around a b c = omega arith

  no_stretch_open : All (λ (x : Kept). x.time < last_mark marks water) kept → find (λ (j : Instance). nat_lt water j.bound) (stretches marks kept) ≡ None
  no_stretch_open early =
      find_none (λ (j : Instance). nat_lt water j.bound) (stretches marks kept)
      (λ j c. let e : j.bound ≡ j.high = All-contains (λ (j : Instance). j.bound ≡ j.high) (stretches marks kept) j bounds_so c in
      le-ltb water j.bound (elim (cases_lt water j.bound) [ inr n ↦ n | inl n ↦ absurd (closed j c (omega (arith, e)) (has_tuple j c)) ]))
    where
      closed : (j : Instance) → Contains (stretches marks kept) j → water < j.high → (z : Kept) × Contains kept z × (j.low ≤ z.time) × (z.time < j.high) → ⊥
      closed j g n z =
          let f : last_mark marks water ≤ (z.0).time = from_last j z.0 g z.1 z.2 z.3 n in
          clash (All-contains (λ (x : Kept). x.time < last_mark marks water) kept z.0 early z.1) f
        where
          clash : {x y : ℕ} → x < y → y ≤ x → ⊥
          clash l r = omega arith

pub next_of_marks : (w : Def) (m : Moment) (y : Kept) → w.kind ≡ Marks → AreKept m.kept → m.water < FINAL → IsFirstFrom m.kept (last_mark m.marks m.water) y → first_open m w ≡ next_mark m.marks y.time
unfolding instances_of
next_of_marks w m y e a final first =
    let f : y.time < FINAL = All-contains (λ (z : Kept). z.time < FINAL) m.kept y a.early first.member in
    (λ k. option_map_or (λ (i : Instance). i.bound) (find (λ (i : Instance). nat_lt m.water i.bound) (instances_of (e k) m.kept m.marks)) FINAL)
    ∙ ap (λ (o : Option Instance). option_map_or (λ (i : Instance). i.bound) o FINAL) (find_stretch m.marks m.kept m.water a y first final (stretches_after_put m.marks m.kept y f) (span_of_holder m.marks m.kept y f))
    ∙ (span_of_holder m.marks m.kept y f).1

pub none_next_of_marks : (w : Def) (m : Moment) → w.kind ≡ Marks → AreKept m.kept → All (λ (x : Kept). x.time < last_mark m.marks m.water) m.kept → first_open m w ≡ FINAL
unfolding instances_of
none_next_of_marks w m e a early =
    (λ k. option_map_or (λ (i : Instance). i.bound) (find (λ (i : Instance). nat_lt m.water i.bound) (instances_of (e k) m.kept m.marks)) FINAL)
    ∙ ap (λ (o : Option Instance). option_map_or (λ (i : Instance). i.bound) o FINAL) (no_stretch_open m.marks m.kept m.water a early)
