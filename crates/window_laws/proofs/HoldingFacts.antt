-- The instances that hold a time, and their edges, by the lists that each kind of window makes of them.
use Rattle.std.proofs.Common.{◌≡◌, ◌∙◌, ℕ, ◌+◌, ◌-◌, ◌*◌, ◌/◌, ◌%◌, ◌<◌, ◌≤◌, true, List, [], ◌∷◌, ◌++◌, length, ap, sym, refl, subst, arith, inl, inr, map}
use Rattle.std.specs.Prelude.{◌⊎◌, nat_le, nat_lt}
use Rattle.stream_base.specs.Kinds.{HasBound}
use Rattle.std.specs.List.{Any, All, Contains, flat_map}
use Rattle.std.proofs.lemmas.Bool.{and_parts, leb-true, ltb-true}
use Rattle.std.proofs.lemmas.List.Elements.{All-contains, Contains-append_right, All-head, All-cons, All-nil, All-weaker, Contains-append_cases, Contains-append_left}
use Rattle.std.proofs.lemmas.Nat.{div-add-mod'}
use Rattle.std.proofs.Math.Nat.{mod-lt}
use Rattle.stream_base.specs.declared.kept.Kept.{Kept}
use Rattle.stream_base.specs.declared.limits.TheConstants.{FINAL}
use Rattle.stream_base.specs.Laws.{TimesDoNotFall}
use Rattle.stream_base.specs.Model.Windows.{between_times, Instance, first_time, interval, is_within, last_time, pieces_of, session, sessions, spans, starts_of, within, is_selecting, stretches}
use Rattle.stream_base.proofs.Members.{filter_has, filter_members, flat_map_members, map_has, flat_map_has, map_members, Contains-insert_old}
use Rattle.stream_base.proofs.Pieces.{pieces_joined}
use Rattle.stream_base.specs.Model.Journal.{rising}
use Rattle.stream_base.proofs.Rising.{nat_rising_is_sorted, Contains-from_rising, Contains-cons_cases, Contains-head, Contains-tail, none_in_nil}
use Rattle.stream_base.proofs.Spans.{starts_of_has, starts_of_members}
use Rattle.slice_lists.specs.Runs.{IsRun, AreParted}
use Rattle.window_laws.proofs.InstanceFacts.{between_ends, gap_cut, inside_span, session_far, session_near, session_runs, sessions_select}
use Rattle.slice_lists.proofs.Order.{IsApart, IsNear, run_spans, runs_are_runs, All-map_of, All-split, runs_behind}
use Rattle.std.specs.Ordering.{nat_cmp}
use Rattle.stream_base.specs.Model.Journal.{put_in_order}
use Rattle.window_laws.specs.Sessions.{IsPutInSessions, joined_session}
use Rattle.window_laws.specs.Stretches.{if_selecting}
use Rattle.window_laws.proofs.LateFacts.{some_of_member}
use Rattle.window_laws.proofs.SessionFacts.{put_times, sessions_after_put, session_sides}

-- ---- each kept tuple is held by an instance
-- the last interval of a tumbling or sliding window that holds a kept tuple
pub span_at : (length slide : ℕ) (moves : 1 ≤ slide) (overlaps : slide ≤ length) (kept : List Kept) (x : Kept) → Contains kept x
    → (i : Instance) × Contains (spans length slide kept) i × (i.low ≤ x.time) × (x.time < i.high) × (i.high ≡ x.time / slide * slide + length)
span_at length slide moves overlaps kept x c =
    let k = x.time / slide in
    let whole : k * slide + x.time % slide ≡ x.time = div-add-mod' x.time slide in
    let part : x.time % slide < slide = mod-lt x.time moves in
    let low : k * slide ≤ x.time = omega (arith, whole) in
    let high : x.time < k * slide + length = omega (arith, whole, part) in
    (interval (k * slide) (k * slide + length) kept, map_has (λ low. interval low (low + length) kept) (starts_of length slide kept) (k * slide) (starts_of_has length slide moves overlaps kept x k c low high), low, high, refl)

pub span_holding : (length slide : ℕ) → 1 ≤ slide → slide ≤ length → (kept : List Kept) (x : Kept) → Contains kept x → (i : Instance) × Contains (spans length slide kept) i × (i.low ≤ x.time) × (x.time < i.high)
span_holding length slide moves overlaps kept x c = let s = span_at length slide moves overlaps kept x c in (s.0, s.1, s.2, s.3)

pub session_holding : (gap : ℕ) (kept : List Kept) (x : Kept) → 1 ≤ gap → TimesDoNotFall kept → Contains kept x → (i : Instance) × Contains (sessions gap kept) i × (i.low ≤ x.time) × (x.time < i.high)
session_holding gap kept x some h c =
    let runs : List (List Kept) = pieces_of (λ x y. nat_le gap (y.time - x.time)) kept in
    let m : (run : List Kept) × Contains runs run × Contains run x = flat_map_members (λ run. run) runs x (subst (λ l. Contains l x) (sym (pieces_joined (λ x y. nat_le gap (y.time - x.time)) kept)) c) in
    let r : IsRun (IsNear (gap_cut gap)) m.0 = All-contains (IsRun (IsNear (gap_cut gap))) runs m.0 (runs_are_runs (IsNear (gap_cut gap)) (IsApart (gap_cut gap)) gap (session_near gap) (λ a b. session_far gap a b some) runs (session_runs gap kept h)) m.1 in
    let s = All-contains (λ (z : Kept). (first_time m.0 ≤ z.time) × (z.time ≤ last_time m.0)) m.0 x (run_spans (IsNear (gap_cut gap)) (IsApart (gap_cut gap)) gap (session_near gap) (λ a b. session_far gap a b some) m.0 r).0 m.2 in
    (session gap m.0, map_has (session gap) runs m.0 m.1, s.0, omega (arith, s.1))

-- ---- an interval of one list is one of another, with a tuple in it
pub span_low : (length slide : ℕ) (kept : List Kept) (i : Instance) → 1 ≤ slide → slide ≤ length → Contains (spans length slide kept) i → (k : ℕ) × (i.low ≡ k * slide) × (i.high ≡ k * slide + length)
span_low length slide kept i moves overlaps c =
    let m : (low : ℕ) × Contains (starts_of length slide kept) low × (interval low (low + length) kept ≡ i) = map_members (λ low. interval low (low + length) kept) (starts_of length slide kept) i c in
    let s = starts_of_members length slide moves overlaps kept m.0 m.1 in
    (s.0, sym (ap (λ (j : Instance). j.low) m.2) ∙ s.3, sym (ap (λ (j : Instance). j.high) m.2) ∙ ap (λ n. n + length) s.3)

-- of an interval of one list, the other list has one of the same span, where it has a tuple in it
pub span_of_other : (length slide : ℕ) (kept other : List Kept) (i : Instance) (z : Kept) → 1 ≤ slide → slide ≤ length → Contains (spans length slide kept) i → Contains other z → i.low ≤ z.time → z.time < i.high → (j : Instance) × Contains (spans length slide other) j × (j.low ≡ i.low) × (j.high ≡ i.high)
span_of_other length slide kept other i z moves overlaps c d l h =
    let s = span_low length slide kept i moves overlaps c in (
      interval (s.0 * slide) (s.0 * slide + length) other,
      map_has (λ low. interval low (low + length) other) (starts_of length slide other) (s.0 * slide) (starts_of_has length slide moves overlaps other z s.0 d (omega (arith, s.1)) (omega (arith, s.2))),
      sym s.1,
      sym s.2,
    )

pub only_interval : (low high : ℕ) (kept : List Kept) (i : Instance) → Contains (if_selecting low high kept) i → (i.low ≡ low) × (i.high ≡ high)
only_interval low high kept i c =
    let m : Contains (interval low high kept ∷ []) i × (is_selecting i ≡ true) = filter_members is_selecting (interval low high kept ∷ []) i c in
    elim (Contains-cons_cases (interval low high kept) [] i m.0) [ inl e ↦ (sym (ap (λ (j : Instance). j.low) e), sym (ap (λ (j : Instance). j.high) e)) | inr d ↦ absurd (none_in_nil i d) ]

pub has_interval : (low high : ℕ) (kept : List Kept) (z : Kept) → Contains kept z → low ≤ z.time → z.time < high → Contains (if_selecting low high kept) (interval low high kept)
has_interval low high kept z c l h = filter_has is_selecting (interval low high kept ∷ []) (interval low high kept) (Contains-head (interval low high kept) []) (some_of_member (is_within low high) kept z c (inside_span low high z l h))

-- ---- sessions lie one behind another
pub sessions_apart : (gap : ℕ) (runs : List (List Kept)) → 1 ≤ gap → AreParted (IsNear (gap_cut gap)) (IsApart (gap_cut gap)) runs → (front : List Instance) (i : Instance) (back : List Instance) → map (session gap) runs ≡ front ++ i ∷ back → All (λ (j : Instance). j.high ≤ i.low) front
sessions_apart gap [] some a front i back e = All-nil_from front e
  where
    All-nil_from : (front : List Instance) → [] ≡ front ++ i ∷ back → All (λ (j : Instance). j.high ≤ i.low) front
    All-nil_from [] e = All-nil (λ (j : Instance). j.high ≤ i.low)
    All-nil_from (j ∷ front) e = cc
sessions_apart gap (run ∷ runs) some a [] i back e = All-nil (λ (j : Instance). j.high ≤ i.low)
sessions_apart gap (run ∷ runs) some a (j ∷ front) i back e =
    let first : session gap run ≡ j = cc in
    let rest : map (session gap) runs ≡ front ++ i ∷ back = cc in
    let behind : All (λ (k : Instance). last_time run + gap ≤ k.low) (map (session gap) runs) = All-map_of (λ (k : Instance). last_time run + gap ≤ k.low) (session gap) runs (All-weaker (λ r. (last_time run + gap ≤ first_time r) × (first_time r ≤ last_time r)) (λ r. last_time run + gap ≤ first_time r) (λ r h. h.0) runs (runs_behind (IsNear (gap_cut gap)) (IsApart (gap_cut gap)) gap (session_near gap) (λ a b. session_far gap a b some) run runs a)) in
    let here : last_time run + gap ≤ i.low = All-head (λ (k : Instance). last_time run + gap ≤ k.low) i back (All-split (λ (k : Instance). last_time run + gap ≤ k.low) front (i ∷ back) (subst (All (λ (k : Instance). last_time run + gap ≤ k.low)) rest behind)).1 in
    All-cons (λ (j : Instance). j.high ≤ i.low) j front (subst (λ (k : Instance). k.high ≤ i.low) first here) (sessions_apart gap runs some a.2 front i back rest)

pub last_member : (run : List Kept) → 1 ≤ length run → (w : Kept) × Contains run w × (w.time ≡ last_time run)
last_member [] l = absurd (omega arith)
last_member (x ∷ []) l = (x, Contains-head x [], refl)
last_member (x ∷ y ∷ ys) l = let h = last_member (y ∷ ys) (omega arith) in (h.0, Contains-tail x (y ∷ ys) h.0 h.1, h.2)

-- the last tuple of a session, and that a session starts at or before it ends
pub session_last : (gap : ℕ) (kept : List Kept) (i : Instance) → 1 ≤ gap → TimesDoNotFall kept → Contains (sessions gap kept) i → (w : Kept) × Contains i.chosen w × (w.time + gap ≡ i.high) × (i.low ≤ i.high)
session_last gap kept i some h c =
    let runs : List (List Kept) = pieces_of (λ x y. nat_le gap (y.time - x.time)) kept in
    let m : (run : List Kept) × Contains runs run × (session gap run ≡ i) = map_members (session gap) runs i c in
    let r : IsRun (IsNear (gap_cut gap)) m.0 = All-contains (IsRun (IsNear (gap_cut gap))) runs m.0 (runs_are_runs (IsNear (gap_cut gap)) (IsApart (gap_cut gap)) gap (session_near gap) (λ a b. session_far gap a b some) runs (session_runs gap kept h)) m.1 in
    let s = (run_spans (IsNear (gap_cut gap)) (IsApart (gap_cut gap)) gap (session_near gap) (λ a b. session_far gap a b some) m.0 r).1 in
    let w = last_member m.0 (full m.0 r) in
    let same : last_time m.0 + gap ≡ i.high = ap (λ (j : Instance). j.high) m.2 in
    (w.0, subst (λ (j : Instance). Contains j.chosen w.0) m.2 w.1, ap (λ n. n + gap) w.2 ∙ same, subst (λ (j : Instance). j.low ≤ j.high) m.2 (omega (arith, s)))
  where
    full : (run : List Kept) → IsRun (IsNear (gap_cut gap)) run → 1 ≤ length run
    full [] r = absurd r
    full (x ∷ xs) r = omega arith

-- ---- sessions after a put: those that end at or before the tuple stay, and the others end no earlier
module _ (gap : ℕ) (kept : List Kept) (y : Kept) (some : 1 ≤ gap) (h : TimesDoNotFall kept) where
  abbrev pub put : List Kept
  put = put_in_order kept y

  pub p : IsPutInSessions gap y (sessions gap kept) (sessions gap (put_in_order kept y))
  p = sessions_after_put gap kept y some h

  abbrev pub one : Instance
  one = joined_session gap p.near y

  pub one_new : Contains (sessions gap (put_in_order kept y)) one
  one_new = subst (λ l. Contains l one) (sym p.is) (Contains-append_right p.front (one ∷ p.back) one (Contains-head one p.back))

  pub one_selects : one.chosen ≡ within one.low one.high (put_in_order kept y)
  one_selects = All-contains (λ (i : Instance). i.chosen ≡ within i.low i.high (put_in_order kept y)) (sessions gap (put_in_order kept y)) one (sessions_select gap (put_in_order kept y) some (put_times kept y h)) one_new

  pub chosen_held : (w : Kept) → Contains one.chosen w → Contains (put_in_order kept y) w × (one.low ≤ w.time) × (w.time < one.high)
  chosen_held w c =
      let m : Contains (put_in_order kept y) w × (is_within one.low one.high w ≡ true) = filter_members (is_within one.low one.high) (put_in_order kept y) w (subst (λ l. Contains l w) one_selects c) in
      let q : (nat_le one.low w.time ≡ true) × (nat_lt w.time one.high ≡ true) = and_parts (nat_le one.low w.time) (nat_lt w.time one.high) m.1 in
      (m.0, leb-true one.low w.time q.0, ltb-true w.time one.high q.1)

  -- the joined session selects what a session near it did, and ends no earlier
  pub near_in_one : (i : Instance) → Contains p.near i → (w : Kept) → Contains i.chosen w → Contains one.chosen w
  near_in_one i c w d = let g : Contains (put_in_order (flat_map (λ (i : Instance). i.chosen) p.near) y) w = Contains-insert_old (flat_map (λ (i : Instance). i.chosen) p.near) _ y w (flat_map_has (λ (i : Instance). i.chosen) p.near i w c d) in g

  pub near_old : (i : Instance) → Contains p.near i → Contains (sessions gap kept) i
  near_old i c = subst (λ l. Contains l i) (sym p.was) (Contains-append_right p.front (p.near ++ p.back) i (Contains-append_left p.near p.back i c))

  pub one_ends_later : (i : Instance) → Contains p.near i → i.high ≤ one.high
  one_ends_later i c =
      let w = session_last gap kept i some h (near_old i c) in
      let e = chosen_held w.0 (near_in_one i c w.0 w.1) in
      elim (session_sides gap (put_in_order kept y) one some (put_times kept y h) one_new w.0 e.0) [
        | inl s ↦ absurd (omega (arith, e.1))
        | inr s ↦ elim s [ inl u ↦ omega (arith, u.1, w.2) | inr u ↦ absurd (omega (arith, e.2)) ]
      ]

  -- a session that holds a kept tuple is held by one that ends no earlier
  pub session_grows : (i : Instance) (z : Kept) → Contains (sessions gap kept) i → Contains kept z → i.low ≤ z.time → z.time < i.high → (j : Instance) × Contains (sessions gap (put_in_order kept y)) j × (j.low ≤ z.time) × (z.time < j.high) × (i.high ≤ j.high)
  session_grows i z c d l r =
      elim (Contains-append_cases p.front (p.near ++ p.back) i (subst (λ s. Contains s i) p.was c)) [
        | inl f ↦ (i, subst (λ s. Contains s i) (sym p.is) (Contains-append_left p.front (one ∷ p.back) i f), l, r, omega arith)
        | inr f ↦ elim (Contains-append_cases p.near p.back i f) [
          | inl n ↦ (let s : Contains i.chosen z = subst (λ ys. Contains ys z) (sym (All-contains (λ (i : Instance). i.chosen ≡ within i.low i.high kept) (sessions gap kept) i (sessions_select gap kept some h) c)) (filter_has (is_within i.low i.high) kept z d (inside_span i.low i.high z l r)) in
              let e = chosen_held z (near_in_one i n z s) in
              (one, one_new, e.1, e.2, one_ends_later i n))
          | inr b ↦ (i, subst (λ s. Contains s i) (sym p.is) (Contains-append_right p.front (one ∷ p.back) i (Contains-tail one p.back i b)), l, r, omega arith)
        ]
      ]

  pub fronts_end : All (λ (j : Instance). j.high ≤ one.low) p.front
  fronts_end = sessions_apart gap (pieces_of (λ x y. nat_le gap (y.time - x.time)) (put_in_order kept y)) some (session_runs gap (put_in_order kept y) (put_times kept y h)) p.front one p.back p.is

  -- a session that ended by the tuple holds nothing that the joined one holds
  pub not_joined : (z : Kept) → one.low ≤ z.time → (j : Instance) → Contains (sessions gap kept) j → z.time < j.high → j.high ≤ y.time → ⊥
  not_joined z l j c r le =
      elim (Contains-append_cases p.front (p.near ++ p.back) j (subst (λ s. Contains s j) p.was c)) [
        | inl f ↦ (let e : j.high ≤ one.low = All-contains (λ (j : Instance). j.high ≤ one.low) p.front j fronts_end f in omega arith)
        | inr f ↦ elim (Contains-append_cases p.near p.back j f) [
          | inl n ↦ (let e : y.time < j.high = All-contains (λ (j : Instance). y.time < j.high) p.near j p.end_near n in omega arith)
          | inr b ↦ (let e : y.time + gap ≤ j.low = All-contains (λ (j : Instance). y.time + gap ≤ j.low) p.back j p.start_behind b in let w = session_last gap kept j some h c in omega (arith, w.3))
        ]
      ]

  -- of a session that ended by the tuple, the one that now holds its tuple is the same
  pub session_stays : (i : Instance) (z : Kept) → Contains (sessions gap (put_in_order kept y)) i → i.low ≤ z.time → (j : Instance) → Contains (sessions gap kept) j → z.time < j.high → j.high ≤ y.time → Contains (sessions gap kept) i
  session_stays i z c l j jc r le =
      elim (Contains-append_cases p.front (one ∷ p.back) i (subst (λ s. Contains s i) p.is c)) [
        | inl f ↦ subst (λ s. Contains s i) (sym p.was) (Contains-append_left p.front (p.near ++ p.back) i f)
        | inr f ↦ elim (Contains-cons_cases one p.back i f) [
          | inl e ↦ absurd (not_joined z (subst (λ (k : Instance). k.low ≤ z.time) (sym e) l) j jc r le)
          | inr b ↦ subst (λ s. Contains s i) (sym p.was) (Contains-append_right p.front (p.near ++ p.back) i (Contains-append_right p.near p.back i b))
        ]
      ]

-- ---- the edges of an instance, with a tuple at each side
pub span_edge : (length slide : ℕ) (kept : List Kept) (i : Instance) (t low high : ℕ) → 1 ≤ slide → slide ≤ length → Contains (spans length slide kept) i → (t ≡ i.low) ⊎ (t ≡ i.high) → low < t → t ≤ high → HasBound length slide low high
span_edge length slide kept i t low high moves overlaps c at l r =
    let s = span_low length slide kept i moves overlaps c in
    (s.0, elim at [ inl e ↦ inl (omega (arith, e, s.1), omega (arith, e, s.1)) | inr e ↦ inr (omega (arith, e, s.2), omega (arith, e, s.2)) ])

pub session_edge : (gap : ℕ) (kept : List Kept) (i : Instance) (t : ℕ) (a b : Kept) → 1 ≤ gap → TimesDoNotFall kept → Contains (sessions gap kept) i → (t ≡ i.low) ⊎ (t ≡ i.high) → Contains kept a → a.time < t → t ≤ b.time → gap ≤ b.time - a.time
session_edge gap kept i t a b some h c at d l r =
    let w = session_last gap kept i some h c in
    elim (session_sides gap kept i some h c a d) [
      | inl s ↦ elim at [ inl e ↦ omega (arith, e) | inr e ↦ omega (arith, e, w.3) ]
      | inr s ↦ elim s [
        | inl u ↦ elim at [ inl e ↦ absurd (omega (arith, e, u.0)) | inr e ↦ omega (arith, e, u.1) ]
        | inr u ↦ absurd (elim at [ inl e ↦ omega (arith, e, w.3) | inr e ↦ omega (arith, e) ])
      ]
    ]

mark_between : (marks : List ℕ) (kept : List Kept) (early : All (λ (z : Kept). z.time < FINAL) kept) (t : ℕ) (a b : Kept) → Contains kept b → a.time < t → t ≤ b.time → Contains (rising nat_cmp (0 ∷ marks ++ FINAL ∷ [])) t → Any (λ m. (a.time < m) × (m ≤ b.time)) marks
mark_between marks kept early t a b d l r c =
    elim (Contains-cons_cases 0 (marks ++ FINAL ∷ []) t (Contains-from_rising nat_cmp (0 ∷ marks ++ FINAL ∷ []) t c)) [
      | inl e ↦ absurd (omega arith)
      | inr e ↦ elim (Contains-append_cases marks (FINAL ∷ []) t e) [
        | inl m ↦ (m.0, t, m.1, m.2, (l, r))
        | inr f ↦ elim (Contains-cons_cases FINAL [] t f) [
          | inl g ↦ absurd (let z : b.time < FINAL = All-contains (λ (z : Kept). z.time < FINAL) kept b early d in let y : FINAL ≤ b.time = subst (λ n. n ≤ b.time) (sym g) r in omega arith)
          | inr g ↦ absurd (none_in_nil t g)
        ]
      ]
    ]

pub stretch_edge : (marks : List ℕ) (kept : List Kept) (i : Instance) (t : ℕ) (a b : Kept) → All (λ (z : Kept). z.time < FINAL) kept → Contains (stretches marks kept) i → (t ≡ i.low) ⊎ (t ≡ i.high) → Contains kept b → a.time < t → t ≤ b.time → Any (λ m. (a.time < m) × (m ≤ b.time)) marks
stretch_edge marks kept i t a b early c at f l r =
    let edges = rising nat_cmp (0 ∷ marks ++ FINAL ∷ []) in
    let m : Contains (between_times edges kept) i × (is_selecting i ≡ true) = filter_members is_selecting (between_times edges kept) i c in
    let g = All-contains (λ (i : Instance). (i.low < i.high) × (i.bound ≡ i.high) × (i.chosen ≡ within i.low i.high kept) × Contains edges i.low × Contains edges i.high) (between_times edges kept) i (between_ends edges kept (nat_rising_is_sorted (0 ∷ marks ++ FINAL ∷ []))) m.0 in
    mark_between marks kept early t a b f l r (elim at [ inl z ↦ subst (Contains edges) (sym z) g.3 | inr z ↦ subst (Contains edges) (sym z) g.4 ])
