-- The starts and ends of a window's instances cut between the tuples at their sides, so an instance selects whole slices.
use Rattle.std.proofs.Common.{◌≡◌, ◌∙◌, ℕ, ◌+◌, ◌*◌, ◌<◌, ◌≤◌, Bool, true, false, cond, List, [], ◌∷◌, ◌++◌, get_or, ap, sym, refl, subst, arith, inl, inr}
use Rattle.std.specs.Prelude.{◌⊎◌, ◌&&◌, nat_le, nat_lt}
use Rattle.std.specs.List.{All, Contains, flat_map}
use Rattle.std.proofs.lemmas.Bool.{and_from, and_left, and_right, cases_lt, false≢true, le-leb, le-ltb, lt-leb, lt-ltb}
use Rattle.std.proofs.lemmas.Grind.{flat_map-append}
use Rattle.std.proofs.lemmas.List.Elements.{All-append, All-contains, All-head, All-tail, All-weaker, Contains-append_right, filter-append}
use Rattle.stream_base.specs.declared.def.Def.{Def}
use Rattle.stream_base.specs.declared.kept.Kept.{Kept}
use Rattle.stream_base.specs.declared.limits.TheConstants.{FINAL}
use Rattle.stream_base.specs.Laws.{TimesDoNotFall}
use Rattle.stream_base.specs.Kinds.{CutsBetween, IsKindWithin, is_events, is_timed, length_of, slide_of}
use Rattle.stream_base.specs.Model.Cuts.{has_cut}
use Rattle.stream_base.specs.Model.Slices.{runs_of}
use Rattle.stream_base.specs.Model.Windows.{Instance, first_time, instances_of, is_within, last_time, within}
use Rattle.stream_base.proofs.CutFacts.{cut_decides}
use Rattle.stream_base.proofs.KindFacts.{timed_cuts}
use Rattle.stream_base.proofs.Distinct.{All_from_members}
use Rattle.stream_base.proofs.Members.{flat_map_has}
use Rattle.stream_base.proofs.Pieces.{pieces_joined}
use Rattle.stream_base.proofs.Rising.{Contains-head, Contains-tail}
use Rattle.slice_lists.specs.Runs.{AreParted, IsAligned, IsRun, runs_within}
use Rattle.window_laws.specs.Walk.{IsFirstFrom}
use Rattle.window_laws.proofs.InstanceFacts.{All-joined, above_span, below_span, inside_span}
use Rattle.window_laws.proofs.KindFacts.{edge_cuts, spans_hold_selections}
use Rattle.stream_base.proofs.Filters.{filter_all, filter_none}
use Rattle.slice_lists.proofs.Order.{All-split, IsApart, IsNear, pieces_in_order, run_spans, runs_are_runs, runs_behind}

-- ---- edges cut
-- so has the key a cut at the edge of an instance
module _ (kept : List Kept) (marks : List ℕ) (h : TimesDoNotFall kept) (early : All (λ (z : Kept). z.time < FINAL) kept) where
  pub edge_is_cut : (windows : List Def) (def : Def) (i : Instance) → All (λ w. IsKindWithin w.kind) windows → Contains windows def → is_events def.kind ≡ false → Contains (instances_of def.kind kept marks) i → (t : ℕ) → (t ≡ i.low) ⊎ (t ≡ i.high) → (a b : Kept) → Contains kept a → Contains kept b → a.time < t → t ≤ b.time → has_cut windows marks a.time b.time ≡ true
  edge_is_cut windows def i within c e d t at a b f g l r =
      (cut_decides windows marks a.time b.time within).1
      (elim (edge_cuts kept marks h early def.kind i (All-contains (λ w. IsKindWithin w.kind) windows def within c) e d t at a b f g l r) [ inl u ↦ inl (c.0, def, c.1, c.2, u) | inr u ↦ inr u ])

-- ---- whole slices
-- a run has no two tuples with a cut point between them
crossing : (cut : ℕ → ℕ → Bool) (t : ℕ) (run : List Kept) → IsRun (IsNear cut) run → ((a b : Kept) → Contains run a → Contains run b → a.time < t → t ≤ b.time → cut a.time b.time ≡ true) → first_time run < t → t ≤ last_time run → ⊥
crossing cut t [] r cuts l h = absurd r
crossing cut t (x ∷ []) r cuts l h = absurd (omega arith)
crossing cut t (x ∷ y ∷ ys) r cuts l h =
    elim (cases_lt y.time t) [
      | inl e ↦ crossing cut t (y ∷ ys) r.1 (λ a b c d. cuts a b (Contains-tail x (y ∷ ys) a c) (Contains-tail x (y ∷ ys) b d)) e h
      | inr e ↦ absurd (false≢true (sym r.0.1 ∙ cuts x y (Contains-head x (y ∷ ys)) (Contains-tail x (y ∷ ys) y (Contains-head y ys)) l e))
    ]

pub aligned : (windows : List Def) (marks : List ℕ) (kept : List Kept) → TimesDoNotFall kept → (t : ℕ) → ((a b : Kept) → Contains kept a → Contains kept b → a.time < t → t ≤ b.time → has_cut windows marks a.time b.time ≡ true) → IsAligned (runs_of windows marks kept) t
aligned windows marks kept h t cuts = All_from_members (λ run. (last_time run < t) ⊎ (t ≤ first_time run)) runs each
  where
    runs : List (List Kept)
    runs = runs_of windows marks kept

    each : (run : List Kept) → Contains (runs_of windows marks kept) run → (last_time run < t) ⊎ (t ≤ first_time run)
    each run c =
        let all = runs_of windows marks kept in
        let cut = has_cut windows marks in
        let r : IsRun (IsNear (has_cut windows marks)) run = All-contains (IsRun (IsNear (has_cut windows marks))) all run (runs_are_runs (IsNear (has_cut windows marks)) (IsApart (has_cut windows marks)) 0 (λ a b g. g.0) (λ a b g. omega (arith, g.0)) all (pieces_in_order (has_cut windows marks) kept h)) c in
        let has : (z : Kept) → Contains run z → Contains kept z = λ z d. subst (λ l. Contains l z) (pieces_joined (λ x y. has_cut windows marks x.time y.time) kept) (flat_map_has (λ l. l) all run z c d) in
        elim (cases_lt (last_time run) t) [
          | inl l ↦ inl l
          | inr l ↦ elim (cases_lt (first_time run) t) [
            | inl f ↦ absurd (crossing (has_cut windows marks) t run r (λ a b d e. cuts a b (has a d) (has b e)) f l)
            | inr f ↦ inr f
          ]
        ]

-- an aligned interval selects whole slices
pub whole_runs : (near : ℕ → ℕ → Type 0) → ((a b : ℕ) → near a b → a ≤ b) → (low high : ℕ) (runs : List (List Kept)) → All (IsRun near) runs → IsAligned runs low → IsAligned runs high → within low high (flat_map (λ run. run) runs) ≡ flat_map (λ run. run) (runs_within low high runs)
whole_runs near step low high [] a b c = refl
whole_runs near step low high (run ∷ runs) a b c =
    filter-append (is_within low high) run (flat_map (λ r. r) runs)
    ∙ by (cases_lt (first_time run) low) (cases_lt (first_time run) high) (whole_runs near step low high runs (All-tail (IsRun near) run runs a) (All-tail (λ r. (last_time r < low) ⊎ (low ≤ first_time r)) run runs b) (All-tail (λ r. (last_time r < high) ⊎ (high ≤ first_time r)) run runs c))
  where
    s : All (λ z. (first_time run ≤ z.time) × (z.time ≤ last_time run)) run × (first_time run ≤ last_time run)
    s = run_spans near (λ a b. a + 0 ≤ b) 0 step (λ a b h. h) run (All-head (IsRun near) run runs a)

    at_low : (last_time run < low) ⊎ (low ≤ first_time run)
    at_low = All-head (λ r. (last_time r < low) ⊎ (low ≤ first_time r)) run runs b

    at_high : (last_time run < high) ⊎ (high ≤ first_time run)
    at_high = All-head (λ r. (last_time r < high) ⊎ (high ≤ first_time r)) run runs c

    none : All (λ z. is_within low high z ≡ false) run → nat_le low (first_time run) && nat_lt (first_time run) high ≡ false → within low high (flat_map (λ r. r) runs) ≡ flat_map (λ r. r) (runs_within low high runs) → within low high run ++ within low high (flat_map (λ r. r) runs) ≡ flat_map (λ r. r) (runs_within low high (run ∷ runs))
    none out e later = (λ i. filter_none (is_within low high) run out i ++ later i) ∙ sym (ap (λ b. flat_map (λ r. r) (cond b (run ∷ runs_within low high runs) (runs_within low high runs))) e)

    by : (first_time run < low) ⊎ (low ≤ first_time run) → (first_time run < high) ⊎ (high ≤ first_time run) → within low high (flat_map (λ r. r) runs) ≡ flat_map (λ r. r) (runs_within low high runs) → within low high run ++ within low high (flat_map (λ r. r) runs) ≡ flat_map (λ r. r) (runs_within low high (run ∷ runs))
    by (inl l) g later =
        let e : last_time run < low = elim at_low [ inl m ↦ m | inr m ↦ absurd (omega arith) ] in
        none (All-weaker (λ (z : Kept). (first_time run ≤ z.time) × (z.time ≤ last_time run)) (λ z. is_within low high z ≡ false) (λ z m. below_span low high z (omega (arith, m.1))) run s.0) (and_left (nat_le low (first_time run)) (nat_lt (first_time run) high) (lt-leb low (first_time run) l)) later
    by (inr l) (inr g) later =
        none (All-weaker (λ (z : Kept). (first_time run ≤ z.time) × (z.time ≤ last_time run)) (λ z. is_within low high z ≡ false) (λ z m. above_span low high z (omega (arith, m.0))) run s.0) (and_right (nat_le low (first_time run)) (nat_lt (first_time run) high) (le-ltb (first_time run) high g)) later
    by (inr l) (inl g) later =
        let e : last_time run < high = elim at_high [ inl m ↦ m | inr m ↦ absurd (omega arith) ] in
        (λ i. filter_all (is_within low high) run (All-weaker (λ (z : Kept). (first_time run ≤ z.time) × (z.time ≤ last_time run)) (λ z. is_within low high z ≡ true) (λ z m. inside_span low high z (omega (arith, m.0)) (omega (arith, m.1))) run s.0) i ++ later i)
        ∙ sym (ap (λ b. flat_map (λ r. r) (cond b (run ∷ runs_within low high runs) (runs_within low high runs))) (and_from (nat_le low (first_time run)) (nat_lt (first_time run) high) (le-leb low (first_time run) l) (lt-ltb (first_time run) high g)))

pub instance_of_whole_runs : (windows : List Def) (marks : List ℕ) (kept : List Kept) (def : Def) (i : Instance) → All (λ w. IsKindWithin w.kind) windows → TimesDoNotFall kept → All (λ (z : Kept). z.time < FINAL) kept → Contains windows def → is_events def.kind ≡ false → Contains (instances_of def.kind kept marks) i
    → i.chosen ≡ flat_map (λ run. run) (runs_within i.low i.high (runs_of windows marks kept))
instance_of_whole_runs windows marks kept def i kinds h early c e d =
    let runs = runs_of windows marks kept in
    let k : IsKindWithin def.kind = All-contains (λ w. IsKindWithin w.kind) windows def kinds c in
    let whole = runs_are_runs (IsNear (has_cut windows marks)) (IsApart (has_cut windows marks)) 0 (λ a b g. g.0) (λ a b g. omega (arith, g.0)) runs (pieces_in_order (has_cut windows marks) kept h) in
    All-contains (λ (i : Instance). i.chosen ≡ within i.low i.high kept) (instances_of def.kind kept marks) i (spans_hold_selections def.kind kept marks k e h) d
    ∙ ap (within i.low i.high) (sym (pieces_joined (λ x y. has_cut windows marks x.time y.time) kept))
    ∙ whole_runs (IsNear (has_cut windows marks)) (λ a b g. g.0) i.low i.high runs whole
    (aligned windows marks kept h i.low (edge_is_cut kept marks h early windows def i kinds c e d i.low (inl refl)))
    (aligned windows marks kept h i.high (edge_is_cut kept marks h early windows def i kinds c e d i.high (inr refl)))

pub start_is_cut : (windows : List Def) (marks : List ℕ) (kept : List Kept) (def : Def) (i : Instance) (a b : Kept) → All (λ w. IsKindWithin w.kind) windows → TimesDoNotFall kept → All (λ (z : Kept). z.time < FINAL) kept → Contains windows def → is_events def.kind ≡ false → Contains (instances_of def.kind kept marks) i → Contains kept a → Contains kept b → a.time < i.low → i.low ≤ b.time → has_cut windows marks a.time b.time ≡ true
start_is_cut windows marks kept def i a b within h early c e d f g l r = edge_is_cut kept marks h early windows def i within c e d i.low (inl refl) a b f g l r

pub end_is_cut : (windows : List Def) (marks : List ℕ) (kept : List Kept) (def : Def) (i : Instance) (a b : Kept) → All (λ w. IsKindWithin w.kind) windows → TimesDoNotFall kept → All (λ (z : Kept). z.time < FINAL) kept → Contains windows def → is_events def.kind ≡ false → Contains (instances_of def.kind kept marks) i → Contains kept a → Contains kept b → a.time < i.high → i.high ≤ b.time → has_cut windows marks a.time b.time ≡ true
end_is_cut windows marks kept def i a b within h early c e d f g l r = edge_is_cut kept marks h early windows def i within c e d i.high (inr refl) a b f g l r

-- ---- the starts and ends of intervals, and marks, part the slices
pub interval_edges_align : (windows : List Def) (marks : List ℕ) (kept : List Kept) (w : Def) (k : ℕ) → All (λ w. IsKindWithin w.kind) windows → TimesDoNotFall kept → Contains windows w → is_timed w.kind ≡ true → IsAligned (runs_of windows marks kept) (k * slide_of w.kind) × IsAligned (runs_of windows marks kept) (k * slide_of w.kind + length_of w.kind)
interval_edges_align windows marks kept w k within h c t = (
  aligned windows marks kept h (k * slide_of w.kind) (λ a b d e l r. is_cut a b (timed_cuts w.kind a.time b.time t (k, inl (l, r)))),
  aligned windows marks kept h (k * slide_of w.kind + length_of w.kind) (λ a b d e l r. is_cut a b (timed_cuts w.kind a.time b.time t (k, inr (l, r)))),
)
  where
    is_cut : (a b : Kept) → CutsBetween w.kind a.time b.time → has_cut windows marks a.time b.time ≡ true
    is_cut a b g = (cut_decides windows marks a.time b.time within).1 (inl (c.0, w, c.1, c.2, g))

pub interval_starts_align : (windows : List Def) (marks : List ℕ) (kept : List Kept) (w : Def) (k : ℕ) → All (λ w. IsKindWithin w.kind) windows → TimesDoNotFall kept → Contains windows w → is_timed w.kind ≡ true → IsAligned (runs_of windows marks kept) (k * slide_of w.kind)
interval_starts_align windows marks kept w k within h c t = (interval_edges_align windows marks kept w k within h c t).0

pub interval_ends_align : (windows : List Def) (marks : List ℕ) (kept : List Kept) (w : Def) (k : ℕ) → All (λ w. IsKindWithin w.kind) windows → TimesDoNotFall kept → Contains windows w → is_timed w.kind ≡ true → IsAligned (runs_of windows marks kept) (k * slide_of w.kind + length_of w.kind)
interval_ends_align windows marks kept w k within h c t = (interval_edges_align windows marks kept w k within h c t).1

pub marks_align : (windows : List Def) (marks : List ℕ) (kept : List Kept) (time : ℕ) → All (λ w. IsKindWithin w.kind) windows → TimesDoNotFall kept → Contains marks time → IsAligned (runs_of windows marks kept) time
marks_align windows marks kept time within h c = aligned windows marks kept h time (λ a b d e l r. (cut_decides windows marks a.time b.time within).1 (inr (c.0, time, c.1, c.2, (l, r))))

pub aligned_interval : (windows : List Def) (marks : List ℕ) (kept : List Kept) (low high : ℕ) → TimesDoNotFall kept → IsAligned (runs_of windows marks kept) low → IsAligned (runs_of windows marks kept) high → within low high kept ≡ flat_map (λ run. run) (runs_within low high (runs_of windows marks kept))
aligned_interval windows marks kept low high h a b =
    let runs = runs_of windows marks kept in
    let whole = runs_are_runs (IsNear (has_cut windows marks)) (IsApart (has_cut windows marks)) 0 (λ a b g. g.0) (λ a b g. omega (arith, g.0)) runs (pieces_in_order (has_cut windows marks) kept h) in
    ap (within low high) (sym (pieces_joined (λ x y. has_cut windows marks x.time y.time) kept))
    ∙ whole_runs (IsNear (has_cut windows marks)) (λ a b g. g.0) low high runs whole a b

-- the first tuple from a time is that of the first slice from there
pub first_of_slices : (windows : List Def) (marks : List ℕ) (kept : List Kept) (before : List (List Kept)) (x : Kept) (xs : List Kept) (behind : List (List Kept)) (time : ℕ) → TimesDoNotFall kept → runs_of windows marks kept ≡ before ++ (x ∷ xs) ∷ behind → All (λ run. last_time run < time) before → time ≤ x.time → IsFirstFrom kept time x
first_of_slices windows marks kept before x xs behind time h e early l = record {
  member = subst (λ k. Contains k x) (sym parts) (Contains-append_right (flat_map (λ r. r) before) (x ∷ xs ++ flat_map (λ r. r) behind) x (Contains-head x (xs ++ flat_map (λ r. r) behind)));
  after = l;
  first =
      subst (All (λ y. (y.time < time) ⊎ (x.time ≤ y.time))) (sym parts)
      (All-append (λ y. (y.time < time) ⊎ (x.time ≤ y.time)) (flat_map (λ r. r) before) ((x ∷ xs) ++ flat_map (λ r. r) behind)
      (All-joined (λ y. (y.time < time) ⊎ (x.time ≤ y.time)) before (λ k d m. All-weaker (λ (z : Kept). (first_time (get_or before k d) ≤ z.time) × (z.time ≤ last_time (get_or before k d))) (λ y. (y.time < time) ⊎ (x.time ≤ y.time)) (λ y g. inl (omega (arith, g.1, early k d m))) (get_or before k d) (spans_of (get_or before k d) ((All-split (IsRun (IsNear (has_cut windows marks))) before ((x ∷ xs) ∷ behind) all).0 k d m)).0))
      (All-append (λ y. (y.time < time) ⊎ (x.time ≤ y.time)) (x ∷ xs) (flat_map (λ r. r) behind)
      (All-weaker (λ (z : Kept). (x.time ≤ z.time) × (z.time ≤ last_time (x ∷ xs))) (λ y. (y.time < time) ⊎ (x.time ≤ y.time)) (λ y g. inr g.0) (x ∷ xs) own.0)
      (All-joined (λ y. (y.time < time) ⊎ (x.time ≤ y.time)) behind (λ k d m. let b = runs_behind (IsNear (has_cut windows marks)) (IsApart (has_cut windows marks)) 0 (λ a b g. g.0) (λ a b g. omega (arith, g.0)) (x ∷ xs) behind (rest before runs_so) k d m in
      All-weaker (λ (z : Kept). (first_time (get_or behind k d) ≤ z.time) × (z.time ≤ last_time (get_or behind k d))) (λ y. (y.time < time) ⊎ (x.time ≤ y.time)) (λ y g. inr (omega (arith, g.0, b.0, own.1))) (get_or behind k d) (spans_of (get_or behind k d) (All-tail (IsRun (IsNear (has_cut windows marks))) (x ∷ xs) behind (All-split (IsRun (IsNear (has_cut windows marks))) before ((x ∷ xs) ∷ behind) all).1 k d m)).0))));
}
  where
    spans_of : (run : List Kept) → IsRun (IsNear (has_cut windows marks)) run → All (λ z. (first_time run ≤ z.time) × (z.time ≤ last_time run)) run × (first_time run ≤ last_time run)
    spans_of = run_spans (IsNear (has_cut windows marks)) (IsApart (has_cut windows marks)) 0 (λ a b g. g.0) (λ a b g. omega (arith, g.0))

    runs_so : AreParted (IsNear (has_cut windows marks)) (IsApart (has_cut windows marks)) (before ++ (x ∷ xs) ∷ behind)
    runs_so = subst (AreParted (IsNear (has_cut windows marks)) (IsApart (has_cut windows marks))) e (pieces_in_order (has_cut windows marks) kept h)

    all : All (IsRun (IsNear (has_cut windows marks))) (before ++ (x ∷ xs) ∷ behind)
    all = runs_are_runs (IsNear (has_cut windows marks)) (IsApart (has_cut windows marks)) 0 (λ a b g. g.0) (λ a b g. omega (arith, g.0)) (before ++ (x ∷ xs) ∷ behind) runs_so

    own : All (λ z. (x.time ≤ z.time) × (z.time ≤ last_time (x ∷ xs))) (x ∷ xs) × (x.time ≤ last_time (x ∷ xs))
    own = spans_of (x ∷ xs) (All-head (IsRun (IsNear (has_cut windows marks))) (x ∷ xs) behind (All-split (IsRun (IsNear (has_cut windows marks))) before ((x ∷ xs) ∷ behind) all).1)

    rest : (before : List (List Kept)) → AreParted (IsNear (has_cut windows marks)) (IsApart (has_cut windows marks)) (before ++ (x ∷ xs) ∷ behind) → AreParted (IsNear (has_cut windows marks)) (IsApart (has_cut windows marks)) ((x ∷ xs) ∷ behind)
    rest [] a = a
    rest (r ∷ before) a = rest before a.2

    parts : kept ≡ flat_map (λ r. r) before ++ ((x ∷ xs) ++ flat_map (λ r. r) behind)
    parts = sym (pieces_joined (λ x y. has_cut windows marks x.time y.time) kept) ∙ ap (flat_map (λ r. r)) e ∙ flat_map-append (λ r. r) before ((x ∷ xs) ∷ behind)
