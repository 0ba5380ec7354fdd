-- The intervals between the marks of a key, where settled tuples have left the store.
use Rattle.std.proofs.Common.{◌≡◌, ◌∙◌, ℕ, ◌+◌, ◌-◌, ◌*◌, ◌<◌, ◌≤◌, Bool, true, false, cond, List, [], ◌∷◌, ◌++◌, drop, map, ap, sym, subst, arith, inl, inr}
use Rattle.std.specs.Prelude.{nat_lt}
use Rattle.std.specs.List.{All, Contains, filter}
use Rattle.std.specs.List.Sorted.{IsStrictlySortedBy}
use Rattle.std.specs.Ordering.{nat_cmp}
use Rattle.std.proofs.lemmas.Cmp.{nat_cmp_total}
use Rattle.std.proofs.lemmas.List.Elements.{All-cons, All-contains, All-filter, All-head, All-tail, All-weaker, Contains-append_cases}
use Rattle.std.proofs.lemmas.Map.Keys.{sorted_tail}
use Rattle.stream_base.specs.declared.def.Def.{Def}
use Rattle.stream_base.specs.declared.func.Func.{Func}
use Rattle.stream_base.specs.declared.kept.Kept.{Kept}
use Rattle.stream_base.specs.declared.kind.Kind.{Kind}
use Rattle.stream_base.specs.declared.kind.Kind.TheVariants.{Marks}
use Rattle.stream_base.specs.declared.limits.TheConstants.{FINAL, TIME_MAX}
use Rattle.stream_base.specs.Limits.{Definitions}
use Rattle.stream_base.specs.Model.Changes.{Moment}
use Rattle.stream_base.specs.Model.Journal.{rising}
use Rattle.stream_base.specs.Kinds.{is_events}
use Rattle.stream_base.specs.Model.Windows.{Instance, between_times, instances_of, interval, is_selecting, stretches, within}
use Rattle.stream_base.proofs.Distinct.{lt_from_less}
use Rattle.stream_base.proofs.Rising.{Contains-cons_cases, Contains-from_rising, below_tail, nat_rising_is_sorted, none_in_nil}
use Rattle.window_laws.specs.After.{at_water}
use Rattle.window_laws.specs.Settled.{MayLeave, without_first}
use Rattle.window_laws.proofs.InstanceFacts.{between_ends}
use Rattle.slice_lists.proofs.Order.{All-map_of}
use Rattle.agg_store.specs.Stored.{Stored, tuples_of}
use Rattle.window_spans.specs.declared.span.Span.{Span}
use Rattle.window_spans.specs.Ahead.{start_after}
use Rattle.window_spans.specs.Spans.{AreApart, span_of}
use Rattle.context_windows.specs.Marked.{FollowsMarks, HoldsStretches, IsEdge, Marked, marks_window, stretches_after}
use Rattle.key_parts.specs.Calls.{window_at}
use Rattle.key_parts.specs.Moves.{SettlesUpTo}
use Rattle.key_parts.specs.Work.{change_work}
use Rattle.context_windows.specs.MarksStand.{DoStandBetween, IsMarksAt}
use Rattle.context_windows.proofs.Edges.{AreEdged}
use Rattle.context_windows.proofs.Rest.{HoldsRest, is_window, open_alike, open_selects, rest_is_kept}
use Rattle.context_windows.proofs.Settling.{settles_up_to}

pub stretches_are : (kind : Kind) (kept : List Kept) (marks : List ℕ) → kind ≡ Marks → instances_of kind kept marks ≡ stretches marks kept
unfolding instances_of
stretches_are kind kept marks e = ap (λ k. instances_of k kept marks) e

pub marks_window_is : (w : Def) → w.kind ≡ Marks → marks_window w.func ≡ w
marks_window_is w e = λ i. record { kind = sym e i; func = w.func }

pub no_events : (kind : Kind) → kind ≡ Marks → is_events kind ≡ false
no_events kind e = ap is_events e

-- a change of it takes one fold
pub marks_work : (kind : Kind) (reach : ℕ) → kind ≡ Marks → change_work kind reach ≡ 64 * (reach + 2)
marks_work kind reach e = ap (λ k. change_work k reach) e

-- ---- what the store holds
pub stretches_held : (d : Definitions) (window : ℕ) (at : IsMarksAt d window) (m : Moment) (n : ℕ) (s : Stored) → HoldsRest d m n s → (time : ℕ) → m.water - d.lateness ≤ time → HoldsStretches time m.marks m.kept s
stretches_held d window at m n s h time late =
    let w = window_at d window in
    let c = is_window d window at.within in
    let e = no_events (window_at d window).kind at.kind in
    let is : filter (λ (i : Instance). nat_lt time i.high) (instances_of (window_at d window).kind m.kept m.marks) ≡ stretches_after time m.marks m.kept = ap (filter (λ (i : Instance). nat_lt time i.high)) (stretches_are (window_at d window).kind m.kept m.marks at.kind) in
    record {
      chosen =
          subst (λ l. All (λ i. within i.low i.high l ≡ i.chosen) (stretches_after time m.marks m.kept)) (sym h.tuples)
          (subst (All (λ i. within i.low i.high (drop n m.kept) ≡ i.chosen)) is (open_selects d m n h.may_leave w c e time late));
    }

-- ---- the intervals lie apart, and between edges
lows : (a : ℕ) (times : List ℕ) (kept : List Kept) → IsStrictlySortedBy nat_cmp (a ∷ times) → All (λ (i : Instance). a ≤ i.low) (between_times (a ∷ times) kept)
lows a times kept s =
    All-weaker (λ (i : Instance). (i.low < i.high) × (i.bound ≡ i.high) × (i.chosen ≡ within i.low i.high kept) × Contains (a ∷ times) i.low × Contains (a ∷ times) i.high) (λ i. a ≤ i.low)
    (λ i h. elim (Contains-cons_cases a times i.low h.3) [
      | inl e ↦ omega (arith, e)
      | inr c ↦ let l : a < i.low = lt_from_less a i.low (below_tail nat_cmp_total a times s i.low c) in omega (arith, l)
    ])
    (between_times (a ∷ times) kept) (between_ends (a ∷ times) kept s)

between_apart : (times : List ℕ) (kept : List Kept) → IsStrictlySortedBy nat_cmp times → AreApart (map span_of (between_times times kept))
between_apart [] kept s = tt
between_apart (a ∷ []) kept s = tt
between_apart (a ∷ b ∷ times) kept s =
    let g = All-head (λ (i : Instance). (i.low < i.high) × (i.bound ≡ i.high) × (i.chosen ≡ within i.low i.high kept) × Contains (a ∷ b ∷ times) i.low × Contains (a ∷ b ∷ times) i.high) (interval a b kept) (between_times (b ∷ times) kept) (between_ends (a ∷ b ∷ times) kept s) in
    let l : a < b = g.0 in (
      omega (arith, l),
      All-map_of (λ t. b ≤ t.low) span_of (between_times (b ∷ times) kept) (lows b times kept (sorted_tail nat_cmp a (b ∷ times) s)),
      between_apart (b ∷ times) kept (sorted_tail nat_cmp a (b ∷ times) s),
    )

pub filter_apart : (p : Instance → Bool) (is : List Instance) → AreApart (map span_of is) → AreApart (map span_of (filter p is))
filter_apart p [] a = tt
filter_apart p (i ∷ is) a = by (p i) (filter_apart p is a.2)
  where
    fewer : (p : Instance → Bool) (is : List Instance) → All (λ t. i.high ≤ t.low) (map span_of is) → All (λ t. i.high ≤ t.low) (map span_of (filter p is))
    fewer p [] h = h
    fewer p (j ∷ js) h = more (p j) (fewer p js (All-tail (λ (t : Span). i.high ≤ t.low) (span_of j) (map span_of js) h))
      where
        more : (b : Bool) → All (λ t. i.high ≤ t.low) (map span_of (filter p js)) → All (λ t. i.high ≤ t.low) (map span_of (cond b (j ∷ filter p js) (filter p js)))
        more true k = All-cons (λ (t : Span). i.high ≤ t.low) (span_of j) (map span_of (filter p js)) (All-head (λ (t : Span). i.high ≤ t.low) (span_of j) (map span_of js) h) k
        more false k = k

    by : (b : Bool) → AreApart (map span_of (filter p is)) → AreApart (map span_of (cond b (i ∷ filter p is) (filter p is)))
    by true h = (a.0, fewer p is a.1, h)
    by false h = h

pub stretches_lie_apart : (marks : List ℕ) (kept : List Kept) → AreApart (map span_of (stretches marks kept))
stretches_lie_apart marks kept =
    filter_apart is_selecting (between_times (rising nat_cmp (0 ∷ marks ++ FINAL ∷ [])) kept)
    (between_apart (rising nat_cmp (0 ∷ marks ++ FINAL ∷ [])) kept (nat_rising_is_sorted (0 ∷ marks ++ FINAL ∷ [])))

is_edge : (marks : List ℕ) (e : ℕ) → Contains (rising nat_cmp (0 ∷ marks ++ FINAL ∷ [])) e → IsEdge marks e
is_edge marks e c =
    elim (Contains-cons_cases 0 (marks ++ FINAL ∷ []) e (Contains-from_rising nat_cmp (0 ∷ marks ++ FINAL ∷ []) e c)) [
      | inl z ↦ inl (sym z)
      | inr m ↦ elim (Contains-append_cases marks (FINAL ∷ []) e m) [
        | inl k ↦ inr (inl k)
        | inr f ↦ inr (inr (elim (Contains-cons_cases FINAL [] e f) [ inl s ↦ sym s | inr n ↦ absurd (none_in_nil e n) ]))
      ]
    ]

pub stretches_edged : (marks : List ℕ) (kept : List Kept) (time : ℕ) → AreEdged marks (map span_of (stretches_after time marks kept))
stretches_edged marks kept time =
    All-map_of (λ (s : Span). IsEdge marks s.low × IsEdge marks s.high) span_of (stretches_after time marks kept)
    (All-filter (λ (i : Instance). nat_lt time i.high) (λ i. IsEdge marks i.low × IsEdge marks i.high) (stretches marks kept)
    (All-filter is_selecting (λ i. IsEdge marks i.low × IsEdge marks i.high) (between_times (rising nat_cmp (0 ∷ marks ++ FINAL ∷ [])) kept)
    (All-weaker (λ (i : Instance). (i.low < i.high) × (i.bound ≡ i.high) × (i.chosen ≡ within i.low i.high kept) × Contains (rising nat_cmp (0 ∷ marks ++ FINAL ∷ [])) i.low × Contains (rising nat_cmp (0 ∷ marks ++ FINAL ∷ [])) i.high) (λ i. IsEdge marks i.low × IsEdge marks i.high)
    (λ i h. (is_edge marks i.low h.3, is_edge marks i.high h.4)) (between_times (rising nat_cmp (0 ∷ marks ++ FINAL ∷ [])) kept)
    (between_ends (rising nat_cmp (0 ∷ marks ++ FINAL ∷ [])) kept (nat_rising_is_sorted (0 ∷ marks ++ FINAL ∷ []))))))

pub spans_edged : (marks : List ℕ) (kept : List Kept) (s : Marked) → FollowsMarks marks kept s → AreEdged marks s.spans
spans_edged marks kept s f = subst (AreEdged marks) (sym f.spans) (stretches_edged marks kept s.forgotten)

pub spans_apart : (marks : List ℕ) (kept : List Kept) (s : Marked) → FollowsMarks marks kept s → AreApart s.spans
spans_apart marks kept s f = subst AreApart (sym f.spans) (filter_apart (λ (i : Instance). nat_lt s.forgotten i.high) (stretches marks kept) (stretches_lie_apart marks kept))

-- none ends later than the final time
pub spans_bounded : (marks : List ℕ) (kept : List Kept) (s : Marked) → FollowsMarks marks kept s → All (λ mark. mark ≤ TIME_MAX) marks → All (λ (t : Span). t.high ≤ FINAL) s.spans
spans_bounded marks kept s f times = All-weaker (λ (t : Span). IsEdge marks t.low × IsEdge marks t.high) (λ t. t.high ≤ FINAL) (λ t e. ends t.high e.1) s.spans (spans_edged marks kept s f)
  where
    ends : (e : ℕ) → IsEdge marks e → e ≤ FINAL
    ends e (inl z) = omega arith
    ends e (inr (inl c)) = let l : e ≤ TIME_MAX = All-contains (λ mark. mark ≤ TIME_MAX) marks e times c in omega arith
    ends e (inr (inr z)) = omega arith

-- ---- the intervals of what is left
-- those that end later than the watermark minus the lateness are those of all that was kept
stretches_alike : (d : Definitions) (window : ℕ) (at : IsMarksAt d window) (m : Moment) (n : ℕ) → MayLeave d m n → (time : ℕ) → m.water - d.lateness ≤ time → stretches_after time m.marks m.kept ≡ stretches_after time m.marks (drop n m.kept)
stretches_alike d window at m n may time late =
    let kind = (window_at d window).kind in
    ap (filter (λ (i : Instance). nat_lt time i.high)) (sym (stretches_are kind m.kept m.marks at.kind))
    ∙ open_alike d m n may (window_at d window) (is_window d window at.within) (no_events kind at.kind) time late
    ∙ ap (filter (λ (i : Instance). nat_lt time i.high)) (stretches_are kind (drop n m.kept) m.marks at.kind)

pub follows_left : (d : Definitions) (window : ℕ) (at : IsMarksAt d window) (m : Moment) (n : ℕ) (p : Marked) → MayLeave d m n → m.water - d.lateness ≤ p.forgotten → FollowsMarks m.marks m.kept p → FollowsMarks m.marks (drop n m.kept) p
follows_left d window at m n p may late f = record {
  in_order = (rest_is_kept n m.kept may.kept).in_order;
  known = f.known;
  spans = f.spans ∙ ap (map span_of) (stretches_alike d window at m n may p.forgotten late);
}

pub left_held : (d : Definitions) (window : ℕ) (at : IsMarksAt d window) (m : Moment) (n : ℕ) (s : Stored) → MayLeave d m n → (time : ℕ) → m.water - d.lateness ≤ time → HoldsStretches time m.marks m.kept s → HoldsStretches time m.marks (drop n m.kept) s
left_held d window at m n s may time late h =
    let is = stretches_alike d window at m n may time late in
    record {
      chosen = subst (All (λ i. within i.low i.high (tuples_of s) ≡ i.chosen)) is h.chosen;
    }

-- ---- up to which time tuples are settled
pub stretches_settle : {serves : Func → Type 0} → (d : Definitions) (window : ℕ) (m : Moment) (n water : ℕ) (p : Marked) → m.water ≤ water → MayLeave d m n → All (λ (x : Kept). x.time ≤ TIME_MAX) m.kept → DoStandBetween serves d window m n p → SettlesUpTo d.lateness (at_water (without_first n m) water) (window_at d window) (start_after (water - d.lateness) p.spans)
stretches_settle {serves} d window m n water p rises may times st =
    let w = window_at d window in
    let kind = st.marks.kind in
    settles_up_to d m n water w may (is_window d window st.marks.within) (no_events w.kind kind) rises times p.forgotten st.bounded p.spans
    (st.follows.spans ∙ ap (λ l. map span_of (filter (λ (i : Instance). nat_lt p.forgotten i.high) l)) (sym (stretches_are w.kind m.kept m.marks kind)))
    (subst (λ l. AreApart (map span_of l)) (sym (stretches_are w.kind (drop n m.kept) m.marks kind)) (stretches_lie_apart m.marks (drop n m.kept)))
