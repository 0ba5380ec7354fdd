-- Up to which time tuples are settled in a session window.
use Rattle.std.proofs.Common.{◌≡◌, ◌∙◌, ℕ, ◌+◌, ◌-◌, ◌≤◌, List, [], ◌∷◌, drop, map, ap, sym, subst, arith}
use Rattle.std.specs.Prelude.{nat_le, nat_lt}
use Rattle.std.specs.List.{All, Contains, filter}
use Rattle.std.proofs.lemmas.List.Elements.{All-contains, All-filter, All-weaker}
use Rattle.stream_base.specs.declared.func.Func.{Func}
use Rattle.stream_base.specs.declared.kept.Kept.{Kept}
use Rattle.stream_base.specs.declared.kind.Kind.{Kind}
use Rattle.stream_base.specs.declared.kind.Kind.TheVariants.{Session}
use Rattle.stream_base.specs.declared.limits.TheConstants.{TIME_MAX}
use Rattle.stream_base.specs.Laws.{TimesDoNotFall}
use Rattle.stream_base.specs.Limits.{Definitions}
use Rattle.stream_base.specs.Model.Changes.{Moment}
use Rattle.stream_base.specs.Model.Windows.{Instance, first_time, is_within, last_time, pieces_of, session, sessions, within}
use Rattle.stream_base.proofs.Distinct.{All_from_members}
use Rattle.stream_base.proofs.Members.{filter_members}
use Rattle.window_laws.specs.After.{at_water}
use Rattle.slice_lists.specs.Runs.{AreParted}
use Rattle.window_laws.specs.Settled.{MayLeave, without_first}
use Rattle.window_laws.proofs.InstanceFacts.{gap_cut, session_far, session_near, session_runs, sessions_select}
use Rattle.slice_lists.proofs.Order.{All-map_of, IsApart, IsNear, run_spans, runs_behind}
use Rattle.window_laws.proofs.HoldingFacts.{session_last}
use Rattle.window_spans.specs.declared.span.Span.{Span}
use Rattle.window_spans.specs.Ahead.{start_after}
use Rattle.window_spans.specs.Spans.{AreApart, span_of}
use Rattle.context_windows.specs.Spanned.{FollowsSessions, IsSession, Spanned, gap_at, gap_of, sessions_after}
use Rattle.context_windows.proofs.Following.{gap_some, no_events, sessions_are}
use Rattle.key_parts.specs.Calls.{window_at}
use Rattle.key_parts.specs.Moves.{SettlesUpTo}
use Rattle.context_windows.specs.SessionsStand.{DoStand}
use Rattle.context_windows.proofs.OfMarks.{filter_apart}
use Rattle.context_windows.proofs.Rest.{is_window, rest_is_kept}
use Rattle.context_windows.proofs.Settling.{settles_up_to}

-- sessions lie apart
runs_apart : (gap : ℕ) → 1 ≤ gap → (runs : List (List Kept)) → AreParted (IsNear (gap_cut gap)) (IsApart (gap_cut gap)) runs → AreApart (map span_of (map (session gap) runs))
runs_apart gap some [] a = tt
runs_apart gap some (run ∷ runs) a =
    let l : first_time run ≤ last_time run = (run_spans (IsNear (gap_cut gap)) (IsApart (gap_cut gap)) gap (session_near gap) (λ s t. session_far gap s t some) run a.0).1 in (
      omega (arith, l),
      All-map_of (λ t. last_time run + gap ≤ t.low) span_of (map (session gap) runs)
          (All-map_of (λ (i : Instance). last_time run + gap ≤ i.low) (session gap) runs
          (All-weaker (λ r. (last_time run + gap ≤ first_time r) × (first_time r ≤ last_time r)) (λ r. last_time run + gap ≤ first_time r) (λ r h. h.0) runs
          (runs_behind (IsNear (gap_cut gap)) (IsApart (gap_cut gap)) gap (session_near gap) (λ s t. session_far gap s t some) run runs a))),
      runs_apart gap some runs a.2,
    )

sessions_lie_apart : (gap : ℕ) (kept : List Kept) → 1 ≤ gap → TimesDoNotFall kept → AreApart (map span_of (sessions gap kept))
sessions_lie_apart gap kept some h = runs_apart gap some (pieces_of (λ x y. nat_le gap (y.time - x.time)) kept) (session_runs gap kept h)

pub sessions_settle : {serves : Func → Type 0} → (d : Definitions) (window : ℕ) (m : Moment) (n water : ℕ) (p : Spanned) → m.water ≤ water → MayLeave d m n → All (λ (x : Kept). x.time ≤ TIME_MAX) m.kept → DoStand serves d window m n p → SettlesUpTo d.lateness (at_water (without_first n m) water) (window_at d window) (start_after (water - d.lateness) p.spans)
sessions_settle {serves} d window m n water p rises may times st =
    let w = window_at d window in
    let session = st.session.session in
    settles_up_to d m n water w may (is_window d window st.session.within) (no_events w.kind session) rises times p.forgotten st.bounded p.spans
    (st.follows.spans ∙ ap (λ l. map span_of (filter (λ (i : Instance). nat_lt p.forgotten i.high) l)) (sym (sessions_are w.kind m.kept m.marks session)))
    (subst (λ l. AreApart (map span_of l)) (sym (sessions_are w.kind (drop n m.kept) m.marks session)) (sessions_lie_apart (gap_at d window) (drop n m.kept) (gap_some w.kind session) (rest_is_kept n m.kept may.kept).in_order))

pub gap_few : (kind : Kind) → IsSession kind → gap_of kind ≤ TIME_MAX
gap_few (Session gap) h = h.1
gap_few kind h = absurd h

-- ---- the spans that are kept
pub spans_apart : (gap : ℕ) (kept : List Kept) (p : Spanned) → 1 ≤ gap → FollowsSessions gap kept p → AreApart p.spans
spans_apart gap kept p some f = subst AreApart (sym f.spans) (filter_apart (λ (i : Instance). nat_lt p.forgotten i.high) (sessions gap kept) (sessions_lie_apart gap kept some f.in_order))

-- none ends later than the gap behind the last time
session_bounded : (gap most : ℕ) (kept : List Kept) (i : Instance) → 1 ≤ gap → TimesDoNotFall kept → All (λ (x : Kept). x.time ≤ most) kept → Contains (sessions gap kept) i → i.high ≤ most + gap
session_bounded gap most kept i some h times c =
    let w = session_last gap kept i some h c in
    let chosen = All-contains (λ (i : Instance). i.chosen ≡ within i.low i.high kept) (sessions gap kept) i (sessions_select gap kept some h) c in
    let m = filter_members (is_within i.low i.high) kept w.0 (subst (λ l. Contains l w.0) chosen w.1) in
    let t : (w.0).time ≤ most = All-contains (λ (x : Kept). x.time ≤ most) kept w.0 times m.0 in
    omega (arith, t, w.2)

pub spans_bounded : (gap most : ℕ) (kept : List Kept) (p : Spanned) → 1 ≤ gap → All (λ (x : Kept). x.time ≤ most) kept → FollowsSessions gap kept p → All (λ (s : Span). s.high ≤ most + gap) p.spans
spans_bounded gap most kept p some times f =
    subst (All (λ (s : Span). s.high ≤ most + gap)) (sym f.spans)
    (All-map_of (λ (s : Span). s.high ≤ most + gap) span_of (sessions_after gap p.forgotten kept)
    (All-filter (λ (i : Instance). nat_lt p.forgotten i.high) (λ i. i.high ≤ most + gap) (sessions gap kept)
    (All_from_members (λ (i : Instance). i.high ≤ most + gap) (sessions gap kept) (λ i c. session_bounded gap most kept i some f.in_order times c))))
