-- Slices part where instances start and end.
use Rattle.std.proofs.Common.{ℕ, ◌+◌, ◌<◌, ◌≤◌, List, [], ◌∷◌, sym, refl, subst, arith, inl, inr}
use Rattle.std.specs.Prelude.{nat_le, nat_lt}
use Rattle.std.specs.List.{Contains, filter}
use Rattle.std.proofs.lemmas.List.Elements.{All-contains, All-filter, All-take, All-cons, All-nil, Contains-append_right}
use Rattle.stream_base.specs.declared.def.Def.{Def}
use Rattle.stream_base.specs.declared.kept.Kept.{Kept}
use Rattle.stream_base.specs.declared.limits.TheConstants.{FINAL}
use Rattle.stream_base.specs.Laws.{TimesDoNotFall}
use Rattle.stream_base.specs.Model.Journal.{put_in_order}
use Rattle.stream_base.specs.Model.Slices.{runs_of}
use Rattle.stream_base.specs.Model.Windows.{Instance, sessions}
use Rattle.stream_base.proofs.Distinct.{All_from_members}
use Rattle.stream_base.proofs.Members.{filter_members}
use Rattle.stream_base.proofs.Rising.{Contains-head}
use Rattle.slice_lists.specs.Runs.{IsAligned}
use Rattle.window_laws.proofs.EdgeFacts.{aligned, end_is_cut, marks_align, start_is_cut}
use Rattle.slice_lists.proofs.Order.{All-map_of}
use Rattle.agg_store.specs.Stored.{Stored, tuples_of}
use Rattle.window_spans.specs.declared.span.Span.{Span}
use Rattle.window_spans.specs.Held.{AreAlignedWith, IsAlignedWith}
use Rattle.window_spans.specs.Spans.{asked_of, due_of, is_due, is_near, joined_span, near_of, span_of, spans_with, stands, told_at}
use Rattle.context_windows.specs.Aligned.{IsOfSessions, IsOfWindows}
use Rattle.context_windows.specs.Marked.{IsEdge}
use Rattle.context_windows.specs.Spanned.{FollowsSessions, Spanned, gap_of, sessions_after}
use Rattle.context_windows.proofs.Changing.{put_follows}
use Rattle.context_windows.proofs.Following.{no_events, sessions_are}

module _ (windows : List Def) (w : Def) (kept : List Kept) (store : Stored) (o : IsOfSessions windows w kept store) (times : TimesDoNotFall kept) where
  member : (a : Kept) → Contains (tuples_of store) a → Contains kept a
  member a c = All-contains (Contains kept) (tuples_of store) a o.some c

  session_aligned : (i : Instance) → Contains (sessions (gap_of w.kind) kept) i → IsAlignedWith store.slices (span_of i)
  session_aligned i c =
      let d = subst (λ is. Contains is i) (sym (sessions_are w.kind kept store.marks o.session)) c in
      let n = no_events w.kind o.session in
      record {
        low = subst (λ l. IsAligned l i.low) (sym o.sliced.sliced) (aligned windows store.marks (tuples_of store) o.sliced.in_order i.low (λ a b f g l r. start_is_cut windows store.marks kept w i a b o.sliced.kinds times o.early o.member n d (member a f) (member b g) l r));
        high = subst (λ l. IsAligned l i.high) (sym o.sliced.sliced) (aligned windows store.marks (tuples_of store) o.sliced.in_order i.high (λ a b f g l r. end_is_cut windows store.marks kept w i a b o.sliced.kinds times o.early o.member n d (member a f) (member b g) l r));
      }

  pub spans_aligned : (s : Spanned) → FollowsSessions (gap_of w.kind) kept s → AreAlignedWith store.slices s.spans
  spans_aligned s f =
      subst (AreAlignedWith store.slices) (sym f.spans)
      (All-map_of (IsAlignedWith store.slices) span_of (sessions_after (gap_of w.kind) s.forgotten kept)
      (All_from_members (λ i. IsAlignedWith store.slices (span_of i)) (sessions_after (gap_of w.kind) s.forgotten kept)
      (λ i c. session_aligned i (filter_members (λ (i : Instance). nat_lt s.forgotten i.high) (sessions (gap_of w.kind) kept) i c).0)))

pub asked_aligned : (windows : List Def) (w : Def) (kept : List Kept) (store : Stored) (s : Spanned) (time water : ℕ) → IsOfSessions windows w kept store → FollowsSessions (gap_of w.kind) kept s → AreAlignedWith store.slices (asked_of (gap_of w.kind) time water s.spans)
asked_aligned windows w kept store s time water o f =
    All-take (IsAlignedWith store.slices) 2 (filter (stands water) (near_of (gap_of w.kind) time s.spans))
    (All-filter (stands water) (IsAlignedWith store.slices) (near_of (gap_of w.kind) time s.spans)
    (All-filter (is_near (gap_of w.kind) time) (IsAlignedWith store.slices) s.spans (spans_aligned windows w kept store o f.in_order s f)))

pub due_aligned : (windows : List Def) (w : Def) (kept : List Kept) (store : Stored) (s : Spanned) (old new : ℕ) → IsOfSessions windows w kept store → FollowsSessions (gap_of w.kind) kept s → AreAlignedWith store.slices (due_of old new s.spans)
due_aligned windows w kept store s old new o f = All-filter (is_due old new) (IsAlignedWith store.slices) s.spans (spans_aligned windows w kept store o f.in_order s f)

pub told_aligned : (windows : List Def) (w : Def) (kept : List Kept) (x : Kept) (store : Stored) (s : Spanned) (water : ℕ) → IsOfSessions windows w (put_in_order kept x) store → FollowsSessions (gap_of w.kind) kept s → s.forgotten ≤ x.time → AreAlignedWith store.slices (told_at (gap_of w.kind) x.time water s.spans)
told_aligned windows w kept x store s water o f le =
    let gap = gap_of w.kind in
    let one : Span = joined_span (gap_of w.kind) x.time (near_of (gap_of w.kind) x.time s.spans) in
    let new : Spanned = record { spans = spans_with (gap_of w.kind) x.time s.spans; stood = []; forgotten = s.forgotten; spare = 0 } in
    let follows : FollowsSessions (gap_of w.kind) (put_in_order kept x) new = put_follows 0 w [] (record { kept = kept; marks = []; water = 0 }) x s o.session f le new refl refl in
    let all : AreAlignedWith store.slices (spans_with (gap_of w.kind) x.time s.spans) = spans_aligned windows w (put_in_order kept x) store o follows.in_order new follows in
    All-filter (stands water) (IsAlignedWith store.slices) (one ∷ [])
    (All-cons (IsAlignedWith store.slices) one []
    (All-contains (IsAlignedWith store.slices) (spans_with (gap_of w.kind) x.time s.spans) one all
    (Contains-append_right (filter (λ s. nat_le s.high x.time) s.spans) (one ∷ filter (λ t. nat_le (x.time + gap_of w.kind) t.low) s.spans) one (Contains-head one (filter (λ t. nat_le (x.time + gap_of w.kind) t.low) s.spans))))
    (All-nil (IsAlignedWith store.slices)))

-- ---- edges
none_final : (windows : List Def) (store : Stored) → IsOfWindows windows store → IsAligned (runs_of windows store.marks (tuples_of store)) FINAL
none_final windows store o = aligned windows store.marks (tuples_of store) o.in_order FINAL (λ a b c d l r. absurd (let e : b.time < FINAL = All-contains (λ (x : Kept). x.time < FINAL) (tuples_of store) b o.early d in not e r))
  where
    not : {m n : ℕ} → m < n → n ≤ m → ⊥
    not l r = omega arith

pub edges_aligned : (windows : List Def) (store : Stored) (e : ℕ) → IsOfWindows windows store → IsEdge store.marks e → IsAligned store.slices e
edges_aligned windows store e o (inl z) = λ k d l. inr (let n : e ≤ 0 = omega arith in omega arith)
edges_aligned windows store e o (inr (inl c)) = subst (λ l. IsAligned l e) (sym o.sliced) (marks_align windows store.marks (tuples_of store) e o.kinds o.in_order c)
edges_aligned windows store e o (inr (inr f)) = subst (λ t. IsAligned store.slices t) (sym f) (subst (λ l. IsAligned l FINAL) (sym o.sliced) (none_final windows store o))
