-- The slices of a key's store part at the edges of all its marks, where those at its start have gone.
use Rattle.std.proofs.Common.{◌≡◌, ℕ, ◌<◌, ◌≤◌, Bool, true, false, cond, List, [], ◌∷◌, Some, None, sym, subst, arith, inl, inr}
use Rattle.std.specs.Prelude.{◌⊎◌, nat_lt, option_to_list}
use Rattle.std.specs.BTreeSet.{insert_key}
use Rattle.std.specs.List.{All, Contains}
use Rattle.std.specs.Ordering.{nat_cmp}
use Rattle.std.proofs.lemmas.Bool.{cases_lt}
use Rattle.std.proofs.lemmas.List.Elements.{All-cons, All-filter, All-head, All-nil, All-weaker}
use Rattle.std.proofs.lemmas.Map.Lookups.{exact_unsigned}
use Rattle.stream_base.specs.declared.def.Def.{Def}
use Rattle.stream_base.specs.declared.kept.Kept.{Kept}
use Rattle.stream_base.specs.Limits.{Definitions}
use Rattle.stream_base.specs.Model.Changes.{Moment}
use Rattle.stream_base.specs.Model.Cuts.{has_cut}
use Rattle.stream_base.specs.Kinds.{is_events}
use Rattle.stream_base.specs.Model.Windows.{first_time, last_time}
use Rattle.stream_base.proofs.EventOrder.{All_put}
use Rattle.stream_base.proofs.Rising.{Contains-insert_key, Contains-insert_key_cases, Contains-insert_key_self}
use Rattle.slice_lists.specs.Runs.{AreParted, IsAligned}
use Rattle.slice_lists.proofs.Order.{All-split, IsApart, IsNear, pieces_in_order}
use Rattle.slice_lists.specs.Slices.{joined}
use Rattle.agg_store.specs.Stored.{Stored, tuples_of}
use Rattle.window_spans.specs.declared.span.Span.{Span}
use Rattle.window_spans.specs.Held.{AreAlignedWith, IsAlignedWith}
use Rattle.window_spans.specs.Parted.{back_of, first_or, front_of, head_before, holder_of}
use Rattle.window_spans.specs.Spans.{due_of, head_standing, is_due, is_near, near_of, stands}
use Rattle.context_windows.specs.Aligned.{IsOfWindows}
use Rattle.context_windows.specs.Marked.{IsEdge, Marked, asked_at, entered_at, holder_in, parted_of, with_parts}
use Rattle.context_windows.proofs.Aligning.{edges_aligned}
use Rattle.context_windows.proofs.Enough.{sides_are_edges}
use Rattle.key_parts.specs.Held.{IsHeld}
use Rattle.key_parts.specs.Moves.{IsMarkStep, IsPutStep}
use Rattle.context_windows.proofs.Rest.{is_stored}

-- ---- where slices part
-- no slice lies across a time up to which none has a tuple
behind_aligned : (near apart : ℕ → ℕ → Type 0) (e : ℕ) (slices : List (List Kept)) → AreParted near apart slices → All (λ (x : Kept). e ≤ x.time) (joined slices) → IsAligned slices e
behind_aligned near apart e [] a h = All-nil (λ run. (last_time run < e) ⊎ (e ≤ first_time run))
behind_aligned near apart e ([] ∷ runs) a h = absurd a.0
behind_aligned near apart e ((x ∷ xs) ∷ runs) a h =
    let s = All-split (λ (x : Kept). e ≤ x.time) (x ∷ xs) (joined runs) h in
    All-cons (λ run. (last_time run < e) ⊎ (e ≤ first_time run)) (x ∷ xs) runs (inr (All-head (λ (x : Kept). e ≤ x.time) x xs s.0)) (behind_aligned near apart e runs a.2 s.1)

-- none of the tuples lies before what was dropped, and behind that the store has all of these marks
pub record HasMarks (marks : List ℕ) (s : Stored) : Type 0 where
  pub behind : All (λ x. s.dropped ≤ x.time) (tuples_of s)
  pub still : (mark : ℕ) → s.dropped < mark → Contains marks mark → Contains s.marks mark

pub parts_at_edges : (windows : List Def) (marks : List ℕ) (s : Stored) → IsOfWindows windows s → HasMarks marks s → (e : ℕ) → IsEdge marks e → IsAligned s.slices e
parts_at_edges windows marks s o h e (inl z) = edges_aligned windows s e o (inl z)
parts_at_edges windows marks s o h e (inr (inr f)) = edges_aligned windows s e o (inr (inr f))
parts_at_edges windows marks s o h e (inr (inl c)) =
    elim (cases_lt s.dropped e) [
      | inl l ↦ edges_aligned windows s e o (inr (inl (h.still e l c)))
      | inr l ↦ behind_aligned (IsNear (has_cut windows s.marks)) (IsApart (has_cut windows s.marks)) e s.slices
          (subst (AreParted (IsNear (has_cut windows s.marks)) (IsApart (has_cut windows s.marks))) (sym o.sliced) (pieces_in_order (has_cut windows s.marks) (tuples_of s) o.in_order))
          (All-weaker (λ (x : Kept). s.dropped ≤ x.time) (λ x. e ≤ x.time) (λ x b. omega (arith, b, l)) (tuples_of s) h.behind)
    ]

-- ---- the marks of the store
pub marks_held : (d : Definitions) (m : Moment) (n : ℕ) (s : Stored) → IsHeld d m n s → HasMarks m.marks s
marks_held d m n s h = record { behind = h.behind; still = h.marks.back }

-- where a tuple comes
pub marks_with : (d : Definitions) (m : Moment) (n : ℕ) (before : Stored) (x : Kept) (more : ℕ) (after : Stored) (w : Def) → Contains d.windows w → is_events w.kind ≡ false → IsPutStep d m n before x more after → HasMarks m.marks after
marks_with d m n before x more after w c e p =
    let s = is_stored d n before x more after w c e p.comes in
    let lies : before.dropped ≤ x.time = omega (arith, p.held.bounded, p.in_time) in
    record {
      behind =
          subst (λ dropped. All (λ (y : Kept). dropped ≤ y.time) (tuples_of after)) (sym s.dropped)
          (subst (All (λ (y : Kept). before.dropped ≤ y.time)) (sym s.tuples) (All_put (λ (y : Kept). before.dropped ≤ y.time) (tuples_of before) x p.held.behind lies));
      still = λ mark l f. subst (λ ms. Contains ms mark) (sym s.marks) (p.held.marks.back mark (subst (λ dropped. dropped < mark) s.dropped l) f);
    }

-- where a mark comes
pub marks_marked : (d : Definitions) (m : Moment) (n : ℕ) (before : Stored) (time : ℕ) (after : Stored) → IsMarkStep d m n before time after → HasMarks (insert_key nat_cmp m.marks time) after
marks_marked d m n before time after p = record {
  behind =
      subst (λ dropped. All (λ (y : Kept). dropped ≤ y.time) (tuples_of after)) (sym p.dropped)
      (subst (All (λ (y : Kept). before.dropped ≤ y.time)) (sym p.tuples) p.held.behind);
  still = λ mark l f. subst (λ ms. Contains ms mark) (sym p.marks)
      (elim (Contains-insert_key_cases nat_cmp time m.marks mark f) [
        | inl same ↦ subst (Contains (insert_key nat_cmp before.marks time)) same (Contains-insert_key_self nat_cmp exact_unsigned time before.marks)
        | inr old ↦ Contains-insert_key nat_cmp time before.marks mark (p.held.marks.back mark (subst (λ dropped. dropped < mark) p.dropped l) old)
      ]);
}

-- ---- spans between edges
abbrev pub AreEdged : List ℕ → List Span → Type 0
AreEdged marks spans = All (λ (s : Span). IsEdge marks s.low × IsEdge marks s.high) spans

pub edged_aligned : (marks : List ℕ) (slices : List (List Kept)) (spans : List Span) → ((e : ℕ) → IsEdge marks e → IsAligned slices e) → AreEdged marks spans → AreAlignedWith slices spans
edged_aligned marks slices spans al a = All-weaker (λ (s : Span). IsEdge marks s.low × IsEdge marks s.high) (IsAlignedWith slices) (λ s e. record { low = al s.low e.0; high = al s.high e.1 }) spans a

pub asked_edged : (marks : List ℕ) (time water : ℕ) (spans : List Span) → AreEdged marks spans → AreEdged marks (asked_at time water spans)
asked_edged marks time water spans a = first (near_of 1 time spans) (All-filter (is_near 1 time) (λ (s : Span). IsEdge marks s.low × IsEdge marks s.high) spans a)
  where
    first : (near : List Span) → AreEdged marks near → AreEdged marks (option_to_list (head_standing water near))
    first [] a = All-nil (λ (s : Span). IsEdge marks s.low × IsEdge marks s.high)
    first (s ∷ ss) a = by (stands water s)
      where
        by : (b : Bool) → AreEdged marks (option_to_list (cond b (Some s) None))
        by true = All-cons (λ (s : Span). IsEdge marks s.low × IsEdge marks s.high) s [] (All-head (λ (s : Span). IsEdge marks s.low × IsEdge marks s.high) s ss a) (All-nil (λ (s : Span). IsEdge marks s.low × IsEdge marks s.high))
        by false = All-nil (λ (s : Span). IsEdge marks s.low × IsEdge marks s.high)

-- the interval that a tuple enters, where the marks at the sides of its time are those of the key
pub entered_edged : (marks : List ℕ) (time water : ℕ) (s : Marked) → AreEdged marks s.spans → holder_of s.marks time ≡ holder_of marks time → AreEdged marks (entered_at time water s)
entered_edged marks time water s a same =
    All-filter (stands water) (λ (t : Span). IsEdge marks t.low × IsEdge marks t.high) (holder_in time s.spans s.marks ∷ [])
    (All-cons (λ (t : Span). IsEdge marks t.low × IsEdge marks t.high) (holder_in time s.spans s.marks) [] (first (near_of 1 time s.spans) (All-filter (is_near 1 time) (λ (t : Span). IsEdge marks t.low × IsEdge marks t.high) s.spans a)) (All-nil (λ (t : Span). IsEdge marks t.low × IsEdge marks t.high)))
  where
    first : (near : List Span) → AreEdged marks near → IsEdge marks (first_or (holder_of s.marks time) near).low × IsEdge marks (first_or (holder_of s.marks time) near).high
    first [] n = subst (λ (t : Span). IsEdge marks t.low × IsEdge marks t.high) (sym same) (sides_are_edges marks time)
    first (t ∷ ts) n = All-head (λ (t : Span). IsEdge marks t.low × IsEdge marks t.high) t ts n

pub due_edged : (marks : List ℕ) (old new : ℕ) (spans : List Span) → AreEdged marks spans → AreEdged marks (due_of old new spans)
due_edged marks old new spans a = All-filter (is_due old new) (λ (s : Span). IsEdge marks s.low × IsEdge marks s.high) spans a

edge_stays : (marks : List ℕ) (time e : ℕ) → IsEdge marks e → IsEdge (insert_key nat_cmp marks time) e
edge_stays marks time e (inl z) = inl z
edge_stays marks time e (inr (inl c)) = inr (inl (Contains-insert_key nat_cmp time marks e c))
edge_stays marks time e (inr (inr f)) = inr (inr f)

pub parts_edged : (marks : List ℕ) (time : ℕ) (spans : List Span) → AreEdged marks spans → AreEdged (insert_key nat_cmp marks time) (with_parts time (parted_of time spans))
parts_edged marks time spans a = first (near_of 1 time spans) (All-filter (is_near 1 time) (λ (s : Span). IsEdge marks s.low × IsEdge marks s.high) spans a)
  where
    first : (near : List Span) → AreEdged marks near → AreEdged (insert_key nat_cmp marks time) (with_parts time (head_before time near))
    first [] a = All-nil (λ (s : Span). IsEdge (insert_key nat_cmp marks time) s.low × IsEdge (insert_key nat_cmp marks time) s.high)
    first (s ∷ ss) a = by (nat_lt s.low time)
      where
        by : (b : Bool) → AreEdged (insert_key nat_cmp marks time) (with_parts time (cond b (Some s) None))
        by true =
            let e = All-head (λ (s : Span). IsEdge marks s.low × IsEdge marks s.high) s ss a in
            let low : IsEdge (insert_key nat_cmp marks time) s.low = edge_stays marks time s.low e.0 in
            let high : IsEdge (insert_key nat_cmp marks time) s.high = edge_stays marks time s.high e.1 in
            let mid : IsEdge (insert_key nat_cmp marks time) time = inr (inl (Contains-insert_key_self nat_cmp exact_unsigned time marks)) in
            All-cons (λ (s : Span). IsEdge (insert_key nat_cmp marks time) s.low × IsEdge (insert_key nat_cmp marks time) s.high) s (front_of time s ∷ back_of time s ∷ []) (low, high)
            (All-cons (λ (s : Span). IsEdge (insert_key nat_cmp marks time) s.low × IsEdge (insert_key nat_cmp marks time) s.high) (front_of time s) (back_of time s ∷ []) (low, mid)
            (All-cons (λ (s : Span). IsEdge (insert_key nat_cmp marks time) s.low × IsEdge (insert_key nat_cmp marks time) s.high) (back_of time s) [] (mid, high)
            (All-nil (λ (s : Span). IsEdge (insert_key nat_cmp marks time) s.low × IsEdge (insert_key nat_cmp marks time) s.high))))
        by false = All-nil (λ (s : Span). IsEdge (insert_key nat_cmp marks time) s.low × IsEdge (insert_key nat_cmp marks time) s.high)
