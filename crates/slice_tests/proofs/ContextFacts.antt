-- What context windows ask of a store, of one that is kept together with them.
use Rattle.std.proofs.Common.{◌≡◌, ◌∙◌, ℕ, ◌+◌, ◌<◌, ◌≤◌, fold, max, min, Bool, true, false, cond, List, [], ◌∷◌, ◌++◌, length, None, Some, ap, sym, refl, subst, arith, inl, inr}
use Rattle.std.specs.Prelude.{◌⊎◌, nat_le, nat_lt, option_to_list}
use Rattle.std.specs.BTreeSet.{insert_key}
use Rattle.std.specs.List.{All, Contains, filter}
use Rattle.std.specs.Ordering.{nat_cmp}
use Rattle.std.proofs.lemmas.List.Elements.{All-cons, All-nil, All-contains, All-filter, All-head, All-weaker, Contains-append_cases, Contains-get_or}
use Rattle.std.proofs.lemmas.Map.Lookups.{exact_unsigned}
use Rattle.stream_base.specs.declared.kept.Kept.{Kept}
use Rattle.stream_base.specs.declared.limits.TheConstants.{FINAL, TIME_MAX}
use Rattle.stream_base.specs.Limits.{AreWithinLimits, Definitions}
use Rattle.stream_base.specs.Model.Journal.{put_in_order}
use Rattle.stream_base.specs.Model.Windows.{Instance, between_times, is_selecting, stretches, within}
use Rattle.stream_base.proofs.Distinct.{All_from_members}
use Rattle.stream_base.proofs.EventOrder.{put_in_order_cons}
use Rattle.stream_base.proofs.Members.{filter_members}
use Rattle.stream_base.proofs.Rising.{Contains-cons_cases, Contains-head, Contains-insert_key, Contains-insert_key_self, Contains-tail, nat_rising_is_sorted, nat_rising_members, none_in_nil}
use Rattle.key_parts.specs.Calls.{window_at}
use Rattle.slice_lists.specs.Runs.{IsAligned}
use Rattle.window_laws.proofs.InstanceFacts.{between_ends}
use Rattle.slice_lists.proofs.Order.{All-map_of}
use Rattle.window_laws.proofs.StretchFacts.{edges_of}
use Rattle.agg_store.specs.Stored.{IsSliced, IsStore, Stored, tuples_of, IsAsBefore as IsStoreAsBefore}
use Rattle.slice_lists.proofs.SliceOrder.{times_of_order}
use Rattle.window_spans.specs.declared.span.Span.{Span}
use Rattle.window_spans.specs.Held.{AreAlignedWith, IsAlignedWith}
use Rattle.window_spans.specs.Parted.{back_of, first_or, front_of, head_before, holder_of}
use Rattle.window_spans.specs.Spans.{head_standing, near_of, is_near, span_of, stands}
use Rattle.context_windows.specs.Aligned.{IsOfSessions, IsOfWindows}
use Rattle.context_windows.specs.Marked.{FollowsMarks, HoldsStretches, IsEdge, IsMarkedAsBefore, Marked, holder_in, parted_of, stretches_after, with_parts}
use Rattle.context_windows.specs.Spanned.{FollowsSessions, IsAsBefore, IsSessionAt, Spanned}
use Rattle.slice_tests.specs.Together.{AreOfMarks, AreOfSessions}

pub cut_for : (d : Definitions) (store : Stored) → AreWithinLimits d → IsStore store → IsSliced d.windows store → IsOfWindows d.windows store
cut_for d store l h s = record {
  kinds = l.kinds;
  sliced = s;
  in_order = times_of_order store.slices h.slices.ordered;
  early = All-weaker (λ (x : Kept). x.time ≤ TIME_MAX) (λ x. x.time < FINAL) (λ x m. omega arith) (tuples_of store) h.slices.in_time;
}

-- ---- sessions
pub of_sessions : (d : Definitions) (store : Stored) → IsSessionAt d 0 → IsOfWindows d.windows store → IsOfSessions d.windows (window_at d 0) (tuples_of store) store
of_sessions d store at o = record {
  sliced = o;
  member = Contains-get_or d.windows 0 _ at.within;
  session = at.session;
  early = o.early;
  some = All_from_members (Contains (tuples_of store)) (tuples_of store) (λ x c. c);
}

pub sessions_stay : (d : Definitions) (store new : Stored) (s t : Spanned) → AreOfSessions d store s → IsStoreAsBefore store new → IsAsBefore s t → AreOfSessions d new t
sessions_stay d store new s t h b k = record {
  session = h.session;
  sliced = rw (b.slices, b.marks) h.sliced;
  follows = record { in_order = rw b.slices h.follows.in_order; spans = rw (k.spans, k.forgotten, b.slices) h.follows.spans };
}

pub sessions_after_before : (gap : ℕ) (kept : List Kept) (s t : Spanned) → FollowsSessions gap kept s → t.spans ≡ s.spans → t.forgotten ≡ s.forgotten → FollowsSessions gap kept t
sessions_after_before gap kept s t f e k = record { in_order = f.in_order; spans = rw (e, k) f.spans }

-- ---- intervals between marks
pub marks_stay : (d : Definitions) (store new : Stored) (s t : Marked) → AreOfMarks d store s → IsStoreAsBefore store new → IsMarkedAsBefore s t → AreOfMarks d new t
marks_stay d store new s t h b k = record {
  sliced = rw (b.slices, b.marks) h.sliced;
  follows = record { in_order = rw b.slices h.follows.in_order; known = rw (k.marks, k.forgotten, b.marks) h.follows.known; spans = rw (k.spans, k.forgotten, b.slices, b.marks) h.follows.spans };
}

pub marks_after_before : (marks : List ℕ) (kept : List Kept) (s t : Marked) → FollowsMarks marks kept s → t.spans ≡ s.spans → t.marks ≡ s.marks → t.forgotten ≡ s.forgotten → FollowsMarks marks kept t
marks_after_before marks kept s t f e m k = record { in_order = f.in_order; known = rw (m, k) f.known; spans = rw (e, k) f.spans }

put_length : (kept : List Kept) (x : Kept) → length (put_in_order kept x) ≡ length kept + 1
put_length [] x = refl
put_length (y ∷ ys) x = ap length (put_in_order_cons y ys x) ∙ by (nat_lt x.time y.time) (put_length ys x)
  where
    by : (b : Bool) → length (put_in_order ys x) ≡ length ys + 1 → length (cond b (x ∷ y ∷ ys) (y ∷ put_in_order ys x)) ≡ length (y ∷ ys) + 1
    by true e = omega arith
    by false e = omega arith

pub longer : (store new : Stored) (x : Kept) (most : ℕ) → IsStoreAsBefore store new → length (tuples_of store) ≤ most → length (put_in_order (tuples_of new) x) ≤ most + 1
longer store new x most b l = omega (arith, put_length (tuples_of new) x, same)
  where
    same : length (tuples_of new) ≤ most
    same = rw b.slices l

pub as_many : (store new other : Stored) (most : ℕ) → IsStoreAsBefore store new → tuples_of other ≡ tuples_of new → length (tuples_of store) ≤ most → length (tuples_of other) ≤ most
as_many store new other most b e l = rw (e, b.slices) l

-- a span that starts and ends at edges
abbrev pub LiesBetween : List ℕ → Span → Type 0
LiesBetween marks s = IsEdge marks s.low × IsEdge marks s.high

edge_of : (marks : List ℕ) (e : ℕ) → Contains (edges_of marks) e → IsEdge marks e
edge_of marks e c =
    elim (Contains-cons_cases 0 (marks ++ FINAL ∷ []) e ((nat_rising_members (0 ∷ marks ++ FINAL ∷ []) e).0 c)) [
      | inl z ↦ inl (sym z)
      | inr d ↦ elim (Contains-append_cases marks (FINAL ∷ []) e d) [
        | inl m ↦ inr (inl m)
        | inr f ↦ elim (Contains-cons_cases FINAL [] e f) [
          | inl k ↦ inr (inr (sym k))
          | inr n ↦ absurd (none_in_nil e n)
        ]
      ]
    ]

abbrev IsWithinEdges : List ℕ → List Kept → Instance → Type 0
IsWithinEdges marks kept i = (i.low < i.high) × (i.bound ≡ i.high) × (i.chosen ≡ within i.low i.high kept) × Contains (edges_of marks) i.low × Contains (edges_of marks) i.high

stretch_is : (marks : List ℕ) (kept : List Kept) (i : Instance) → Contains (stretches marks kept) i → IsWithinEdges marks kept i
stretch_is marks kept i c = All-contains (IsWithinEdges marks kept) (between_times (edges_of marks) kept) i (between_ends (edges_of marks) kept (nat_rising_is_sorted (0 ∷ marks ++ FINAL ∷ []))) (filter_members is_selecting (between_times (edges_of marks) kept) i c).0

after_is : (time : ℕ) (marks : List ℕ) (kept : List Kept) (i : Instance) → Contains (stretches_after time marks kept) i → IsWithinEdges marks kept i
after_is time marks kept i c = stretch_is marks kept i (filter_members (λ (i : Instance). nat_lt time i.high) (stretches marks kept) i c).0

pub spans_lie : (marks : List ℕ) (kept : List Kept) (s : Marked) → FollowsMarks marks kept s → All (LiesBetween marks) s.spans
spans_lie marks kept s f =
    subst (All (LiesBetween marks)) (sym f.spans)
    (All-map_of (LiesBetween marks) span_of (stretches_after s.forgotten marks kept)
    (All_from_members (λ i. LiesBetween marks (span_of i)) (stretches_after s.forgotten marks kept)
    (λ i c. let h = after_is s.forgotten marks kept i c in (edge_of marks i.low h.3, edge_of marks i.high h.4))))

pub holds_all : (time : ℕ) (marks : List ℕ) (store : Stored) → HoldsStretches time marks (tuples_of store) store
holds_all time marks store = record {
  chosen = All_from_members _ (stretches_after time marks (tuples_of store)) (λ i c. sym (after_is time marks (tuples_of store) i c).2);
}

most_is : (start : ℕ) (xs : List ℕ) → (fold max start xs ≡ start) ⊎ Contains xs (fold max start xs)
most_is start [] = inl refl
most_is start (x ∷ xs) =
    elim (most_is (max start x) xs) [
      | inl e ↦ elim (larger start x) [
        | inl f ↦ inl (e ∙ f)
        | inr f ↦ inr (subst (Contains (x ∷ xs)) (sym (e ∙ f)) (Contains-head x xs))
      ]
      | inr c ↦ inr (Contains-tail x xs (fold max (max start x) xs) c)
    ]
  where
    larger : (a b : ℕ) → (max a b ≡ a) ⊎ (max a b ≡ b)
    larger a b = grind arith

least_is : (start : ℕ) (xs : List ℕ) → (fold min start xs ≡ start) ⊎ Contains xs (fold min start xs)
least_is start [] = inl refl
least_is start (x ∷ xs) =
    elim (least_is (min start x) xs) [
      | inl e ↦ elim (smaller start x) [
        | inl f ↦ inl (e ∙ f)
        | inr f ↦ inr (subst (Contains (x ∷ xs)) (sym (e ∙ f)) (Contains-head x xs))
      ]
      | inr c ↦ inr (Contains-tail x xs (fold min (min start x) xs) c)
    ]
  where
    smaller : (a b : ℕ) → (min a b ≡ a) ⊎ (min a b ≡ b)
    smaller a b = grind arith

holder_lies : (marks : List ℕ) (time : ℕ) → LiesBetween marks (holder_of marks time)
holder_lies marks time = (
  elim (most_is 0 (filter (λ m. nat_le m time) marks)) [ inl e ↦ inl e | inr c ↦ inr (inl (filter_members (λ m. nat_le m time) marks (fold max 0 (filter (λ m. nat_le m time) marks)) c).0) ],
  elim (least_is FINAL (filter (λ m. nat_lt time m) marks)) [ inl e ↦ inr (inr e) | inr c ↦ inr (inl (filter_members (λ m. nat_lt time m) marks (fold min FINAL (filter (λ m. nat_lt time m) marks)) c).0) ],
)

first_lies : (P : Span → Type 0) (other : Span) (ss : List Span) → P other → All P ss → P (first_or other ss)
first_lies P other [] p a = p
first_lies P other (s ∷ ss) p a = All-head P s ss a

pub within_lies : (time : ℕ) (marks some : List ℕ) (spans : List Span) → holder_of some time ≡ holder_of marks time → All (LiesBetween marks) spans → LiesBetween marks (holder_in time spans some)
within_lies time marks some spans same a = first_lies (LiesBetween marks) (holder_of some time) (near_of 1 time spans) (subst (LiesBetween marks) (sym same) (holder_lies marks time)) (All-filter (is_near 1 time) (LiesBetween marks) spans a)

pub standing_lies : (water : ℕ) (P : Span → Type 0) (ss : List Span) → All P ss → All P (option_to_list (head_standing water ss))
standing_lies water P [] a = All-nil P
standing_lies water P (s ∷ ss) a = by (stands water s)
  where
    by : (b : Bool) → All P (option_to_list (cond b (Some s) None))
    by true = All-cons P s [] (All-head P s ss a) (All-nil P)
    by false = All-nil P

parts_lie : (time : ℕ) (marks : List ℕ) (ss : List Span) → IsEdge marks time → All (LiesBetween marks) ss → All (LiesBetween marks) (with_parts time (head_before time ss))
parts_lie time marks [] e a = All-nil (LiesBetween marks)
parts_lie time marks (s ∷ ss) e a = by (nat_lt s.low time)
  where
    h : LiesBetween marks s
    h = All-head (LiesBetween marks) s ss a

    by : (b : Bool) → All (LiesBetween marks) (with_parts time (cond b (Some s) None))
    by true = All-cons (LiesBetween marks) s (front_of time s ∷ back_of time s ∷ []) h (All-cons (LiesBetween marks) (front_of time s) (back_of time s ∷ []) (h.0, e) (All-cons (LiesBetween marks) (back_of time s) [] (e, h.1) (All-nil (LiesBetween marks))))
    by false = All-nil (LiesBetween marks)

edge_stays : (marks : List ℕ) (time e : ℕ) → IsEdge marks e → IsEdge (insert_key nat_cmp marks time) e
edge_stays marks time e (inl z) = inl z
edge_stays marks time e (inr (inl c)) = inr (inl (Contains-insert_key nat_cmp time marks e c))
edge_stays marks time e (inr (inr f)) = inr (inr f)

-- the spans that a mark parts and makes, once the mark is among the others
pub marked_lie : (time : ℕ) (marks : List ℕ) (spans : List Span) → All (LiesBetween marks) spans → All (LiesBetween (insert_key nat_cmp marks time)) (with_parts time (parted_of time spans))
marked_lie time marks spans a =
    parts_lie time (insert_key nat_cmp marks time) (near_of 1 time spans) (inr (inl (Contains-insert_key_self nat_cmp exact_unsigned time marks)))
    (All-filter (is_near 1 time) (LiesBetween (insert_key nat_cmp marks time)) spans
    (All-weaker (LiesBetween marks) (LiesBetween (insert_key nat_cmp marks time)) (λ s h. (edge_stays marks time s.low h.0, edge_stays marks time s.high h.1)) spans a))

-- slices part at the edges of spans, where they do at each edge
pub edges_align : (slices : List (List Kept)) (marks : List ℕ) → ((e : ℕ) → IsEdge marks e → IsAligned slices e) → (ss : List Span) → All (LiesBetween marks) ss → AreAlignedWith slices ss
edges_align slices marks align ss a = All-weaker (LiesBetween marks) (IsAlignedWith slices) (λ s h. record { low = align s.low h.0; high = align s.high h.1 }) ss a
