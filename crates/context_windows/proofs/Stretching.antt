-- Spans that follow the intervals between marks, and what is told of them.
use Rattle.std.proofs.Common.{◌≡◌, ◌∙◌, ℕ, ◌+◌, ◌<◌, ◌≤◌, Bool, true, false, cond, List, [], ◌∷◌, ◌++◌, length, map, max, Option, None, Some, ap, sym, refl, subst, arith, inl, inr}
use Rattle.std.specs.Prelude.{◌&&◌, nat_le, nat_lt, option_to_list}
use Rattle.std.specs.BTreeSet.{insert_key}
use Rattle.std.specs.List.{All, Contains, filter}
use Rattle.std.specs.Ordering.{nat_cmp}
use Rattle.std.proofs.lemmas.Bool.{and_left, and_parts, lt-ltb, le-ltb, ltb-true}
use Rattle.std.proofs.lemmas.List.{length-map, map-append}
use Rattle.std.proofs.lemmas.List.Elements.{All-cons, All-nil, All-contains, All-filter, All-weaker, Contains-append_cases, Contains-append_right, filter-append}
use Rattle.stream_base.specs.declared.change.Change.{Change}
use Rattle.stream_base.specs.declared.change.Change.TheVariants.{New}
use Rattle.stream_base.specs.declared.func.Func.{Func}
use Rattle.stream_base.specs.declared.kept.Kept.{Kept}
use Rattle.stream_base.specs.declared.limits.TheConstants.{FINAL}
use Rattle.stream_base.specs.Laws.{becomes_complete, completions}
use Rattle.stream_base.specs.Model.Changes.{Moment, row_of}
use Rattle.stream_base.specs.Model.Journal.{put_in_order}
use Rattle.stream_base.specs.Model.Windows.{Instance, between_times, instances_of, interval, is_selecting, stretches, within}
use Rattle.stream_base.proofs.Members.{filter_has, filter_map_of, filter_members}
use Rattle.stream_base.proofs.Rising.{Contains-cons_cases, Contains-head, Contains-tail, nat_rising_is_sorted}
use Rattle.window_laws.specs.After.{complete_at}
use Rattle.window_laws.specs.Stretches.{IsMarkedInStretches, IsPutInStretches, if_selecting}
use Rattle.window_laws.proofs.InstanceFacts.{between_ends}
use Rattle.stream_base.proofs.Filters.{filter_all}
use Rattle.slice_lists.proofs.Order.{All-split}
use Rattle.window_laws.proofs.SessionFacts.{put_times}
use Rattle.window_laws.proofs.StretchFacts.{edges_of, span_of_holder, stretches_after_mark, stretches_after_put}
use Rattle.slice_lists.specs.Touched.{marks_left}
use Rattle.agg_store.specs.Stored.{Stored, tuples_of}
use Rattle.window_spans.specs.declared.span.Span.{Span}
use Rattle.window_spans.specs.declared.standing.Standing.{Standing}
use Rattle.window_spans.specs.Held.{AreHeld, IsHeld}
use Rattle.window_spans.specs.Parted.{first_or, holder_of}
use Rattle.window_spans.specs.Spans.{due_of, head_standing, is_due, is_near, span_of}
use Rattle.window_spans.specs.Telling.{as_standing}
use Rattle.window_spans.proofs.Parts.{filter_alike, filter_twice}
use Rattle.context_windows.specs.Marked.{AreEnoughFrom, FollowsMarks, HoldsStretches, Marked, RemembersHolder, asked_at, holder_in, holder_standing, marks_window, stretches_after}
use Rattle.context_windows.proofs.Enough.{enough_later, holder_alike}
use Rattle.context_windows.proofs.Following.{later_forgotten, only_later}
use Rattle.context_windows.proofs.Thirds.{InThirds, IsMid, backs_later, mids_are, spans_back, spans_front, spans_mid}

-- each interval ends behind its start, and its bound is its end
pub stretch_ends : (marks : List ℕ) (kept : List Kept) → All (λ (i : Instance). (i.low < i.high) × (i.bound ≡ i.high)) (stretches marks kept)
stretch_ends marks kept =
    All-filter is_selecting (λ (i : Instance). (i.low < i.high) × (i.bound ≡ i.high)) (between_times (edges_of marks) kept)
    (All-weaker (λ (i : Instance). (i.low < i.high) × (i.bound ≡ i.high) × (i.chosen ≡ within i.low i.high kept) × Contains (edges_of marks) i.low × Contains (edges_of marks) i.high) (λ i. (i.low < i.high) × (i.bound ≡ i.high)) (λ i h. (h.0, h.1)) (between_times (edges_of marks) kept) (between_ends (edges_of marks) kept (nat_rising_is_sorted (0 ∷ marks ++ FINAL ∷ []))))

All_if : (P : Instance → Type 0) (low high : ℕ) (kept : List Kept) → P (interval low high kept) → All P (if_selecting low high kept)
All_if P low high kept p = by (is_selecting (interval low high kept))
  where
    by : (b : Bool) → All P (cond b (interval low high kept ∷ []) [])
    by true = All-cons P (interval low high kept) [] p (All-nil P)
    by false = All-nil P

-- the intervals in front of a time, the one that holds it, and those behind
pub thirds_of : (marks : List ℕ) (kept : List Kept) (time low high : ℕ) (front back : List Instance) → low ≤ time → time < high → stretches marks kept ≡ front ++ (if_selecting low high kept ++ back) → All (λ (i : Instance). i.high ≤ low) front → All (λ (i : Instance). high ≤ i.low) back
    → InThirds 1 time (stretches marks kept) front (if_selecting low high kept) back
thirds_of marks kept time low high front back starts ends was before behind = record {
  was = was;
  fronts = λ k d l. let a = before k d l in let b = (front_ends k d l).0 in (omega arith, omega arith);
  mids = All_if (IsMid 1 time) low high kept (ends, omega arith);
  backs = λ k d l. let a = behind k d l in let b = (back_ends k d l).0 in (omega arith, omega arith);
}
  where
    ends_of : All (λ (i : Instance). (i.low < i.high) × (i.bound ≡ i.high)) (front ++ (if_selecting low high kept ++ back))
    ends_of = subst (All (λ (i : Instance). (i.low < i.high) × (i.bound ≡ i.high))) was (stretch_ends marks kept)

    front_ends : All (λ (i : Instance). (i.low < i.high) × (i.bound ≡ i.high)) front
    front_ends = (All-split (λ (i : Instance). (i.low < i.high) × (i.bound ≡ i.high)) front (if_selecting low high kept ++ back) ends_of).0

    back_ends : All (λ (i : Instance). (i.low < i.high) × (i.bound ≡ i.high)) back
    back_ends = (All-split (λ (i : Instance). (i.low < i.high) × (i.bound ≡ i.high)) (if_selecting low high kept) back (All-split (λ (i : Instance). (i.low < i.high) × (i.bound ≡ i.high)) front (if_selecting low high kept ++ back) ends_of).1).1

pub marked_thirds : (marks : List ℕ) (kept : List Kept) (time : ℕ) (new : List Instance) (p : IsMarkedInStretches kept time (stretches marks kept) new) → InThirds 1 time (stretches marks kept) p.front (if_selecting p.low p.high kept) p.back
marked_thirds marks kept time new p = thirds_of marks kept time p.low p.high p.front p.back p.starts p.ends p.was p.end_before p.start_behind

pub put_thirds : (marks : List ℕ) (kept : List Kept) (x : Kept) (new : List Instance) (p : IsPutInStretches kept x (stretches marks kept) new) → InThirds 1 x.time (stretches marks kept) p.front (if_selecting p.low p.high kept) p.back
put_thirds marks kept x new p = thirds_of marks kept x.time p.low p.high p.front p.back p.starts p.ends p.was p.end_before p.start_behind

-- ---- the marks of others that differ in their spans alone
pub enough_as : (s new : Marked) (marks : List ℕ) → new.forgotten ≡ s.forgotten → new.marks ≡ s.marks → AreEnoughFrom s.forgotten s.marks marks → AreEnoughFrom new.forgotten new.marks marks
enough_as s new marks at same k = subst (λ n. AreEnoughFrom n new.marks marks) (sym at) (subst (λ ms. AreEnoughFrom s.forgotten ms marks) (sym same) k)

-- ---- forgetting, and what becomes complete
pub marks_later : (time : ℕ) (marks : List ℕ) (kept : List Kept) (old new : Marked) → FollowsMarks marks kept old → new.spans ≡ filter (λ s. nat_lt time s.high) old.spans → new.marks ≡ marks_left time old.marks → new.forgotten ≡ max old.forgotten time → FollowsMarks marks kept new
marks_later time marks kept old new f is same at = record {
  in_order = f.in_order;
  known = subst (λ n. AreEnoughFrom n new.marks marks) (sym at) (subst (λ ms. AreEnoughFrom (max old.forgotten time) ms marks) (sym same) (enough_later old.forgotten time old.marks marks f.known));
  spans = is
      ∙ ap (filter (λ s. nat_lt time s.high)) f.spans
      ∙ filter_map_of (λ s. nat_lt time s.high) span_of (stretches_after old.forgotten marks kept)
      ∙ ap (map span_of) (filter_twice (λ (i : Instance). nat_lt time i.high) (λ i. nat_lt old.forgotten i.high) (λ i. nat_lt (max old.forgotten time) i.high) (λ i. later_forgotten old.forgotten time i.high) (stretches marks kept))
      ∙ ap (λ n. map span_of (stretches_after n marks kept)) (sym at);
}

ends_complete : (old new : ℕ) (marks : List ℕ) (kept : List Kept) → filter (becomes_complete old new) (stretches marks kept) ≡ filter (λ (i : Instance). is_due old new (span_of i)) (stretches marks kept)
ends_complete old new marks kept =
    filter_alike (becomes_complete old new) (λ (i : Instance). is_due old new (span_of i)) (stretches marks kept)
    (All-weaker (λ (i : Instance). (i.low < i.high) × (i.bound ≡ i.high)) (λ i. becomes_complete old new i ≡ is_due old new (span_of i)) (λ i h. ap (λ n. nat_lt old n && nat_le n new) h.1) (stretches marks kept) (stretch_ends marks kept))

pub marks_due : (old new : ℕ) (marks : List ℕ) (kept : List Kept) (s : Marked) → FollowsMarks marks kept s → s.forgotten ≤ old → due_of old new s.spans ≡ map span_of (filter (becomes_complete old new) (stretches marks kept))
marks_due old new marks kept s f le =
    ap (due_of old new) f.spans
    ∙ filter_map_of (is_due old new) span_of (stretches_after s.forgotten marks kept)
    ∙ ap (map span_of) (filter_twice (λ (i : Instance). is_due old new (span_of i)) (λ i. nat_lt s.forgotten i.high) (λ i. is_due old new (span_of i)) (λ i. only_later s.forgotten i.high (is_due old new (span_of i)) (λ l. and_left (nat_lt old i.high) (nat_le i.high new) (le-ltb old i.high (omega arith)))) (stretches marks kept)
    ∙ sym (ends_complete old new marks kept))

pub marks_completions : (window : ℕ) (func : Func) (key : List ℕ) (m : Moment) (new : ℕ) → completions key m new (window, marks_window func) ≡ map (λ i. New (row_of window key func i)) (filter (becomes_complete m.water new) (stretches m.marks m.kept))
unfolding instances_of
marks_completions window func key m new = refl

pub marks_due_length : (window : ℕ) (func : Func) (key : List ℕ) (m : Moment) (old new : ℕ) (s : Marked) → FollowsMarks m.marks m.kept s → s.forgotten ≤ old → m.water ≡ old → length (due_of old new s.spans) ≡ length (completions key m new (window, marks_window func))
marks_due_length window func key m old new s f le at =
    ap length (marks_due old new m.marks m.kept s f le)
    ∙ length-map (filter (becomes_complete old new) (stretches m.marks m.kept)) span_of
    ∙ ap (λ w. length (filter (becomes_complete w new) (stretches m.marks m.kept))) (sym at)
    ∙ sym (length-map (filter (becomes_complete m.water new) (stretches m.marks m.kept)) (λ i. New (row_of window key func i)))
    ∙ ap length (sym (marks_completions window func key m new))

-- ---- what the store holds
pub held_each : (time : ℕ) (marks : List ℕ) (kept : List Kept) (store : Stored) → HoldsStretches time marks kept store → (i : Instance) → Contains (stretches marks kept) i → time < i.high → IsHeld (span_of i) store i
held_each time marks kept store h i c l =
    let d : Contains (stretches_after time marks kept) i = filter_has (λ (i : Instance). nat_lt time i.high) (stretches marks kept) i c (lt-ltb time i.high l) in
    record {
      span = refl;
      chosen = All-contains (λ (i : Instance). within i.low i.high (tuples_of store) ≡ i.chosen) (stretches_after time marks kept) i h.chosen d;
    }

held_list : (store : Stored) (is : List Instance) → ((i : Instance) → Contains is i → IsHeld (span_of i) store i) → AreHeld (map span_of is) store is
held_list store [] h = tt
held_list store (i ∷ is) h = (h i (Contains-head i is), held_list store is (λ k c. h k (Contains-tail i is k c)))

pub marks_move_told : (window : ℕ) (func : Func) (key : List ℕ) (m : Moment) (old new : ℕ) (s : Marked) (store : Stored) → FollowsMarks m.marks m.kept s → s.forgotten ≤ old → m.water ≡ old → HoldsStretches old m.marks m.kept store
    → (spans : List Span) → spans ≡ due_of old new s.spans → (out all : List Change)
    → ((is : List Instance) → AreHeld spans store is → all ≡ out ++ map (λ i. New (row_of window key func i)) is)
    → all ≡ out ++ completions key m new (window, marks_window func)
marks_move_told window func key m old new s store f le at held spans is out all told =
    told (filter (becomes_complete old new) (stretches m.marks m.kept))
    (subst (λ l. AreHeld l store (filter (becomes_complete old new) (stretches m.marks m.kept))) (sym (is ∙ marks_due old new m.marks m.kept s f le))
    (held_list store (filter (becomes_complete old new) (stretches m.marks m.kept))
    (λ i c.
    let d = filter_members (becomes_complete old new) (stretches m.marks m.kept) i c in
    let b : i.bound ≡ i.high = (All-contains (λ (i : Instance). (i.low < i.high) × (i.bound ≡ i.high)) (stretches m.marks m.kept) i (stretch_ends m.marks m.kept) d.0).1 in
    let l : old < i.bound = ltb-true old i.bound (and_parts (nat_lt old i.bound) (nat_le i.bound new) d.1).0 in
    held_each old m.marks m.kept store held i d.0 (omega arith))))
    ∙ ap (λ l. out ++ l)
    (ap (λ w. map (λ i. New (row_of window key func i)) (filter (becomes_complete w new) (stretches m.marks m.kept))) (sym at)
    ∙ sym (marks_completions window func key m new))

-- ---- what is kept before a put
head_is : (water low high : ℕ) (kept : List Kept) → option_to_list (head_standing water (map span_of (if_selecting low high kept))) ≡ map span_of (complete_at water (if_selecting low high kept))
head_is water low high kept = by (is_selecting (interval low high kept)) (nat_le high water) refl
  where
    by : (b c : Bool) → nat_le high water ≡ c → option_to_list (head_standing water (map span_of (cond b (interval low high kept ∷ []) []))) ≡ map span_of (complete_at water (cond b (interval low high kept ∷ []) []))
    by false c e = refl
    by true c e = ap (λ c. option_to_list (cond c (Some (span_of (interval low high kept))) None)) e ∙ one c ∙ ap (λ c. map span_of (cond c (interval low high kept ∷ []) [])) (sym e)
      where
        one : (c : Bool) → option_to_list (cond c (Some (span_of (interval low high kept))) None) ≡ map span_of (cond c (interval low high kept ∷ []) [])
        one true = refl
        one false = refl

-- what is asked is the interval that holds the time, where it has a tuple and stands
pub asked_spans : (time water : ℕ) (marks : List ℕ) (kept : List Kept) (s : Marked) → time < FINAL → FollowsMarks marks kept s → s.forgotten ≤ time → asked_at time water s.spans ≡ map span_of (holder_standing time water marks kept)
asked_spans time water marks kept s early f le =
    let p = stretches_after_mark marks kept time early in
    let t = marked_thirds marks kept time (stretches (insert_key nat_cmp marks time) kept) p in
    let near : holder_standing time water marks kept ≡ complete_at water (if_selecting p.low p.high kept) = ap (complete_at water) (mids_are 1 time (stretches marks kept) p.front (if_selecting p.low p.high kept) p.back t) in
    ap (λ l. option_to_list (head_standing water l)) (spans_mid 1 time (stretches marks kept) p.front (if_selecting p.low p.high kept) p.back t s.forgotten le s.spans f.spans)
    ∙ head_is water p.low p.high kept
    ∙ ap (map span_of) (sym near)

pub marks_remembered : (func : Func) (time water : ℕ) (marks : List ℕ) (kept : List Kept) (old new : Marked) (store : Stored) → time < FINAL → FollowsMarks marks kept old → old.forgotten ≤ time → HoldsStretches time marks kept store
    → (asked : Option Span) → option_to_list asked ≡ asked_at time water old.spans → (r : Option Standing) → new.stood ≡ option_to_list r
    → ((is : List Instance) → AreHeld (option_to_list asked) store is → option_to_list r ≡ map (as_standing func) is)
    → RemembersHolder func time water marks kept new
marks_remembered func time water marks kept old new store early f le held asked is r stood told =
    let spans : option_to_list asked ≡ map span_of (holder_standing time water marks kept) = is ∙ asked_spans time water marks kept old early f le in
    record {
      stood = stood
          ∙ told (holder_standing time water marks kept)
          (subst (λ l. AreHeld l store (holder_standing time water marks kept)) (sym spans)
          (held_list store (holder_standing time water marks kept)
          (λ i c.
          let d = filter_members (λ (i : Instance). nat_le i.bound water) (filter (λ (i : Instance). is_near 1 time (span_of i)) (stretches marks kept)) i c in
          let e = filter_members (λ (i : Instance). is_near 1 time (span_of i)) (stretches marks kept) i d.0 in
          held_each time marks kept store held i e.0 (ltb-true time i.high (and_parts (nat_lt time i.high) (nat_lt i.low (time + 1)) e.1).0))));
    }

-- ---- a put
-- only one interval holds the tuple
one_holder : (kept : List Kept) (x : Kept) (old new : List Instance) (p q : IsPutInStretches kept x old new) → (q.low ≡ p.low) × (q.high ≡ p.high)
one_holder kept x old new p q =
    let c : Contains new (interval q.low q.high (put_in_order kept x)) = subst (λ l. Contains l (interval q.low q.high (put_in_order kept x))) (sym q.is) (Contains-append_right q.front (interval q.low q.high (put_in_order kept x) ∷ q.back) (interval q.low q.high (put_in_order kept x)) (Contains-head (interval q.low q.high (put_in_order kept x)) q.back)) in
    let starts : q.low ≤ x.time = q.starts in
    let ends : x.time < q.high = q.ends in
    let starts2 : p.low ≤ x.time = p.starts in
    let ends2 : x.time < p.high = p.ends in
    elim (Contains-append_cases p.front (interval p.low p.high (put_in_order kept x) ∷ p.back) (interval q.low q.high (put_in_order kept x)) (subst (λ l. Contains l (interval q.low q.high (put_in_order kept x))) p.is c)) [
      | inl d ↦ absurd (let l : q.high ≤ p.low = All-contains (λ (i : Instance). i.high ≤ p.low) p.front (interval q.low q.high (put_in_order kept x)) p.end_before d in omega arith)
      | inr d ↦ elim (Contains-cons_cases (interval p.low p.high (put_in_order kept x)) p.back (interval q.low q.high (put_in_order kept x)) d) [
        | inl e ↦ (sym (ap (λ (i : Instance). i.low) e), sym (ap (λ (i : Instance). i.high) e))
        | inr b ↦ absurd (let l : p.high ≤ q.low = All-contains (λ (i : Instance). p.high ≤ i.low) p.back (interval q.low q.high (put_in_order kept x)) p.start_behind b in omega arith)
      ]
    ]

first_is : (other span : Span) (low high : ℕ) (kept : List Kept) → span ≡ record { low = low; high = high } → other ≡ span → first_or other (map span_of (if_selecting low high kept)) ≡ span
first_is other span low high kept e f = by (is_selecting (interval low high kept))
  where
    by : (b : Bool) → first_or other (map span_of (cond b (interval low high kept ∷ []) [])) ≡ span
    by true = sym e
    by false = f

module _ (marks : List ℕ) (kept : List Kept) (x : Kept) (s : Marked) (early : x.time < FINAL) (f : FollowsMarks marks kept s) (le : s.forgotten ≤ x.time) where
  pub holder_is : (q : IsPutInStretches kept x (stretches marks kept) (stretches marks (put_in_order kept x))) → holder_in x.time s.spans s.marks ≡ record { low = q.low; high = q.high }
  holder_is q =
      let p = stretches_after_put marks kept x early in
      let same = one_holder kept x (stretches marks kept) (stretches marks (put_in_order kept x)) p q in
      let sides = span_of_holder marks kept x early in
      let other : holder_of s.marks x.time ≡ record { low = q.low; high = q.high } =
      holder_alike s.forgotten s.marks marks x.time f.known le
      ∙ (λ i. record { low = sym sides.0 i; high = sym sides.1 i })
      ∙ (λ i. record { low = sym same.0 i; high = sym same.1 i }) in
      ap (first_or (holder_of s.marks x.time)) (spans_mid 1 x.time (stretches marks kept) q.front (if_selecting q.low q.high kept) q.back (put_thirds marks kept x (stretches marks (put_in_order kept x)) q) s.forgotten le s.spans f.spans)
      ∙ first_is (holder_of s.marks x.time) (record { low = q.low; high = q.high }) q.low q.high kept refl other

  pub marks_put_follows : (new : Marked) → new.spans ≡ filter (λ s. nat_le s.high x.time) s.spans ++ holder_in x.time s.spans s.marks ∷ filter (λ t. nat_le (x.time + 1) t.low) s.spans → new.marks ≡ s.marks → new.forgotten ≡ s.forgotten → FollowsMarks marks (put_in_order kept x) new
  marks_put_follows new is same at =
      let p = stretches_after_put marks kept x early in
      let t = put_thirds marks kept x (stretches marks (put_in_order kept x)) p in
      let one : Instance = interval p.low p.high (put_in_order kept x) in
      let mid = if_selecting p.low p.high kept in
      let late : x.time < p.high = p.ends in
      let new_parts : stretches_after s.forgotten marks (put_in_order kept x) ≡ filter (λ (i : Instance). nat_lt s.forgotten i.high) p.front ++ (one ∷ p.back) =
      ap (filter (λ (i : Instance). nat_lt s.forgotten i.high)) p.is
      ∙ filter-append (λ (i : Instance). nat_lt s.forgotten i.high) p.front (one ∷ p.back)
      ∙ ap (λ l. filter (λ (i : Instance). nat_lt s.forgotten i.high) p.front ++ l)
      (ap (λ b. cond b (one ∷ filter (λ (i : Instance). nat_lt s.forgotten i.high) p.back) (filter (λ (i : Instance). nat_lt s.forgotten i.high) p.back)) (lt-ltb s.forgotten p.high (omega arith))
      ∙ ap (λ l. one ∷ l) (filter_all (λ (i : Instance). nat_lt s.forgotten i.high) p.back (backs_later 1 x.time (stretches marks kept) p.front mid p.back t s.forgotten le))) in
      record {
        in_order = put_times kept x f.in_order;
        known = enough_as s new marks at same f.known;
        spans = is
            ∙ (λ k. spans_front 1 x.time (stretches marks kept) p.front mid p.back t s.forgotten le s.spans f.spans k ++ holder_is p k ∷ spans_back 1 x.time (stretches marks kept) p.front mid p.back t s.forgotten le s.spans f.spans k)
            ∙ sym (map-append span_of (filter (λ (i : Instance). nat_lt s.forgotten i.high) p.front) (one ∷ p.back))
            ∙ ap (map span_of) (sym new_parts)
            ∙ ap (λ n. map span_of (stretches_after n marks (put_in_order kept x))) (sym at);
      }
