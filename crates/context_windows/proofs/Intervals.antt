-- Intervals between marks, apart and between edges, with a tuple or a mark more.
use Rattle.std.proofs.Common.{◌≡◌, ◌∙◌, ℕ, ◌+◌, ◌<◌, ◌≤◌, Bool, true, false, cond, not, List, [], ◌∷◌, ◌++◌, None, Some, ap, sym, refl, subst, arith, inl, inr}
use Rattle.std.specs.Prelude.{◌⊎◌, ◌&&◌, nat_le, nat_lt, option_to_list}
use Rattle.std.specs.BTreeSet.{insert_key}
use Rattle.std.specs.List.{All, Contains, filter, list_any}
use Rattle.std.specs.Ordering.{nat_cmp}
use Rattle.std.proofs.lemmas.Bool.{and_from, and_parts, cases_lt, leb-true, lt-ltb, ltb-true}
use Rattle.std.proofs.lemmas.List.Elements.{All-append, All-cons, All-nil, All-contains, All-filter, All-weaker}
use Rattle.std.proofs.lemmas.List.Kept.{IsStrictlyIncreasing-filter}
use Rattle.std.proofs.lemmas.Map.Lookups.{exact_unsigned}
use Rattle.stream_base.specs.declared.limits.TheConstants.{FINAL, TIME_MAX}
use Rattle.stream_base.proofs.Members.{filter_has, filter_members}
use Rattle.stream_base.proofs.Rising.{Contains-head, Contains-insert_key, Contains-insert_key_cases, Contains-insert_key_self, none_in_nil}
use Rattle.stream_base.proofs.Distinct.{All_from_members}
use Rattle.slice_lists.specs.Touched.{marks_left}
use Rattle.slice_lists.proofs.MarkFacts.{rising_more}
use Rattle.window_spans.specs.declared.span.Span.{Span}
use Rattle.window_spans.specs.Parted.{back_of, first_or, front_of, head_before, holder_of, part_if}
use Rattle.window_spans.specs.Spans.{AreApart, is_near, near_of}
use Rattle.window_spans.proofs.Apart.{All_filtered, append_apart, apart_filter, ordered, proper}
use Rattle.window_spans.proofs.MarkSides.{last_by, last_from, next_behind, next_by, next_final}
use Rattle.context_windows.specs.Marked.{AreIntervals, IsClear, IsEdge, holder_in, parted_of}
use Rattle.context_windows.proofs.Enough.{left_own, sides_are_edges, stays}

-- ---- a span between those that end by a time and those that start behind it
pub record IsBetween (spans : List Span) (marks : List ℕ) (time : ℕ) (s : Span) : Type 0 where
  pub proper : s.low ≤ s.high
  pub fronts : (t : Span) → Contains spans t → t.high ≤ time → t.high ≤ s.low
  pub backs : (t : Span) → Contains spans t → time + 1 ≤ t.low → s.high ≤ t.low
  pub low : IsEdge marks s.low
  pub high : IsEdge marks s.high
  pub clear : IsClear marks s

module _ (spans : List Span) (marks : List ℕ) (time : ℕ) (h : AreIntervals spans marks) (l : time ≤ TIME_MAX) where
  early : time < FINAL
  early = omega arith

  -- the interval that holds the time
  pub between_near : (s : Span) → Contains spans s → is_near 1 time s ≡ true → IsBetween spans marks time s
  between_near s c e =
      let n = and_parts (nat_lt time s.high) (nat_lt s.low (time + 1)) e in
      let n1 : time < s.high = ltb-true time s.high n.0 in
      let n2 : s.low < time + 1 = ltb-true s.low (time + 1) n.1 in
      let p : s.low ≤ s.high = All-contains (λ (s : Span). s.low ≤ s.high) spans s (proper spans h.apart) c in
      let g = All-contains (λ (s : Span). IsEdge marks s.low × IsEdge marks s.high) spans s h.edges c in
      record {
        proper = p;
        fronts = λ t d m. elim (ordered spans t s h.apart d c) [
          | inl f ↦ absurd (let k : s.high ≤ time = subst (λ (k : Span). k.high ≤ time) f m in omega arith)
          | inr f ↦ elim f [
            | inl k ↦ k
            | inr k ↦ absurd (let q : t.low ≤ t.high = All-contains (λ (s : Span). s.low ≤ s.high) spans t (proper spans h.apart) d in omega arith)
          ]
        ];
        backs = λ t d m. elim (ordered spans s t h.apart c d) [
          | inl f ↦ absurd (let k : time + 1 ≤ s.low = subst (λ (k : Span). time + 1 ≤ k.low) (sym f) m in omega arith)
          | inr f ↦ elim f [
            | inl k ↦ k
            | inr k ↦ absurd (let q : t.low ≤ t.high = All-contains (λ (s : Span). s.low ≤ s.high) spans t (proper spans h.apart) d in omega arith)
          ]
        ];
        low = g.0;
        high = g.1;
        clear = All-contains (IsClear marks) spans s h.clear c;
      }

  -- the interval between the marks at its sides
  between_marks : IsBetween spans marks time (holder_of marks time)
  between_marks = record {
    proper = (let a = last_by marks time in let b = next_behind marks time early in omega arith);
    fronts = λ t d m. elim (All-contains (λ (s : Span). IsEdge marks s.low × IsEdge marks s.high) spans t h.edges d).1 [
      | inl e ↦ omega arith
      | inr e ↦ elim e [
        | inl c ↦ last_from marks time t.high c m
        | inr f ↦ absurd (omega arith)
      ]
    ];
    backs = λ t d m. elim (All-contains (λ (s : Span). IsEdge marks s.low × IsEdge marks s.high) spans t h.edges d).0 [
      | inl e ↦ absurd (omega arith)
      | inr e ↦ elim e [
        | inl c ↦ next_by marks time t.low c (omega arith)
        | inr f ↦ (let n = next_final marks time in omega arith)
      ]
    ];
    low = (sides_are_edges marks time).0;
    high = (sides_are_edges marks time).1;
    clear = λ m c. elim (cases_lt time m) [ inl l ↦ inr (next_by marks time m c l) | inr l ↦ inl (last_from marks time m c l) ];
  }

  near_head : (near : List Span) → near_of 1 time spans ≡ near → IsBetween spans marks time (first_or (holder_of marks time) near)
  near_head [] e = between_marks
  near_head (s ∷ ss) e =
      let c : Contains (near_of 1 time spans) s = subst (λ l. Contains l s) (sym e) (Contains-head s ss) in
      let d = filter_members (is_near 1 time) spans s c in
      between_near s d.0 d.1

  pub holder_between : IsBetween spans marks time (holder_in time spans marks)
  holder_between = near_head (near_of 1 time spans) refl

  -- some spans in the place of those that hold the time
  around : (mid : List Span) → AreApart mid → ((s : Span) → Contains spans s → s.high ≤ time → All (λ m. s.high ≤ m.low) mid) → All (λ m. (t : Span) → Contains spans t → time + 1 ≤ t.low → m.high ≤ t.low) mid → AreApart (filter (λ s. nat_le s.high time) spans ++ (mid ++ filter (λ s. nat_le (time + 1) s.low) spans))
  around mid a f b =
      append_apart (filter (λ s. nat_le s.high time) spans) (mid ++ filter (λ s. nat_le (time + 1) s.low) spans)
      (apart_filter (λ s. nat_le s.high time) spans h.apart)
      (append_apart mid (filter (λ s. nat_le (time + 1) s.low) spans) a (apart_filter (λ s. nat_le (time + 1) s.low) spans h.apart)
      (All-weaker (λ (m : Span). (t : Span) → Contains spans t → time + 1 ≤ t.low → m.high ≤ t.low) (λ m. All (λ (t : Span). m.high ≤ t.low) (filter (λ s. nat_le (time + 1) s.low) spans)) (λ m k. All_filtered (λ s. nat_le (time + 1) s.low) (λ (t : Span). m.high ≤ t.low) spans (λ t c e. k t c (leb-true (time + 1) t.low e))) mid b))
      (All_filtered (λ s. nat_le s.high time) (λ (s : Span). All (λ t. s.high ≤ t.low) (mid ++ filter (λ s. nat_le (time + 1) s.low) spans)) spans (λ s c e.
      let m : s.high ≤ time = leb-true s.high time e in
      All-append (λ (t : Span). s.high ≤ t.low) mid (filter (λ s. nat_le (time + 1) s.low) spans) (f s c m)
      (All_filtered (λ s. nat_le (time + 1) s.low) (λ (t : Span). s.high ≤ t.low) spans (λ t d g. let n : time + 1 ≤ t.low = leb-true (time + 1) t.low g in omega arith))))

  -- ---- a tuple more
  pub intervals_with : AreIntervals (filter (λ s. nat_le s.high time) spans ++ holder_in time spans marks ∷ filter (λ s. nat_le (time + 1) s.low) spans) marks
  intervals_with =
      let b = holder_between in
      record {
        apart = around (holder_in time spans marks ∷ []) (b.proper, All-nil (λ (t : Span). (holder_in time spans marks).high ≤ t.low), tt)
            (λ s c m. All-cons (λ (t : Span). s.high ≤ t.low) (holder_in time spans marks) [] (b.fronts s c m) (All-nil (λ (t : Span). s.high ≤ t.low)))
            (All-cons (λ (m : Span). (t : Span) → Contains spans t → time + 1 ≤ t.low → m.high ≤ t.low) (holder_in time spans marks) [] b.backs (All-nil (λ (m : Span). (t : Span) → Contains spans t → time + 1 ≤ t.low → m.high ≤ t.low)));
        rising = h.rising;
        in_time = h.in_time;
        edges = All-append (λ (s : Span). IsEdge marks s.low × IsEdge marks s.high) (filter (λ s. nat_le s.high time) spans) (holder_in time spans marks ∷ filter (λ s. nat_le (time + 1) s.low) spans)
            (All-filter (λ s. nat_le s.high time) (λ (s : Span). IsEdge marks s.low × IsEdge marks s.high) spans h.edges)
            (All-cons (λ (s : Span). IsEdge marks s.low × IsEdge marks s.high) (holder_in time spans marks) (filter (λ s. nat_le (time + 1) s.low) spans) (b.low, b.high)
            (All-filter (λ s. nat_le (time + 1) s.low) (λ (s : Span). IsEdge marks s.low × IsEdge marks s.high) spans h.edges));
        clear = All-append (IsClear marks) (filter (λ s. nat_le s.high time) spans) (holder_in time spans marks ∷ filter (λ s. nat_le (time + 1) s.low) spans)
            (All-filter (λ s. nat_le s.high time) (IsClear marks) spans h.clear)
            (All-cons (IsClear marks) (holder_in time spans marks) (filter (λ s. nat_le (time + 1) s.low) spans) b.clear
            (All-filter (λ s. nat_le (time + 1) s.low) (IsClear marks) spans h.clear));
      }

  -- ---- a mark more
  edge_stays : (e : ℕ) → IsEdge marks e → IsEdge (insert_key nat_cmp marks time) e
  edge_stays e (inl z) = inl z
  edge_stays e (inr (inl c)) = inr (inl (Contains-insert_key nat_cmp time marks e c))
  edge_stays e (inr (inr f)) = inr (inr f)

  mark_edge : IsEdge (insert_key nat_cmp marks time) time
  mark_edge = inr (inl (Contains-insert_key_self nat_cmp exact_unsigned time marks))

  edges_stay : (ss : List Span) → All (λ (s : Span). IsEdge marks s.low × IsEdge marks s.high) ss → All (λ (s : Span). IsEdge (insert_key nat_cmp marks time) s.low × IsEdge (insert_key nat_cmp marks time) s.high) ss
  edges_stay ss a = All-weaker (λ (s : Span). IsEdge marks s.low × IsEdge marks s.high) (λ (s : Span). IsEdge (insert_key nat_cmp marks time) s.low × IsEdge (insert_key nat_cmp marks time) s.high) (λ s e. (edge_stays s.low e.0, edge_stays s.high e.1)) ss a

  in_time_with : All (λ m. m ≤ TIME_MAX) (insert_key nat_cmp marks time)
  in_time_with =
      All_from_members (λ m. m ≤ TIME_MAX) (insert_key nat_cmp marks time)
      (λ m c. elim (Contains-insert_key_cases nat_cmp time marks m c) [
        | inl e ↦ subst (λ n. n ≤ TIME_MAX) e l
        | inr d ↦ All-contains (λ m. m ≤ TIME_MAX) marks m h.in_time d
      ])

  -- the time lies beside an interval
  clear_with : (s : Span) → IsClear marks s → (time ≤ s.low) ⊎ (s.high ≤ time) → IsClear (insert_key nat_cmp marks time) s
  clear_with s k beside m c =
      elim (Contains-insert_key_cases nat_cmp time marks m c) [
        | inl e ↦ subst (λ m. (m ≤ s.low) ⊎ (s.high ≤ m)) e beside
        | inr d ↦ k m d
      ]

  fronts_clear : All (IsClear (insert_key nat_cmp marks time)) (filter (λ s. nat_le s.high time) spans)
  fronts_clear = All_filtered (λ s. nat_le s.high time) (IsClear (insert_key nat_cmp marks time)) spans (λ s c e. clear_with s (All-contains (IsClear marks) spans s h.clear c) (inr (leb-true s.high time e)))

  backs_clear : All (IsClear (insert_key nat_cmp marks time)) (filter (λ s. nat_le (time + 1) s.low) spans)
  backs_clear = All_filtered (λ s. nat_le (time + 1) s.low) (IsClear (insert_key nat_cmp marks time)) spans (λ s c e. clear_with s (All-contains (IsClear marks) spans s h.clear c) (inl (let l : time + 1 ≤ s.low = leb-true (time + 1) s.low e in omega arith)))

  -- where none is parted, no interval has the time inside
  beside_all : parted_of time spans ≡ None → (s : Span) → Contains spans s → (time ≤ s.low) ⊎ (s.high ≤ time)
  beside_all e s c =
      elim (cases_lt s.low time) [
        | inl l ↦ elim (cases_lt time s.high) [
          | inl k ↦ absurd (inside l k)
          | inr k ↦ inr k
        ]
        | inr l ↦ inl l
      ]
    where
      inside : s.low < time → time < s.high → ⊥
      inside l k = by (near_of 1 time spans) refl (filter_has (is_near 1 time) spans s c (and_from (nat_lt time s.high) (nat_lt s.low (time + 1)) (lt-ltb time s.high k) (lt-ltb s.low (time + 1) (omega arith)))) e
        where
          some : (n : Span) → nat_lt n.low time ≡ true → cond (nat_lt n.low time) (Some n) None ≡ None → ⊥
          some n t f = let g : Some n ≡ None = ap (λ b. cond b (Some n) None) (sym t) ∙ f in cc

          by : (near : List Span) → near_of 1 time spans ≡ near → Contains near s → head_before time near ≡ None → ⊥
          by [] is d f = none_in_nil s d
          by (n ∷ ns) is d f =
              let m = filter_members (is_near 1 time) spans n (subst (λ l. Contains l n) (sym is) (Contains-head n ns)) in
              let t = and_parts (nat_lt time n.high) (nat_lt n.low (time + 1)) m.1 in
              let ends : time < n.high = ltb-true time n.high t.0 in
              let starts : n.low < time + 1 = ltb-true n.low (time + 1) t.1 in
              elim (ordered spans n s h.apart m.0 c) [
                | inl same ↦ some n (lt-ltb n.low time (let q : n.low ≡ s.low = (λ i. (same i).low) in omega arith)) f
                | inr o ↦ elim o [
                  | inl q ↦ omega arith
                  | inr q ↦ omega arith
                ]
              ]

  pub intervals_marked : parted_of time spans ≡ None → AreIntervals spans (insert_key nat_cmp marks time)
  intervals_marked e = record {
    apart = h.apart;
    rising = rising_more marks time h.rising;
    in_time = in_time_with;
    edges = edges_stay spans h.edges;
    clear = All_from_members (IsClear (insert_key nat_cmp marks time)) spans (λ s c. clear_with s (All-contains (IsClear marks) spans s h.clear c) (beside_all e s c));
  }

  part_cases : (filled : Bool) (forgotten : ℕ) (s : Span) (P : Span → Type 0) → P s → All P (option_to_list (part_if filled forgotten s))
  part_cases filled forgotten s P p = by (filled && nat_lt forgotten s.high)
    where
      by : (b : Bool) → All P (option_to_list (cond b (Some s) None))
      by true = All-cons P s [] p (All-nil P)
      by false = All-nil P

  part_apart : (filled : Bool) (forgotten : ℕ) (s : Span) → s.low ≤ s.high → AreApart (option_to_list (part_if filled forgotten s))
  part_apart filled forgotten s p = by (filled && nat_lt forgotten s.high)
    where
      by : (b : Bool) → AreApart (option_to_list (cond b (Some s) None))
      by true = (p, All-nil (λ (t : Span). s.high ≤ t.low), tt)
      by false = tt

  near_before : (near : List Span) (s : Span) → head_before time near ≡ Some s → Contains near s × (s.low < time)
  near_before [] s e = absurd (ne e)
    where
      ne : None ≡ Some s → ⊥
      ne e = cc
  near_before (n ∷ ns) s e = by (nat_lt n.low time) refl e
    where
      by : (b : Bool) → nat_lt n.low time ≡ b → cond b (Some n) None ≡ Some s → Contains (n ∷ ns) s × (s.low < time)
      by true t e = let same : n ≡ s = cc in (subst (Contains (n ∷ ns)) same (Contains-head n ns), subst (λ (k : Span). k.low < time) same (ltb-true n.low time t))
      by false t e = absurd (ne e)
        where
          ne : None ≡ Some s → ⊥
          ne e = cc

  pub intervals_parted : (s : Span) → parted_of time spans ≡ Some s → (front back : Bool) (forgotten : ℕ) → AreIntervals (filter (λ s. nat_le s.high time) spans ++ ((option_to_list (part_if front forgotten (front_of time s)) ++ option_to_list (part_if back forgotten (back_of time s))) ++ filter (λ s. nat_le (time + 1) s.low) spans)) (insert_key nat_cmp marks time)
  intervals_parted s e front back forgotten =
      let n = near_before (near_of 1 time spans) s e in
      let d = filter_members (is_near 1 time) spans s n.0 in
      let b = between_near s d.0 d.1 in
      let late : time < s.high = ltb-true time s.high (and_parts (nat_lt time s.high) (nat_lt s.low (time + 1)) d.1).0 in
      let f = option_to_list (part_if front forgotten (front_of time s)) in
      let k = option_to_list (part_if back forgotten (back_of time s)) in
      let before : s.low < time = n.1 in
      record {
        apart = around (f ++ k)
            (append_apart f k (part_apart front forgotten (front_of time s) (omega arith)) (part_apart back forgotten (back_of time s) (omega arith))
            (part_cases front forgotten (front_of time s) (λ (m : Span). All (λ (t : Span). m.high ≤ t.low) k) (part_cases back forgotten (back_of time s) (λ (t : Span). time ≤ t.low) (omega arith))))
            (λ t c m. All-append (λ (m : Span). t.high ≤ m.low) f k (part_cases front forgotten (front_of time s) (λ (m : Span). t.high ≤ m.low) (b.fronts t c m)) (part_cases back forgotten (back_of time s) (λ (m : Span). t.high ≤ m.low) m))
            (All-append (λ (m : Span). (t : Span) → Contains spans t → time + 1 ≤ t.low → m.high ≤ t.low) f k
            (part_cases front forgotten (front_of time s) (λ (m : Span). (t : Span) → Contains spans t → time + 1 ≤ t.low → m.high ≤ t.low) (λ t c m. omega arith))
            (part_cases back forgotten (back_of time s) (λ (m : Span). (t : Span) → Contains spans t → time + 1 ≤ t.low → m.high ≤ t.low) b.backs));
        rising = rising_more marks time h.rising;
        in_time = in_time_with;
        edges = All-append (λ (s : Span). IsEdge (insert_key nat_cmp marks time) s.low × IsEdge (insert_key nat_cmp marks time) s.high) (filter (λ s. nat_le s.high time) spans) ((f ++ k) ++ filter (λ s. nat_le (time + 1) s.low) spans)
            (All-filter (λ s. nat_le s.high time) (λ (s : Span). IsEdge (insert_key nat_cmp marks time) s.low × IsEdge (insert_key nat_cmp marks time) s.high) spans (edges_stay spans h.edges))
            (All-append (λ (s : Span). IsEdge (insert_key nat_cmp marks time) s.low × IsEdge (insert_key nat_cmp marks time) s.high) (f ++ k) (filter (λ s. nat_le (time + 1) s.low) spans)
            (All-append (λ (s : Span). IsEdge (insert_key nat_cmp marks time) s.low × IsEdge (insert_key nat_cmp marks time) s.high) f k
            (part_cases front forgotten (front_of time s) (λ (s : Span). IsEdge (insert_key nat_cmp marks time) s.low × IsEdge (insert_key nat_cmp marks time) s.high) (edge_stays s.low b.low, mark_edge))
            (part_cases back forgotten (back_of time s) (λ (s : Span). IsEdge (insert_key nat_cmp marks time) s.low × IsEdge (insert_key nat_cmp marks time) s.high) (mark_edge, edge_stays s.high b.high)))
            (All-filter (λ s. nat_le (time + 1) s.low) (λ (s : Span). IsEdge (insert_key nat_cmp marks time) s.low × IsEdge (insert_key nat_cmp marks time) s.high) spans (edges_stay spans h.edges)));
        clear = All-append (IsClear (insert_key nat_cmp marks time)) (filter (λ s. nat_le s.high time) spans) ((f ++ k) ++ filter (λ s. nat_le (time + 1) s.low) spans) fronts_clear
            (All-append (IsClear (insert_key nat_cmp marks time)) (f ++ k) (filter (λ s. nat_le (time + 1) s.low) spans)
            (All-append (IsClear (insert_key nat_cmp marks time)) f k
            (part_cases front forgotten (front_of time s) (IsClear (insert_key nat_cmp marks time)) (clear_with (front_of time s) (λ m c. elim (b.clear m c) [ inl l ↦ inl l | inr l ↦ inr (omega arith) ]) (inr (omega arith))))
            (part_cases back forgotten (back_of time s) (IsClear (insert_key nat_cmp marks time)) (clear_with (back_of time s) (λ m c. elim (b.clear m c) [ inl l ↦ inl (omega arith) | inr l ↦ inr l ]) (inl (omega arith)))))
            backs_clear);
      }

-- ---- fewer of both
pub intervals_left : (time : ℕ) (spans : List Span) (marks : List ℕ) → AreIntervals spans marks → AreIntervals (filter (λ s. nat_lt time s.high) spans) (marks_left time marks)
intervals_left time spans marks h = record {
  apart = apart_filter (λ s. nat_lt time s.high) spans h.apart;
  rising = IsStrictlyIncreasing-filter (λ m. not (list_any (λ n. nat_lt m n && nat_le n time) marks)) marks h.rising;
  in_time = All-filter (λ m. not (list_any (λ n. nat_lt m n && nat_le n time) marks)) (λ m. m ≤ TIME_MAX) marks h.in_time;
  edges = All_filtered (λ s. nat_lt time s.high) (λ (s : Span). IsEdge (marks_left time marks) s.low × IsEdge (marks_left time marks) s.high) spans
      (λ s c e.
      let open_ : time < s.high = ltb-true time s.high e in
      let clear = All-contains (IsClear marks) spans s h.clear c in
      let g = All-contains (λ (s : Span). IsEdge marks s.low × IsEdge marks s.high) spans s h.edges c in (
        edge_left s.low g.0 (λ n d a b. elim (clear n d) [ inl l ↦ omega arith | inr l ↦ omega arith ]),
        edge_left s.high g.1 (λ n d a b. omega arith),
      ));
  clear = All-filter (λ s. nat_lt time s.high) (IsClear (marks_left time marks)) spans
      (All-weaker (IsClear marks) (IsClear (marks_left time marks)) (λ s k m c. k m (left_own time marks m c)) spans h.clear);
}
  where
    edge_left : (e : ℕ) → IsEdge marks e → ((n : ℕ) → Contains marks n → e < n → n ≤ time → ⊥) → IsEdge (marks_left time marks) e
    edge_left e (inl z) none = inl z
    edge_left e (inr (inl c)) none = inr (inl (stays time marks e c none))
    edge_left e (inr (inr f)) none = inr (inr f)
