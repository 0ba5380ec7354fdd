-- Some of the marks are enough from a time on.
use Rattle.std.proofs.Common.{◌≡◌, ◌∙◌, ℕ, ◌<◌, ◌≤◌, fold, max, min, not, false, List, [], ◌∷◌, ap, sym, refl, subst, arith, inl, inr}
use Rattle.std.specs.Prelude.{◌⊎◌, ◌&&◌, nat_le, nat_lt}
use Rattle.std.specs.BTreeSet.{insert_key}
use Rattle.std.specs.List.{Contains, filter, list_any}
use Rattle.std.specs.Ordering.{nat_cmp}
use Rattle.std.proofs.lemmas.Bool.{and_left, and_right, cases_lt, le-ltb, lt-leb, ltb-true}
use Rattle.std.proofs.lemmas.List.Folds.{list_any_none}
use Rattle.std.proofs.lemmas.Map.Lookups.{exact_unsigned}
use Rattle.stream_base.specs.declared.limits.TheConstants.{FINAL}
use Rattle.stream_base.proofs.Distinct.{All_from_members}
use Rattle.stream_base.proofs.Members.{filter_has, filter_members}
use Rattle.stream_base.proofs.Rising.{Contains-head, Contains-insert_key, Contains-insert_key_cases, Contains-insert_key_self, Contains-tail}
use Rattle.window_laws.specs.Stretches.{last_mark, next_mark}
use Rattle.slice_lists.specs.Touched.{marks_left}
use Rattle.window_spans.specs.Parted.{holder_of}
use Rattle.window_spans.proofs.MarkSides.{last_by, last_from, next_by, next_final}
use Rattle.context_windows.specs.Marked.{AreEnoughFrom, IsEdge}

-- ---- what the greatest and the least of some numbers are
most_is : (start : ℕ) (xs : List ℕ) → (fold max start xs ≡ start) ⊎ Contains xs (fold max start xs)
most_is start [] = inl refl
most_is start (x ∷ xs) =
    elim (most_is (max start x) xs) [
      | inl e ↦ elim (larger start x) [
        | inl f ↦ inl (e ∙ f)
        | inr f ↦ inr (subst (Contains (x ∷ xs)) (sym (e ∙ f)) (Contains-head x xs))
      ]
      | inr c ↦ inr (Contains-tail x xs (fold max (max start x) xs) c)
    ]
  where
    larger : (a b : ℕ) → (max a b ≡ a) ⊎ (max a b ≡ b)
    larger a b = grind arith

least_is : (start : ℕ) (xs : List ℕ) → (fold min start xs ≡ start) ⊎ Contains xs (fold min start xs)
least_is start [] = inl refl
least_is start (x ∷ xs) =
    elim (least_is (min start x) xs) [
      | inl e ↦ elim (smaller start x) [
        | inl f ↦ inl (e ∙ f)
        | inr f ↦ inr (subst (Contains (x ∷ xs)) (sym (e ∙ f)) (Contains-head x xs))
      ]
      | inr c ↦ inr (Contains-tail x xs (fold min (min start x) xs) c)
    ]
  where
    smaller : (a b : ℕ) → (min a b ≡ a) ⊎ (min a b ≡ b)
    smaller a b = grind arith

-- the sides of a time are edges
pub sides_are_edges : (marks : List ℕ) (time : ℕ) → IsEdge marks (last_mark marks time) × IsEdge marks (next_mark marks time)
sides_are_edges marks time = (
  elim (most_is 0 (filter (λ m. nat_le m time) marks)) [ inl e ↦ inl e | inr c ↦ inr (inl (filter_members (λ m. nat_le m time) marks (last_mark marks time) c).0) ],
  elim (least_is FINAL (filter (λ m. nat_lt time m) marks)) [ inl e ↦ inr (inr e) | inr c ↦ inr (inl (filter_members (λ m. nat_lt time m) marks (next_mark marks time) c).0) ],
)

-- ---- the marks that are left
-- a mark that no other follows up to the time
pub stays : (time : ℕ) (marks : List ℕ) (m : ℕ) → Contains marks m → ((n : ℕ) → Contains marks n → m < n → n ≤ time → ⊥) → Contains (marks_left time marks) m
stays time marks m c none =
    filter_has (λ m. not (list_any (λ n. nat_lt m n && nat_le n time) marks)) marks m c
    (ap not (list_any_none (λ n. nat_lt m n && nat_le n time) marks (All_from_members (λ n. (nat_lt m n && nat_le n time) ≡ false) marks test)))
  where
    test : (n : ℕ) → Contains marks n → (nat_lt m n && nat_le n time) ≡ false
    test n d =
        elim (cases_lt m n) [
          | inl l ↦ elim (cases_lt time n) [
            | inl k ↦ and_right (nat_lt m n) (nat_le n time) (lt-leb n time k)
            | inr k ↦ absurd (none n d l k)
          ]
          | inr l ↦ and_left (nat_lt m n) (nat_le n time) (le-ltb m n l)
        ]

pub stays_behind : (time : ℕ) (marks : List ℕ) (m : ℕ) → time < m → Contains marks m → Contains (marks_left time marks) m
stays_behind time marks m l c = stays time marks m c (λ n d a b. omega arith)

pub left_own : (time : ℕ) (marks : List ℕ) (m : ℕ) → Contains (marks_left time marks) m → Contains marks m
left_own time marks m c = (filter_members (λ m. not (list_any (λ n. nat_lt m n && nat_le n time) marks)) marks m c).0

-- the greatest up to the time
last_stays : (time : ℕ) (marks : List ℕ) (m : ℕ) → m ≤ time → Contains marks m → (later : ℕ) × Contains (marks_left time marks) later × (m ≤ later) × (later ≤ time)
last_stays time marks m l c =
    let last = last_mark marks time in
    let own : Contains marks last =
    elim (most_is 0 (filter (λ m. nat_le m time) marks)) [
      | inl e ↦ (let g : m ≤ last = last_from marks time m c l in let same : m ≡ last = omega arith in subst (Contains marks) same c)
      | inr d ↦ (filter_members (λ m. nat_le m time) marks last d).0
    ] in (
      last,
      stays time marks last own (λ n d a b. let g : n ≤ last = last_from marks time n d b in omega arith),
      last_from marks time m c l,
      last_by marks time,
    )

-- ---- enough of them
-- at the sides of a later time stand the same marks
pub holder_alike : (from : ℕ) (some all : List ℕ) (time : ℕ) → AreEnoughFrom from some all → from ≤ time → holder_of some time ≡ holder_of all time
holder_alike from some all time h le = λ i. record { low = low i; high = high i }
  where
    fewer : last_mark some time ≤ last_mark all time
    fewer = elim (most_is 0 (filter (λ m. nat_le m time) some)) [
      | inl e ↦ omega arith
      | inr c ↦ (let d = (filter_members (λ m. nat_le m time) some (last_mark some time) c).0 in last_from all time (last_mark some time) (h.own (last_mark some time) d) (last_by some time))
    ]

    more : last_mark all time ≤ last_mark some time
    more = elim (most_is 0 (filter (λ m. nat_le m time) all)) [
      | inl e ↦ omega arith
      | inr c ↦
          let last = last_mark all time in
          let d = (filter_members (λ m. nat_le m time) all last c).0 in
          let by : last ≤ time = last_by all time in
          elim (cases_lt from last) [
            | inl l ↦ last_from some time last (h.behind last l d) by
            | inr l ↦ (let t = h.last last l d in let g : t.0 ≤ last_mark some time = last_from some time t.0 t.1 (omega (arith, t.3)) in omega (arith, t.2))
          ]
    ]

    low : last_mark some time ≡ last_mark all time
    low = omega (arith, fewer, more)

    high_below : next_mark all time ≤ next_mark some time
    high_below = elim (least_is FINAL (filter (λ m. nat_lt time m) some)) [
      | inl e ↦ (let f = next_final all time in omega arith)
      | inr c ↦ (let d = filter_members (λ m. nat_lt time m) some (next_mark some time) c in next_by all time (next_mark some time) (h.own (next_mark some time) d.0) (ltb-true time (next_mark some time) d.1))
    ]

    high_above : next_mark some time ≤ next_mark all time
    high_above = elim (least_is FINAL (filter (λ m. nat_lt time m) all)) [
      | inl e ↦ (let f = next_final some time in omega arith)
      | inr c ↦
          let next = next_mark all time in
          let d = filter_members (λ m. nat_lt time m) all next c in
          let l : time < next = ltb-true time next d.1 in
          next_by some time next (h.behind next (omega arith) d.0) l
    ]

    high : next_mark some time ≡ next_mark all time
    high = omega (arith, high_below, high_above)

-- a mark more
pub enough_with : (from : ℕ) (some all : List ℕ) (k : ℕ) → AreEnoughFrom from some all → AreEnoughFrom from (insert_key nat_cmp some k) (insert_key nat_cmp all k)
enough_with from some all k h = record {
  own = λ m c. elim (Contains-insert_key_cases nat_cmp k some m c) [
    | inl e ↦ subst (Contains (insert_key nat_cmp all k)) e (Contains-insert_key_self nat_cmp exact_unsigned k all)
    | inr d ↦ Contains-insert_key nat_cmp k all m (h.own m d)
  ];
  behind = λ m l c. elim (Contains-insert_key_cases nat_cmp k all m c) [
    | inl e ↦ subst (Contains (insert_key nat_cmp some k)) e (Contains-insert_key_self nat_cmp exact_unsigned k some)
    | inr d ↦ Contains-insert_key nat_cmp k some m (h.behind m l d)
  ];
  last = λ m l c. elim (Contains-insert_key_cases nat_cmp k all m c) [
    | inl e ↦ (m, subst (Contains (insert_key nat_cmp some k)) e (Contains-insert_key_self nat_cmp exact_unsigned k some), omega arith, l)
    | inr d ↦ (let t = h.last m l d in (t.0, Contains-insert_key nat_cmp k some t.0 t.1, t.2, t.3))
  ];
}

-- fewer marks, where a later time is that from which they are enough
pub enough_later : (from time : ℕ) (some all : List ℕ) → AreEnoughFrom from some all → AreEnoughFrom (max from time) (marks_left time some) all
enough_later from time some all h = record {
  own = λ m c. h.own m (left_own time some m c);
  behind = λ m l c. stays_behind time some m (omega arith) (h.behind m (omega arith) c);
  last = λ m l c. elim (cases_lt from m) [
    | inl k ↦ further m m (h.behind m k c) (omega arith) l
    | inr k ↦ (let t = h.last m k c in further m t.0 t.1 t.2 (omega (arith, t.3)))
  ];
}
  where
    further : (m n : ℕ) → Contains some n → m ≤ n → n ≤ max from time → (later : ℕ) × Contains (marks_left time some) later × (m ≤ later) × (later ≤ max from time)
    further m n c le by = elim (cases_lt time n) [
      | inl l ↦ (n, stays_behind time some n l c, le, by)
      | inr l ↦ (let t = last_stays time some n l c in (t.0, t.1, omega (arith, t.2), omega (arith, t.3)))
    ]

-- all marks are enough, and so are those that are left
pub left_enough : (time : ℕ) (marks : List ℕ) → AreEnoughFrom time (marks_left time marks) marks
left_enough time marks =
    subst (λ n. AreEnoughFrom n (marks_left time marks) marks) (let e : max time time ≡ time = omega arith in e)
    (enough_later time time marks marks (record {
      own = λ m c. c;
      behind = λ m l c. c;
      last = λ m l c. (m, c, omega arith, l);
    }))
