-- The intervals between marks after one tuple more, and after one mark more.
use Rattle.std.proofs.Common.{◌≡◌, ◌∙◌, ℕ, zero, suc, ◌+◌, ◌<◌, ◌≤◌, fold, max, min, Bool, true, false, cond, List, [], ◌∷◌, ◌++◌, length, ap, sym, refl, subst, arith, inl, inr, Ordering, append_assoc}
use Rattle.std.specs.Prelude.{◌⊎◌, nat_le, nat_lt}
use Rattle.std.specs.BTreeSet.{insert_key}
use Rattle.std.specs.List.{All, Contains, filter}
use Rattle.std.specs.List.Sorted.{IsStrictlySortedBy}
use Rattle.std.specs.Ordering.{match_ordering, nat_cmp}
use Rattle.std.specs.declared.cmp.Ordering.TheVariants.{Equal, Greater}
use Rattle.std.proofs.lemmas.Bool.{cases_lt, le-leb, leb-true, lt-ltb, ltb-true}
use Rattle.std.proofs.lemmas.Bool.Decides.{nat_tests}
use Rattle.std.proofs.lemmas.Cmp.{nat_cmp_total}
use Rattle.std.proofs.lemmas.List.Elements.{All-contains, All-cons, All-nil, All-head, All-tail, All-weaker, All-filter, Contains-append_cases, Contains-append_left, Contains-append_right, filter-append}
use Rattle.std.proofs.lemmas.Map.Keys.{sorted_tail}
use Rattle.std.proofs.lemmas.Map.Lookups.{exact_unsigned}
use Rattle.stream_base.specs.declared.limits.TheConstants.{FINAL}
use Rattle.stream_base.specs.declared.kept.Kept.{Kept}
use Rattle.stream_base.specs.Model.Journal.{put_in_order, rising}
use Rattle.stream_base.specs.Model.Windows.{Instance, between_times, interval, is_selecting, is_within, stretches, within}
use Rattle.stream_base.proofs.Distinct.{All_from_members, lt_from_less, less_from_lt}
use Rattle.stream_base.proofs.Members.{filter_has, filter_members, Contains-insert_new}
use Rattle.stream_base.proofs.Rising.{below_tail, nat_rising_is_sorted, same_members_same_list, sorted_insert_key, Contains-cons_cases, Contains-from_rising, Contains-head, Contains-insert_key, Contains-insert_key_cases, Contains-insert_key_self, Contains-rising, Contains-tail, none_in_nil}
use Rattle.stream_base.proofs.Spans.{within_put}
use Rattle.window_laws.specs.Stretches.{IsMarkedInStretches, IsPutInStretches, if_selecting, last_mark, next_mark}
use Rattle.window_laws.proofs.WalkFacts.{least_below, least_of}
use Rattle.window_laws.proofs.InstanceFacts.{inside_span}
use Rattle.window_laws.proofs.LateFacts.{some_of_member}
use Rattle.stream_base.proofs.Filters.{filter_none}

-- the times between which the intervals of a window of marks lie
abbrev pub edges_of : List ℕ → List ℕ
edges_of marks = rising nat_cmp (0 ∷ marks ++ FINAL ∷ [])

-- ---- intervals between times, in parts
between_append : (before : List ℕ) (a b : ℕ) (behind : List ℕ) (kept : List Kept) → between_times (before ++ a ∷ b ∷ behind) kept ≡ between_times (before ++ a ∷ []) kept ++ (interval a b kept ∷ between_times (b ∷ behind) kept)
between_append [] a b behind kept = refl
between_append (p ∷ []) a b behind kept = refl
between_append (p ∷ q ∷ before) a b behind kept = ap (λ l. interval p q kept ∷ l) (between_append (q ∷ before) a b behind kept)

interval_put : (low high : ℕ) (kept : List Kept) (x : Kept) → (x.time < low) ⊎ (high ≤ x.time) → interval low high (put_in_order kept x) ≡ interval low high kept
interval_put low high kept x o = λ i. record { low = low; high = high; bound = high; chosen = within_put low high kept x o i }

between_put_behind : (times : List ℕ) (kept : List Kept) (x : Kept) → All (λ t. t ≤ x.time) times → between_times times (put_in_order kept x) ≡ between_times times kept
between_put_behind [] kept x a = refl
between_put_behind (p ∷ []) kept x a = refl
between_put_behind (p ∷ q ∷ times) kept x a =
    let t : All (λ t. t ≤ x.time) (q ∷ times) = All-tail (λ t. t ≤ x.time) p (q ∷ times) a in
    λ i. interval_put p q kept x (inr (All-head (λ t. t ≤ x.time) q times t)) i ∷ between_put_behind (q ∷ times) kept x t i

between_put_before : (times : List ℕ) (kept : List Kept) (x : Kept) → All (λ t. x.time < t) times → between_times times (put_in_order kept x) ≡ between_times times kept
between_put_before [] kept x a = refl
between_put_before (p ∷ []) kept x a = refl
between_put_before (p ∷ q ∷ times) kept x a =
    λ i. interval_put p q kept x (inl (All-head (λ t. x.time < t) p (q ∷ times) a)) i ∷ between_put_before (q ∷ times) kept x (All-tail (λ t. x.time < t) p (q ∷ times) a) i

between_high : (times : List ℕ) (kept : List Kept) (high : ℕ) → All (λ t. t ≤ high) times → All (λ (i : Instance). i.high ≤ high) (between_times times kept)
between_high [] kept high a = All-nil (λ (i : Instance). i.high ≤ high)
between_high (p ∷ []) kept high a = All-nil (λ (i : Instance). i.high ≤ high)
between_high (p ∷ q ∷ times) kept high a =
    let t : All (λ t. t ≤ high) (q ∷ times) = All-tail (λ t. t ≤ high) p (q ∷ times) a in
    All-cons (λ (i : Instance). i.high ≤ high) (interval p q kept) (between_times (q ∷ times) kept) (All-head (λ t. t ≤ high) q times t) (between_high (q ∷ times) kept high t)

between_low : (times : List ℕ) (kept : List Kept) (low : ℕ) → All (λ t. low ≤ t) times → All (λ (i : Instance). low ≤ i.low) (between_times times kept)
between_low [] kept low a = All-nil (λ (i : Instance). low ≤ i.low)
between_low (p ∷ []) kept low a = All-nil (λ (i : Instance). low ≤ i.low)
between_low (p ∷ q ∷ times) kept low a =
    All-cons (λ (i : Instance). low ≤ i.low) (interval p q kept) (between_times (q ∷ times) kept) (All-head (λ t. low ≤ t) p (q ∷ times) a) (between_low (q ∷ times) kept low (All-tail (λ t. low ≤ t) p (q ∷ times) a))

-- one in front of others, filtered
first_apart : (p : Instance → Bool) (i : Instance) (is : List Instance) → filter p (i ∷ is) ≡ filter p (i ∷ []) ++ filter p is
first_apart p i is = by (p i)
  where
    by : (b : Bool) → cond b (i ∷ filter p is) (filter p is) ≡ cond b (i ∷ []) [] ++ filter p is
    by true = refl
    by false = refl

-- ---- the two successive times that hold a time
record IsHeld (times : List ℕ) (t : ℕ) : Type 0 where
  before : List ℕ
  low : ℕ
  high : ℕ
  behind : List ℕ
  is : times ≡ before ++ low ∷ high ∷ behind
  starts : low ≤ t
  ends : t < high
  lower : All (λ a. a ≤ low) (before ++ low ∷ [])
  higher : All (λ a. high ≤ a) (high ∷ behind)
  parted : low < t → insert_key nat_cmp times t ≡ before ++ low ∷ t ∷ high ∷ behind
  known : low ≡ t → insert_key nat_cmp times t ≡ times

cmp_above : (a b : ℕ) → b < a → nat_cmp a b ≡ Greater
cmp_above a b l = grind (arith, nat_tests)

cmp_same : (a b : ℕ) → a ≡ b → nat_cmp a b ≡ Equal
cmp_same a b e = grind (arith, nat_tests)

insert_above : (a : ℕ) (times : List ℕ) (t : ℕ) → a < t → insert_key nat_cmp (a ∷ times) t ≡ a ∷ insert_key nat_cmp times t
insert_above a times t l = ap (λ o. match_ordering o (t ∷ a ∷ times) (a ∷ times) (a ∷ insert_key nat_cmp times t)) (cmp_above t a l)

insert_below : (a : ℕ) (times : List ℕ) (t : ℕ) → t < a → insert_key nat_cmp (a ∷ times) t ≡ t ∷ a ∷ times
insert_below a times t l = ap (λ o. match_ordering o (t ∷ a ∷ times) (a ∷ times) (a ∷ insert_key nat_cmp times t)) (less_from_lt t a l)

insert_at : (a : ℕ) (times : List ℕ) (t : ℕ) → a ≡ t → insert_key nat_cmp (a ∷ times) t ≡ a ∷ times
insert_at a times t e = ap (λ o. match_ordering o (t ∷ a ∷ times) (a ∷ times) (a ∷ insert_key nat_cmp times t)) (cmp_same t a (sym e))

above_head : (a : ℕ) (times : List ℕ) → IsStrictlySortedBy nat_cmp (a ∷ times) → All (λ b. a < b) times
above_head a times s = All_from_members (λ b. a < b) times (λ b c. lt_from_less a b (below_tail nat_cmp_total a times s b c))

holder : (a : ℕ) (times : List ℕ) (t m : ℕ) → IsStrictlySortedBy nat_cmp (a ∷ times) → a ≤ t → t < m → Contains (a ∷ times) m → IsHeld (a ∷ times) t
holder a [] t m s l h c = elim (Contains-cons_cases a [] m c) [ inl e ↦ absurd (omega arith) | inr d ↦ absurd (none_in_nil m d) ]
holder a (b ∷ times) t m s l h c =
    elim (cases_lt t b) [
      | inl early ↦ here early
      | inr later ↦ there later (holder b times t m (sorted_tail nat_cmp a (b ∷ times) s) later h (elim (Contains-cons_cases a (b ∷ times) m c) [ inl e ↦ absurd (omega arith) | inr d ↦ d ]))
    ]
  where
    ab : a < b
    ab = All-head (λ b. a < b) b times (above_head a (b ∷ times) s)

    here : t < b → IsHeld (a ∷ b ∷ times) t
    here early = record {
      before = [];
      low = a;
      high = b;
      behind = times;
      is = refl;
      starts = l;
      ends = early;
      lower = All-cons (λ c. c ≤ a) a [] (omega arith) (All-nil (λ c. c ≤ a));
      higher = All-cons (λ c. b ≤ c) b times (omega arith) (All-weaker (λ c. b < c) (λ c. b ≤ c) (λ c g. omega arith) times (above_head b times (sorted_tail nat_cmp a (b ∷ times) s)));
      parted = λ g. insert_above a (b ∷ times) t g ∙ ap (λ k. a ∷ k) (insert_below b times t early);
      known = λ e. insert_at a (b ∷ times) t e;
    }

    there : b ≤ t → IsHeld (b ∷ times) t → IsHeld (a ∷ b ∷ times) t
    there later g =
        let bl : b ≤ g.low = lowest b times g in
        record {
          before = a ∷ g.before;
          low = g.low;
          high = g.high;
          behind = g.behind;
          is = ap (λ k. a ∷ k) g.is;
          starts = g.starts;
          ends = g.ends;
          lower = All-cons (λ c. c ≤ g.low) a (g.before ++ g.low ∷ []) (omega (arith, ab, bl)) g.lower;
          higher = g.higher;
          parted = λ k. insert_above a (b ∷ times) t (omega (arith, ab)) ∙ ap (λ k. a ∷ k) (g.parted k);
          known = λ e. insert_above a (b ∷ times) t (omega (arith, ab)) ∙ ap (λ k. a ∷ k) (g.known e);
        }
      where
        lowest : (b : ℕ) (times : List ℕ) (g : IsHeld (b ∷ times) t) → b ≤ g.low
        lowest b times g = by g.before g.is g.lower
          where
            by : (before : List ℕ) → b ∷ times ≡ before ++ g.low ∷ g.high ∷ g.behind → All (λ c. c ≤ g.low) (before ++ g.low ∷ []) → b ≤ g.low
            by [] e all = let same : b ≡ g.low = cc in omega arith
            by (p ∷ before) e all = let same : b ≡ p = cc in omega (arith, All-head (λ c. c ≤ g.low) p (before ++ g.low ∷ []) all, same)

edges_have : (marks : List ℕ) (t : ℕ) → Contains (0 ∷ marks ++ FINAL ∷ []) t → Contains (edges_of marks) t
edges_have marks t c = Contains-rising nat_cmp exact_unsigned (0 ∷ marks ++ FINAL ∷ []) t c

final_is_edge : (marks : List ℕ) → Contains (edges_of marks) FINAL
final_is_edge marks = edges_have marks FINAL (Contains-tail 0 (marks ++ FINAL ∷ []) FINAL (Contains-append_right marks (FINAL ∷ []) FINAL (Contains-head FINAL [])))

zero_is_edge : (marks : List ℕ) → Contains (edges_of marks) 0
zero_is_edge marks = edges_have marks 0 (Contains-head 0 (marks ++ FINAL ∷ []))

-- each time below the final one is held by two successive edges
held : (marks : List ℕ) (t : ℕ) → t < FINAL → IsHeld (edges_of marks) t
held marks t h = by (edges_of marks) (nat_rising_is_sorted (0 ∷ marks ++ FINAL ∷ [])) (zero_is_edge marks) (final_is_edge marks)
  where
    by : (times : List ℕ) → IsStrictlySortedBy nat_cmp times → Contains times 0 → Contains times FINAL → IsHeld times t
    by [] s c d = absurd (none_in_nil 0 c)
    by (a ∷ times) s c d =
        holder a times t FINAL s
        (elim (Contains-cons_cases a times 0 c) [ inl e ↦ omega arith | inr g ↦ absurd (let l : a < 0 = lt_from_less a 0 (below_tail nat_cmp_total a times s 0 g) in omega arith) ])
        h d

-- what the intervals are, by the two that hold a time
stretches_held : (marks : List ℕ) (t : ℕ) (g : IsHeld (edges_of marks) t) (kept : List Kept) → stretches marks kept ≡ filter is_selecting (between_times (g.before ++ g.low ∷ []) kept) ++ (if_selecting g.low g.high kept ++ filter is_selecting (between_times (g.high ∷ g.behind) kept))
stretches_held marks t g kept =
    ap (λ times. filter is_selecting (between_times times kept)) g.is
    ∙ ap (filter is_selecting) (between_append g.before g.low g.high g.behind kept)
    ∙ filter-append is_selecting (between_times (g.before ++ g.low ∷ []) kept) (interval g.low g.high kept ∷ between_times (g.high ∷ g.behind) kept)
    ∙ ap (λ l. filter is_selecting (between_times (g.before ++ g.low ∷ []) kept) ++ l) (first_apart is_selecting (interval g.low g.high kept) (between_times (g.high ∷ g.behind) kept))

pub stretches_after_put : (marks : List ℕ) (kept : List Kept) (x : Kept) → x.time < FINAL → IsPutInStretches kept x (stretches marks kept) (stretches marks (put_in_order kept x))
stretches_after_put marks kept x h = record {
  low = g.low;
  high = g.high;
  front = filter is_selecting (between_times (g.before ++ g.low ∷ []) kept);
  back = filter is_selecting (between_times (g.high ∷ g.behind) kept);
  starts = g.starts;
  ends = g.ends;
  was = stretches_held marks x.time g kept;
  is =
      stretches_held marks x.time g (put_in_order kept x)
      ∙ (λ i. filter is_selecting (between_put_behind (g.before ++ g.low ∷ []) kept x (All-weaker (λ a. a ≤ g.low) (λ a. a ≤ x.time) (λ a l. omega (arith, g.starts)) (g.before ++ g.low ∷ []) g.lower) i)
      ++ (cond (selects i) (interval g.low g.high (put_in_order kept x) ∷ []) [] ++ filter is_selecting (between_put_before (g.high ∷ g.behind) kept x (All-weaker (λ a. g.high ≤ a) (λ a. x.time < a) (λ a l. omega (arith, g.ends)) (g.high ∷ g.behind) g.higher) i)));
  end_before = All-filter is_selecting (λ i. i.high ≤ g.low) (between_times (g.before ++ g.low ∷ []) kept) (between_high (g.before ++ g.low ∷ []) kept g.low g.lower);
  start_behind = All-filter is_selecting (λ i. g.high ≤ i.low) (between_times (g.high ∷ g.behind) kept) (between_low (g.high ∷ g.behind) kept g.high g.higher);
}
  where
    g : IsHeld (edges_of marks) x.time
    g = held marks x.time h

    selects : is_selecting (interval (held marks x.time h).low (held marks x.time h).high (put_in_order kept x)) ≡ true
    selects =
        some_of_member (is_within (held marks x.time h).low (held marks x.time h).high) (put_in_order kept x) x (Contains-insert_new kept _ x)
        (inside_span (held marks x.time h).low (held marks x.time h).high x (held marks x.time h).starts (held marks x.time h).ends)

-- a kept tuple is held by an interval between marks
pub stretch_holding : (marks : List ℕ) (kept : List Kept) (x : Kept) → x.time < FINAL → Contains kept x → (i : Instance) × Contains (stretches marks kept) i × (i.low ≤ x.time) × (x.time < i.high)
stretch_holding marks kept x h c =
    let g = held marks x.time h in
    let s : is_selecting (interval g.low g.high kept) ≡ true = some_of_member (is_within g.low g.high) kept x c (inside_span g.low g.high x g.starts g.ends) in
    let front = filter is_selecting (between_times (g.before ++ g.low ∷ []) kept) in
    let back = filter is_selecting (between_times (g.high ∷ g.behind) kept) in (
      interval g.low g.high kept,
      subst (λ l. Contains l (interval g.low g.high kept)) (sym (stretches_held marks x.time g kept))
          (Contains-append_right front (if_selecting g.low g.high kept ++ back) (interval g.low g.high kept)
          (Contains-append_left (if_selecting g.low g.high kept) back (interval g.low g.high kept)
          (subst (λ b. Contains (cond b (interval g.low g.high kept ∷ []) []) (interval g.low g.high kept)) (sym s) (Contains-head (interval g.low g.high kept) [])))),
      g.starts,
      g.ends,
    )

-- ---- one mark more
edges_after_mark : (marks : List ℕ) (t : ℕ) → edges_of (insert_key nat_cmp marks t) ≡ insert_key nat_cmp (edges_of marks) t
edges_after_mark marks t =
    same_members_same_list nat_cmp_total (edges_of (insert_key nat_cmp marks t)) (insert_key nat_cmp (edges_of marks) t)
    (nat_rising_is_sorted (0 ∷ insert_key nat_cmp marks t ++ FINAL ∷ [])) (sorted_insert_key nat_cmp_total t (edges_of marks) (nat_rising_is_sorted (0 ∷ marks ++ FINAL ∷ [])))
    there back
  where
    there : (z : ℕ) → Contains (edges_of (insert_key nat_cmp marks t)) z → Contains (insert_key nat_cmp (edges_of marks) t) z
    there z c =
        elim (Contains-cons_cases 0 (insert_key nat_cmp marks t ++ FINAL ∷ []) z (Contains-from_rising nat_cmp (0 ∷ insert_key nat_cmp marks t ++ FINAL ∷ []) z c)) [
          | inl e ↦ Contains-insert_key nat_cmp t (edges_of marks) z (subst (Contains (edges_of marks)) e (zero_is_edge marks))
          | inr d ↦ elim (Contains-append_cases (insert_key nat_cmp marks t) (FINAL ∷ []) z d) [
            | inl m ↦ elim (Contains-insert_key_cases nat_cmp t marks z m) [
              | inl e ↦ subst (Contains (insert_key nat_cmp (edges_of marks) t)) e (Contains-insert_key_self nat_cmp exact_unsigned t (edges_of marks))
              | inr k ↦ Contains-insert_key nat_cmp t (edges_of marks) z (edges_have marks z (Contains-tail 0 (marks ++ FINAL ∷ []) z (Contains-append_left marks (FINAL ∷ []) z k)))
            ]
            | inr f ↦ Contains-insert_key nat_cmp t (edges_of marks) z (edges_have marks z (Contains-tail 0 (marks ++ FINAL ∷ []) z (Contains-append_right marks (FINAL ∷ []) z f)))
          ]
        ]

    back : (z : ℕ) → Contains (insert_key nat_cmp (edges_of marks) t) z → Contains (edges_of (insert_key nat_cmp marks t)) z
    back z c =
        elim (Contains-insert_key_cases nat_cmp t (edges_of marks) z c) [
          | inl e ↦ edges_have (insert_key nat_cmp marks t) z (Contains-tail 0 (insert_key nat_cmp marks t ++ FINAL ∷ []) z (Contains-append_left (insert_key nat_cmp marks t) (FINAL ∷ []) z (subst (Contains (insert_key nat_cmp marks t)) e (Contains-insert_key_self nat_cmp exact_unsigned t marks))))
          | inr d ↦ elim (Contains-cons_cases 0 (marks ++ FINAL ∷ []) z (Contains-from_rising nat_cmp (0 ∷ marks ++ FINAL ∷ []) z d)) [
            | inl e ↦ subst (Contains (edges_of (insert_key nat_cmp marks t))) e (zero_is_edge (insert_key nat_cmp marks t))
            | inr m ↦ elim (Contains-append_cases marks (FINAL ∷ []) z m) [
              | inl k ↦ edges_have (insert_key nat_cmp marks t) z (Contains-tail 0 (insert_key nat_cmp marks t ++ FINAL ∷ []) z (Contains-append_left (insert_key nat_cmp marks t) (FINAL ∷ []) z (Contains-insert_key nat_cmp t marks z k)))
              | inr f ↦ edges_have (insert_key nat_cmp marks t) z (Contains-tail 0 (insert_key nat_cmp marks t ++ FINAL ∷ []) z (Contains-append_right (insert_key nat_cmp marks t) (FINAL ∷ []) z f))
            ]
          ]
        ]

-- an interval that is empty selects nothing
pub empty_interval : (low high : ℕ) (kept : List Kept) → high ≤ low → if_selecting low high kept ≡ []
empty_interval low high kept l =
    let none : within low high kept ≡ [] = filter_none (is_within low high) kept (λ k d m. outside (Rattle.std.proofs.Common.get_or kept k d)) in
    ap (λ ys. cond (nat_lt 0 (length ys)) (interval low high kept ∷ []) []) none
  where
    outside : (x : Kept) → is_within low high x ≡ false
    outside x = grind (arith, nat_tests)

pub stretches_after_mark : (marks : List ℕ) (kept : List Kept) (t : ℕ) → t < FINAL → IsMarkedInStretches kept t (stretches marks kept) (stretches (insert_key nat_cmp marks t) kept)
stretches_after_mark marks kept t h = record {
  low = g.low;
  high = g.high;
  front = filter is_selecting (between_times (g.before ++ g.low ∷ []) kept);
  back = filter is_selecting (between_times (g.high ∷ g.behind) kept);
  starts = g.starts;
  ends = g.ends;
  was = stretches_held marks t g kept;
  is = elim (cases_lt g.low t) [ inl l ↦ parts l | inr l ↦ stays (omega (arith, g.starts)) ];
  end_before = All-filter is_selecting (λ i. i.high ≤ g.low) (between_times (g.before ++ g.low ∷ []) kept) (between_high (g.before ++ g.low ∷ []) kept g.low g.lower);
  start_behind = All-filter is_selecting (λ i. g.high ≤ i.low) (between_times (g.high ∷ g.behind) kept) (between_low (g.high ∷ g.behind) kept g.high g.higher);
}
  where
    g : IsHeld (edges_of marks) t
    g = held marks t h

    parts : (held marks t h).low < t → stretches (insert_key nat_cmp marks t) kept ≡ filter is_selecting (between_times ((held marks t h).before ++ (held marks t h).low ∷ []) kept) ++ ((if_selecting (held marks t h).low t kept ++ if_selecting t (held marks t h).high kept) ++ filter is_selecting (between_times ((held marks t h).high ∷ (held marks t h).behind) kept))
    parts l =
        let q = held marks t h in
        ap (λ times. filter is_selecting (between_times times kept)) (edges_after_mark marks t ∙ q.parted l)
        ∙ ap (filter is_selecting) (between_append q.before q.low t (q.high ∷ q.behind) kept)
        ∙ filter-append is_selecting (between_times (q.before ++ q.low ∷ []) kept) (interval q.low t kept ∷ interval t q.high kept ∷ between_times (q.high ∷ q.behind) kept)
        ∙ ap (λ l. filter is_selecting (between_times (q.before ++ q.low ∷ []) kept) ++ l)
        (first_apart is_selecting (interval q.low t kept) (interval t q.high kept ∷ between_times (q.high ∷ q.behind) kept)
        ∙ ap (λ l. if_selecting q.low t kept ++ l) (first_apart is_selecting (interval t q.high kept) (between_times (q.high ∷ q.behind) kept))
        ∙ sym (append_assoc (if_selecting q.low t kept) (if_selecting t q.high kept) (filter is_selecting (between_times (q.high ∷ q.behind) kept))))

    stays : (held marks t h).low ≡ t → stretches (insert_key nat_cmp marks t) kept ≡ filter is_selecting (between_times ((held marks t h).before ++ (held marks t h).low ∷ []) kept) ++ ((if_selecting (held marks t h).low t kept ++ if_selecting t (held marks t h).high kept) ++ filter is_selecting (between_times ((held marks t h).high ∷ (held marks t h).behind) kept))
    stays e =
        let q = held marks t h in
        ap (λ times. filter is_selecting (between_times times kept)) (edges_after_mark marks t ∙ q.known e)
        ∙ stretches_held marks t q kept
        ∙ (let none : [] ≡ if_selecting q.low t kept = sym (empty_interval q.low t kept (omega arith)) in λ i. filter is_selecting (between_times (q.before ++ q.low ∷ []) kept) ++ ((none i ++ if_selecting (e i) q.high kept) ++ filter is_selecting (between_times (q.high ∷ q.behind) kept)))

-- the interval that a mark parts depends on the marks alone
pub parted_span : (marks : List ℕ) (kept other : List Kept) (t : ℕ) (h : t < FINAL) → ((stretches_after_mark marks kept t h).low ≡ (stretches_after_mark marks other t h).low) × ((stretches_after_mark marks kept t h).high ≡ (stretches_after_mark marks other t h).high)
unfolding stretches_after_mark
parted_span marks kept other t h = (refl, refl)

-- ---- the marks at the sides of a time
most_above : (start : ℕ) (xs : List ℕ) → start ≤ fold max start xs
most_above start [] = omega arith
most_above start (x ∷ xs) = omega (arith, most_above (max start x) xs)

pub most_of : (start : ℕ) (xs : List ℕ) (x : ℕ) → Contains xs x → x ≤ fold max start xs
most_of start [] x c = absurd (none_in_nil x c)
most_of start (y ∷ ys) x c = elim (Contains-cons_cases y ys x c) [ inl e ↦ omega (arith, most_above (max start y) ys, e) | inr d ↦ most_of (max start y) ys x d ]

most_below : (start : ℕ) (xs : List ℕ) (high : ℕ) → start ≤ high → All (λ x. x ≤ high) xs → fold max start xs ≤ high
most_below start [] high l a = l
most_below start (x ∷ xs) high l a = most_below (max start x) xs high (omega (arith, All-head (λ x. x ≤ high) x xs a)) (All-tail (λ x. x ≤ high) x xs a)

least_above : (start : ℕ) (xs : List ℕ) (low : ℕ) → low ≤ start → All (λ x. low ≤ x) xs → low ≤ fold min start xs
least_above start [] low l a = l
least_above start (x ∷ xs) low l a = least_above (min start x) xs low (omega (arith, All-head (λ x. low ≤ x) x xs a)) (All-tail (λ x. low ≤ x) x xs a)

module _ (marks : List ℕ) (t : ℕ) (final : t < FINAL) (g : IsHeld (edges_of marks) t) where
  edge_sides : (e : ℕ) → Contains (edges_of marks) e → (e ≤ g.low) ⊎ (g.high ≤ e)
  edge_sides e c =
      elim (Contains-append_cases (g.before ++ g.low ∷ []) (g.high ∷ g.behind) e (subst (λ l. Contains l e) (g.is ∙ sym (append_assoc g.before (g.low ∷ []) (g.high ∷ g.behind))) c)) [
        | inl d ↦ inl (All-contains (λ a. a ≤ g.low) (g.before ++ g.low ∷ []) e g.lower d)
        | inr d ↦ inr (All-contains (λ a. g.high ≤ a) (g.high ∷ g.behind) e g.higher d)
      ]

  mark_edge : (e : ℕ) → Contains marks e → Contains (edges_of marks) e
  mark_edge e c = edges_have marks e (Contains-tail 0 (marks ++ FINAL ∷ []) e (Contains-append_left marks (FINAL ∷ []) e c))

  low_edge : Contains (edges_of marks) g.low
  low_edge = subst (λ l. Contains l g.low) (sym g.is) (Contains-append_right g.before (g.low ∷ g.high ∷ g.behind) g.low (Contains-head g.low (g.high ∷ g.behind)))

  high_edge : Contains (edges_of marks) g.high
  high_edge = subst (λ l. Contains l g.high) (sym g.is) (Contains-append_right g.before (g.low ∷ g.high ∷ g.behind) g.high (Contains-tail g.low (g.high ∷ g.behind) g.high (Contains-head g.high g.behind)))

  edge_kinds : (e : ℕ) → Contains (edges_of marks) e → (0 ≡ e) ⊎ (Contains marks e ⊎ (FINAL ≡ e))
  edge_kinds e c =
      elim (Contains-cons_cases 0 (marks ++ FINAL ∷ []) e (Contains-from_rising nat_cmp (0 ∷ marks ++ FINAL ∷ []) e c)) [
        | inl z ↦ inl z
        | inr m ↦ elim (Contains-append_cases marks (FINAL ∷ []) e m) [
          | inl k ↦ inr (inl k)
          | inr f ↦ inr (inr (elim (Contains-cons_cases FINAL [] e f) [ inl s ↦ s | inr n ↦ absurd (none_in_nil e n) ]))
        ]
      ]

  high_is_next : g.high ≡ fold min FINAL (filter (λ mark. nat_lt t mark) marks)
  high_is_next = both (least_above FINAL (filter (λ mark. nat_lt t mark) marks) g.high low_final (All_from_members (λ x. g.high ≤ x) (filter (λ mark. nat_lt t mark) marks) above)) (at_most (edge_kinds g.high high_edge))
    where
      both : {a b : ℕ} → a ≤ b → b ≤ a → a ≡ b
      both l r = omega arith

      above : (x : ℕ) → Contains (filter (λ mark. nat_lt t mark) marks) x → g.high ≤ x
      above x c =
          let m : Contains marks x × (nat_lt t x ≡ true) = filter_members (λ mark. nat_lt t mark) marks x c in
          let l : t < x = ltb-true t x m.1 in
          elim (edge_sides x (mark_edge x m.0)) [ inl d ↦ absurd (omega (arith, g.starts)) | inr d ↦ d ]

      low_final : g.high ≤ FINAL
      low_final = elim (edge_sides FINAL (final_is_edge marks)) [ inl d ↦ absurd (let z : FINAL ≤ t = le_trans d g.starts in lt_not z final) | inr d ↦ d ]
        where
          le_trans : {a b c : ℕ} → a ≤ b → b ≤ c → a ≤ c
          le_trans l r = omega arith

          lt_not : {a b : ℕ} → a ≤ b → b < a → ⊥
          lt_not l r = omega arith

      at_most : (0 ≡ g.high) ⊎ (Contains marks g.high ⊎ (FINAL ≡ g.high)) → fold min FINAL (filter (λ mark. nat_lt t mark) marks) ≤ g.high
      at_most (inl z) = absurd (omega (arith, g.ends))
      at_most (inr (inl c)) = least_of FINAL (filter (λ mark. nat_lt t mark) marks) g.high (filter_has (λ mark. nat_lt t mark) marks g.high c (lt-ltb t g.high g.ends))
      at_most (inr (inr f)) = subst (λ e. fold min FINAL (filter (λ mark. nat_lt t mark) marks) ≤ e) f (least_below FINAL (filter (λ mark. nat_lt t mark) marks))

  low_is_last : g.low ≡ fold max 0 (filter (λ mark. nat_le mark t) marks)
  low_is_last = both (at_least (edge_kinds g.low low_edge)) (most_below 0 (filter (λ mark. nat_le mark t) marks) g.low (omega arith) (All_from_members (λ x. x ≤ g.low) (filter (λ mark. nat_le mark t) marks) below))
    where
      both : {a b : ℕ} → a ≤ b → b ≤ a → a ≡ b
      both l r = omega arith

      below : (x : ℕ) → Contains (filter (λ mark. nat_le mark t) marks) x → x ≤ g.low
      below x c =
          let m : Contains marks x × (nat_le x t ≡ true) = filter_members (λ mark. nat_le mark t) marks x c in
          let l : x ≤ t = leb-true x t m.1 in
          elim (edge_sides x (mark_edge x m.0)) [ inl d ↦ d | inr d ↦ absurd (omega (arith, g.ends)) ]

      at_least : (0 ≡ g.low) ⊎ (Contains marks g.low ⊎ (FINAL ≡ g.low)) → g.low ≤ fold max 0 (filter (λ mark. nat_le mark t) marks)
      at_least (inl z) = subst (λ e. e ≤ fold max 0 (filter (λ mark. nat_le mark t) marks)) z (omega arith)
      at_least (inr (inl c)) = most_of 0 (filter (λ mark. nat_le mark t) marks) g.low (filter_has (λ mark. nat_le mark t) marks g.low c (le-leb g.low t g.starts))
      at_least (inr (inr f)) = absurd (no_final f g.starts final)
        where
          no_final : {a b c : ℕ} → a ≡ b → b ≤ c → c < a → ⊥
          no_final e l r = omega arith

-- the interval that holds a tuple lies between the marks at its sides
pub span_of_holder : (marks : List ℕ) (kept : List Kept) (x : Kept) (h : x.time < FINAL) → ((stretches_after_put marks kept x h).low ≡ last_mark marks x.time) × ((stretches_after_put marks kept x h).high ≡ next_mark marks x.time)
unfolding stretches_after_put
span_of_holder marks kept x h = (low_is_last marks x.time h (held marks x.time h), high_is_next marks x.time h (held marks x.time h))
