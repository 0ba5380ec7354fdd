-- Tumbling and sliding windows: which intervals hold a kept tuple, and what a tuple more changes.
use Rattle.std.proofs.Common.{◌≡◌, ◌∙◌, ℕ, ◌+◌, ◌-◌, ◌*◌, ◌/◌, ◌%◌, ◌<◌, ◌≤◌, true, false, List, length, map, ap, sym, subst, inl, inr, ⊎_elim, arith}
use Rattle.std.specs.Prelude.{◌⊎◌, ◌↔◌, nat_le, nat_lt}
use Rattle.std.specs.List.{Contains, filter, flat_map, range_with_len}
use Rattle.std.specs.List.Sorted.{IsStrictlyIncreasing, IsStrictlySortedBy}
use Rattle.std.specs.Ordering.{nat_cmp}
use Rattle.std.proofs.lemmas.Bool.{leb-true, and_left, and_right, lt-leb, le-ltb}
use Rattle.std.proofs.lemmas.Cmp.{nat_cmp_total}
use Rattle.std.proofs.lemmas.List.Kept.{IsStrictlySortedBy-filter}
use Rattle.std.proofs.lemmas.Map.Lookups.{exact_unsigned}
use Rattle.std.proofs.lemmas.Nat.{le-div, div_below, div-add-mod'}
use Rattle.stream_base.specs.declared.kept.Kept.{Kept}
use Rattle.stream_base.specs.Model.Journal.{put_in_order}
use Rattle.stream_base.specs.Model.Windows.{is_within, within, interval, starts_holding, starts_of, spans, is_complete}
use Rattle.stream_base.specs.Laws.{HoldsKept, HoldsTime}
use Rattle.stream_base.proofs.Rising.{nat_rising_increases, Contains-from_rising, Contains-rising, nat_rising_is_sorted, same_members_same_list}
use Rattle.stream_base.proofs.Members.{range_members, range_has, map_members, map_has, map_same, flat_map_members, flat_map_has, filter_members, filter_has, filter_insert_refused, filter_map_of, Contains-insert_cases, Contains-insert_old, Contains-insert_new}

-- products and quotients
times_mono : (a b c : ℕ) → a ≤ b → a * c ≤ b * c
times_mono a b c h = grind arith

quotient_times : (n k m : ℕ) → m ≤ n / k → m * k ≤ n
quotient_times n k m h =
    let a : m * k ≤ n / k * k = times_mono m (n / k) k h in
    let b : n / k * k + n % k ≡ n = div-add-mod' n k in
    omega arith

above_quotient : (n k m : ℕ) → 0 < k → n / k ≤ m → n < (m + 1) * k
above_quotient n k m pos h =
    let a : n / k * k ≤ m * k = times_mono (n / k) m k h in
    let b : n / k * k + n % k ≡ n = div-add-mod' n k in
    omega arith

module _ (length slide : ℕ) (moves : 1 ≤ slide) (overlaps : slide ≤ length) where
  -- the starts of the intervals that hold a time
  pub starts_holding_members : (time a : ℕ) → Contains (starts_holding length slide time) a → (k : ℕ) × (a ≡ k * slide) × (a ≤ time) × (time < a + length)
  starts_holding_members time a c =
      let first = (time + slide - length) / slide in
      let m : (k : ℕ) × Contains (range_with_len first (time / slide + 1 - first)) k × (k * slide ≡ a) = map_members (λ k. k * slide) (range_with_len first (time / slide + 1 - first)) a c in
      let bounds : (first ≤ m.0) × (m.0 < first + (time / slide + 1 - first)) = range_members first (time / slide + 1 - first) m.0 m.1 in
      let low : m.0 * slide ≤ time = quotient_times time slide m.0 (omega arith) in
      let high : time + slide - length < (m.0 + 1) * slide = above_quotient (time + slide - length) slide m.0 moves bounds.0 in
      (m.0, sym m.2, omega arith, omega arith)

  pub starts_holding_has : (time k : ℕ) → k * slide ≤ time → time < k * slide + length → Contains (starts_holding length slide time) (k * slide)
  starts_holding_has time k low high =
      let first = (time + slide - length) / slide in
      let last : k ≤ time / slide = le-div k time slide moves low in
      let early : first < k + 1 = div_below (time + slide - length) slide (k + 1) moves (omega arith) in
      map_has (λ j. j * slide) (range_with_len first (time / slide + 1 - first)) k (range_has first (time / slide + 1 - first) k (omega arith) (omega arith))

  -- the starts of the intervals that hold a kept tuple
  pub starts_of_members : (kept : List Kept) (a : ℕ) → Contains (starts_of length slide kept) a → (k : ℕ) × (x : Kept) × Contains kept x × (a ≡ k * slide) × (a ≤ x.time) × (x.time < a + length)
  starts_of_members kept a c =
      let m : (x : Kept) × Contains kept x × Contains (starts_holding length slide x.time) a = flat_map_members (λ (x : Kept). starts_holding length slide x.time) kept a (Contains-from_rising nat_cmp (flat_map (λ x. starts_holding length slide x.time) kept) a c) in
      let h : (k : ℕ) × (a ≡ k * slide) × (a ≤ (m.0).time) × ((m.0).time < a + length) = starts_holding_members (m.0).time a m.2 in
      (h.0, m.0, m.1, h.1, h.2, h.3)

  pub starts_of_has : (kept : List Kept) (x : Kept) (k : ℕ) → Contains kept x → k * slide ≤ x.time → x.time < k * slide + length → Contains (starts_of length slide kept) (k * slide)
  starts_of_has kept x k c low high =
      Contains-rising nat_cmp exact_unsigned (flat_map (λ x. starts_holding length slide x.time) kept) (k * slide)
      (flat_map_has (λ x. starts_holding length slide x.time) kept x (k * slide) c (starts_holding_has x.time k low high))

pub starts_of_is_sorted : (length slide : ℕ) (kept : List Kept) → IsStrictlySortedBy nat_cmp (starts_of length slide kept)
starts_of_is_sorted length slide kept = nat_rising_is_sorted (flat_map (λ x. starts_holding length slide x.time) kept)

-- a tuple more: its intervals, and no others
pub starts_of_put_cases : (length slide : ℕ) (kept : List Kept) (x : Kept) (a : ℕ) → Contains (starts_of length slide (put_in_order kept x)) a → Contains (starts_of length slide kept) a ⊎ Contains (starts_holding length slide x.time) a
starts_of_put_cases length slide kept x a c =
    let m : (y : Kept) × Contains (put_in_order kept x) y × Contains (starts_holding length slide y.time) a = flat_map_members (λ (y : Kept). starts_holding length slide y.time) (put_in_order kept x) a (Contains-from_rising nat_cmp (flat_map (λ y. starts_holding length slide y.time) (put_in_order kept x)) a c) in
    ⊎_elim
    (λ e. inr (subst (λ (y : Kept). Contains (starts_holding length slide y.time) a) (sym e) m.2))
    (λ d. inl (Contains-rising nat_cmp exact_unsigned (flat_map (λ y. starts_holding length slide y.time) kept) a (flat_map_has (λ y. starts_holding length slide y.time) kept m.0 a d m.2)))
    (Contains-insert_cases kept _ x m.0 m.1)

pub starts_of_put_old : (length slide : ℕ) (kept : List Kept) (x : Kept) (a : ℕ) → Contains (starts_of length slide kept) a → Contains (starts_of length slide (put_in_order kept x)) a
starts_of_put_old length slide kept x a c =
    let m : (y : Kept) × Contains kept y × Contains (starts_holding length slide y.time) a = flat_map_members (λ (y : Kept). starts_holding length slide y.time) kept a (Contains-from_rising nat_cmp (flat_map (λ y. starts_holding length slide y.time) kept) a c) in
    Contains-rising nat_cmp exact_unsigned (flat_map (λ y. starts_holding length slide y.time) (put_in_order kept x)) a
    (flat_map_has (λ y. starts_holding length slide y.time) (put_in_order kept x) m.0 a (Contains-insert_old kept _ x m.0 m.1) m.2)

pub starts_of_put_new : (length slide : ℕ) (kept : List Kept) (x : Kept) (a : ℕ) → Contains (starts_holding length slide x.time) a → Contains (starts_of length slide (put_in_order kept x)) a
starts_of_put_new length slide kept x a c =
    Contains-rising nat_cmp exact_unsigned (flat_map (λ y. starts_holding length slide y.time) (put_in_order kept x)) a
    (flat_map_has (λ y. starts_holding length slide y.time) (put_in_order kept x) x a (Contains-insert_new kept _ x) c)

-- an interval that doesn't hold the tuple selects what it selected
outside : (low high : ℕ) (x : Kept) → (x.time < low) ⊎ (high ≤ x.time) → is_within low high x ≡ false
outside low high x h =
    ⊎_elim
    (λ early. and_left (nat_le low x.time) (nat_lt x.time high) (lt-leb low x.time early))
    (λ late. and_right (nat_le low x.time) (nat_lt x.time high) (le-ltb x.time high late))
    h

pub within_put : (low high : ℕ) (kept : List Kept) (x : Kept) → (x.time < low) ⊎ (high ≤ x.time) → within low high (put_in_order kept x) ≡ within low high kept
within_put low high kept x h = filter_insert_refused (is_within low high) kept _ x (outside low high x h)

-- the starts of the complete intervals
complete_starts : ℕ → ℕ → ℕ → List Kept → List ℕ
complete_starts water length slide kept = filter (λ low. nat_le (low + length) water) (starts_of length slide kept)

complete_spans : (water length slide : ℕ) (kept : List Kept) → filter (is_complete water) (spans length slide kept) ≡ map (λ low. interval low (low + length) kept) (complete_starts water length slide kept)
unfolding complete_starts
complete_spans water length slide kept = filter_map_of (is_complete water) (λ low. interval low (low + length) kept) (starts_of length slide kept)

module _ (water length slide : ℕ) (moves : 1 ≤ slide) (overlaps : slide ≤ length) (kept : List Kept) (x : Kept) (later : water ≤ x.time) where
  same_complete_starts : complete_starts water length slide (put_in_order kept x) ≡ complete_starts water length slide kept
  unfolding complete_starts
  same_complete_starts =
      same_members_same_list nat_cmp_total (complete_starts water length slide (put_in_order kept x)) (complete_starts water length slide kept)
      (IsStrictlySortedBy-filter nat_cmp (λ low. nat_le (low + length) water) (starts_of length slide (put_in_order kept x)) (starts_of_is_sorted length slide (put_in_order kept x)))
      (IsStrictlySortedBy-filter nat_cmp (λ low. nat_le (low + length) water) (starts_of length slide kept) (starts_of_is_sorted length slide kept))
      (λ a c. let m : Contains (starts_of length slide (put_in_order kept x)) a × (nat_le (a + length) water ≡ true) = filter_members (λ low. nat_le (low + length) water) (starts_of length slide (put_in_order kept x)) a c in
      filter_has (λ low. nat_le (low + length) water) (starts_of length slide kept) a (old a m.0 (leb-true (a + length) water m.1)) m.1)
      (λ a c. let m : Contains (starts_of length slide kept) a × (nat_le (a + length) water ≡ true) = filter_members (λ low. nat_le (low + length) water) (starts_of length slide kept) a c in
      filter_has (λ low. nat_le (low + length) water) (starts_of length slide (put_in_order kept x)) a (starts_of_put_old length slide kept x a m.0) m.1)
    where
      old : (a : ℕ) → Contains (starts_of length slide (put_in_order kept x)) a → a + length ≤ water → Contains (starts_of length slide kept) a
      old a c le =
          ⊎_elim
          (λ d. d)
          (λ d. let h : (k : ℕ) × (a ≡ k * slide) × (a ≤ x.time) × (x.time < a + length) = starts_holding_members length slide moves overlaps x.time a d in absurd (omega (arith, h.3)))
          (starts_of_put_cases length slide kept x a c)

  -- a tuple at or after the watermark changes no complete interval
  pub complete_spans_put : filter (is_complete water) (spans length slide (put_in_order kept x)) ≡ filter (is_complete water) (spans length slide kept)
  unfolding complete_starts
  complete_spans_put =
      complete_spans water length slide (put_in_order kept x)
      ∙ ap (map (λ low. interval low (low + length) (put_in_order kept x))) same_complete_starts
      ∙ map_same (λ low. interval low (low + length) (put_in_order kept x)) (λ low. interval low (low + length) kept) (complete_starts water length slide kept) same_interval
      ∙ sym (complete_spans water length slide kept)
    where
      same_interval : (a : ℕ) → Contains (complete_starts water length slide kept) a → interval a (a + length) (put_in_order kept x) ≡ interval a (a + length) kept
      same_interval a c =
          let le : a + length ≤ water = leb-true (a + length) water (filter_members (λ low. nat_le (low + length) water) (starts_of length slide kept) a c).1 in
          let same : within a (a + length) (put_in_order kept x) ≡ within a (a + length) kept = within_put a (a + length) kept x (inr (omega arith)) in
          λ i. record { low = a; high = a + length; bound = a + length; chosen = same i }

pub starts_hold_kept : (length slide : ℕ) (kept : List Kept) (a : ℕ) → 1 ≤ slide → slide ≤ length → Contains (starts_of length slide kept) a ↔ HoldsKept length slide kept a
starts_hold_kept length slide kept a moves overlaps = (
  λ c. starts_of_members length slide moves overlaps kept a c,
  λ h. let low : h.0 * slide ≤ (h.1).time = omega (arith, h.3, h.4) in let high : (h.1).time < h.0 * slide + length = omega (arith, h.3, h.5) in
      subst (Contains (starts_of length slide kept)) (sym h.3) (starts_of_has length slide moves overlaps kept h.1 h.0 h.2 low high),
)

pub starts_increase : (length slide : ℕ) (kept : List Kept) → IsStrictlyIncreasing (starts_of length slide kept)
starts_increase length slide kept = nat_rising_increases (flat_map (λ x. starts_holding length slide x.time) kept)

-- one tuple more brings the starts of the intervals that hold it
pub starts_after_put : (length slide : ℕ) (kept : List Kept) (x : Kept) (a : ℕ) → 1 ≤ slide → slide ≤ length → Contains (starts_of length slide (put_in_order kept x)) a ↔ (Contains (starts_of length slide kept) a ⊎ HoldsTime length slide x.time a)
starts_after_put length slide kept x a moves overlaps = (
  λ c. ⊎_elim (λ d. inl d) (λ d. inr (starts_holding_members length slide moves overlaps x.time a d)) (starts_of_put_cases length slide kept x a c),
  λ h. ⊎_elim (λ d. starts_of_put_old length slide kept x a d)
      (λ t. let low : t.0 * slide ≤ x.time = omega (arith, t.1, t.2) in let high : x.time < t.0 * slide + length = omega (arith, t.1, t.3) in
      subst (Contains (starts_of length slide (put_in_order kept x))) (sym t.1) (starts_of_put_new length slide kept x (t.0 * slide) (starts_holding_has length slide moves overlaps x.time t.0 low high)))
      h,
)
