-- Starts and ends of intervals between two times, counted by a division.
use Rattle.std.proofs.Common.{zero, suc, ◌≡◌, ◌≤◌, ◌<◌, ◌+◌, ◌-◌, ◌*◌, ◌/◌, ◌⊎◌, ℕ, true, false, length, inl, inr, arith}
use Rattle.std.proofs.Math.Nat.{le-div_iff_mul-le}
use Rattle.std.proofs.lemmas.Bool.{cases_lt, ltb-true, lt-ltb}
use Rattle.std.proofs.lemmas.Bool.Decides.{nat_tests}
use Rattle.std.proofs.lemmas.Nat.{le-div}
use Rattle.std.proofs.Math.Nat.{div-mul-le_self, div-zero}
use Rattle.stream_base.specs.Kinds.{HasBound, bounds_up_to, has_bound}

-- multiple k is among those up to t exactly where it is at most t
pub counted : (offset slide t k : ℕ) → 1 ≤ slide → k * slide + offset ≤ t → k < bounds_up_to offset slide t
counted offset slide t k s h =
    let fits : k * slide ≤ t - offset = omega arith in
    let below : k ≤ (t - offset) / slide = (le-div_iff_mul-le {k = slide} {x = k} {y = t - offset} (omega arith)).1 fits in
    grind (arith, nat_tests)

pub at_most : (offset slide t k : ℕ) → 1 ≤ slide → k < bounds_up_to offset slide t → k * slide + offset ≤ t
at_most offset slide t k s h =
    let starts : offset ≤ t = grind (arith, nat_tests) in
    let below : k ≤ (t - offset) / slide = grind (arith, nat_tests) in
    let fits : k * slide ≤ t - offset = (le-div_iff_mul-le {k = slide} {x = k} {y = t - offset} (omega arith)).0 below in
    omega arith

-- one of offset, offset + slide and so on lies after low and at or before high
abbrev pub HasMultiple : ℕ → ℕ → ℕ → ℕ → Type 0
HasMultiple offset slide low high = (k : ℕ) × (low < k * slide + offset) × (k * slide + offset ≤ high)

pub found : (offset slide low high : ℕ) → 1 ≤ slide → has_bound offset slide low high ≡ true → HasMultiple offset slide low high
found offset slide low high s h =
    let k = bounds_up_to offset slide low in
    let more : k < bounds_up_to offset slide high = ltb-true k (bounds_up_to offset slide high) h in
    let after : low < k * slide + offset = elim (cases_lt low (k * slide + offset)) [ inl l ↦ l | inr l ↦ absurd (omega (arith, counted offset slide low k s l)) ] in
    (k, after, at_most offset slide high k s more)

pub tested : (offset slide low high : ℕ) → 1 ≤ slide → HasMultiple offset slide low high → has_bound offset slide low high ≡ true
tested offset slide low high s (k, after, before) =
    let beyond : bounds_up_to offset slide low ≤ k = elim (cases_lt k (bounds_up_to offset slide low)) [ inl l ↦ absurd (omega (arith, at_most offset slide low k s l)) | inr l ↦ l ] in
    let within : k < bounds_up_to offset slide high = counted offset slide high k s before in
    lt-ltb (bounds_up_to offset slide low) (bounds_up_to offset slide high) (omega arith)

quotient_rises : (m n k : ℕ) → m ≤ n → m / k ≤ n / k
quotient_rises m n zero h = omega (arith, div-zero m, div-zero n)
quotient_rises m n (suc k) h = le-div (m / suc k) n (suc k) (omega arith) (omega (arith, div-mul-le_self m (suc k)))

count_rises : (offset slide s t : ℕ) → s ≤ t → bounds_up_to offset slide s ≤ bounds_up_to offset slide t
count_rises offset slide s t h = by (cases_lt s offset) (cases_lt t offset)
  where
    quotient : (s - offset) / slide ≤ (t - offset) / slide
    quotient = quotient_rises (s - offset) (t - offset) slide (omega arith)

    by : (s < offset) ⊎ (offset ≤ s) → (t < offset) ⊎ (offset ≤ t) → bounds_up_to offset slide s ≤ bounds_up_to offset slide t
    by (inl a) _ = grind (arith, nat_tests)
    by (inr a) (inl b) = absurd (omega arith)
    by (inr a) (inr b) = grind (arith, nat_tests, quotient)

-- one that lies between two times lies between times that are farther apart
pub bound_stays : (offset slide low high below above : ℕ) → below ≤ low → high ≤ above → has_bound offset slide low high ≡ true → has_bound offset slide below above ≡ true
bound_stays offset slide low high below above a b h =
    let m : bounds_up_to offset slide low < bounds_up_to offset slide high = ltb-true _ _ h in
    lt-ltb (bounds_up_to offset slide below) (bounds_up_to offset slide above) (omega (arith, count_rises offset slide below low a, count_rises offset slide high above b))

-- none lies between a time and itself
pub no_bound_at_once : (offset slide time : ℕ) → has_bound offset slide time time ≡ false
no_bound_at_once offset slide time = grind (arith, nat_tests)

-- and one across a time lies before it or behind it
pub bound_before_or_behind : (length slide low time high : ℕ) → HasBound length slide low high → HasBound length slide low time ⊎ HasBound length slide time high
bound_before_or_behind length slide low time high (k, bound) = elim bound [
  | inl start ↦ elim (cases_lt time (k * slide)) [ inl l ↦ inr (k, inl (l, start.1)) | inr l ↦ inl (k, inl (start.0, l)) ]
  | inr end ↦ elim (cases_lt time (k * slide + length)) [ inl l ↦ inr (k, inr (l, end.1)) | inr l ↦ inl (k, inr (end.0, l)) ]
]
