-- Instances in front of a time, near it and behind it, and their spans.
use Rattle.std.proofs.Common.{◌≡◌, ◌∙◌, ℕ, ◌+◌, ◌<◌, ◌≤◌, Bool, true, false, List, ◌++◌, map, ap, arith}
use Rattle.std.specs.Prelude.{nat_le, nat_lt}
use Rattle.std.specs.List.{All, filter}
use Rattle.std.proofs.lemmas.Bool.{and_from, and_left, and_right, le-leb, lt-leb, le-ltb, lt-ltb}
use Rattle.std.proofs.lemmas.List.Elements.{All-filter, All-weaker, filter-append}
use Rattle.stream_base.specs.Model.Windows.{Instance}
use Rattle.stream_base.proofs.Members.{filter_map_of}
use Rattle.stream_base.proofs.Filters.{filter_all}
use Rattle.window_spans.specs.declared.span.Span.{Span}
use Rattle.window_spans.specs.Spans.{is_near, near_of, span_of}
use Rattle.window_spans.proofs.Parts.{filter_back, filter_front, filter_near}

abbrev pub IsFront : ℕ → ℕ → Instance → Type 0
IsFront gap time i = (i.high ≤ time) × (i.low < time + gap)

abbrev pub IsMid : ℕ → ℕ → Instance → Type 0
IsMid gap time i = (time < i.high) × (i.low < time + gap)

abbrev pub IsBack : ℕ → ℕ → Instance → Type 0
IsBack gap time i = (time + gap ≤ i.low) × (time < i.high)

pub record InThirds (gap time : ℕ) (all front mid back : List Instance) : Type 0 where
  pub was : all ≡ front ++ (mid ++ back)
  pub fronts : All (IsFront gap time) front
  pub mids : All (IsMid gap time) mid
  pub backs : All (IsBack gap time) back

module _ (gap time : ℕ) (all front mid back : List Instance) (p : InThirds gap time all front mid back) where
  near_front : (i : Instance) → IsFront gap time i → is_near gap time (span_of i) ≡ false
  near_front i h = and_left (nat_lt time i.high) (nat_lt i.low (time + gap)) (le-ltb time i.high h.0)

  near_mid : (i : Instance) → IsMid gap time i → is_near gap time (span_of i) ≡ true
  near_mid i h = and_from (nat_lt time i.high) (nat_lt i.low (time + gap)) (lt-ltb time i.high h.0) (lt-ltb i.low (time + gap) h.1)

  near_back : (i : Instance) → IsBack gap time i → is_near gap time (span_of i) ≡ false
  near_back i h = and_right (nat_lt time i.high) (nat_lt i.low (time + gap)) (le-ltb i.low (time + gap) h.0)

  pub mids_are : filter (λ (i : Instance). is_near gap time (span_of i)) all ≡ mid
  mids_are =
      ap (filter (λ (i : Instance). is_near gap time (span_of i))) p.was
      ∙ filter_near (λ (i : Instance). is_near gap time (span_of i)) front mid back
      (All-weaker (IsFront gap time) (λ i. is_near gap time (span_of i) ≡ false) near_front front p.fronts)
      (All-weaker (IsMid gap time) (λ i. is_near gap time (span_of i) ≡ true) near_mid mid p.mids)
      (All-weaker (IsBack gap time) (λ i. is_near gap time (span_of i) ≡ false) near_back back p.backs)

  module _ (forgotten : ℕ) (le : forgotten ≤ time) where
    pub mids_later : All (λ (i : Instance). nat_lt forgotten i.high ≡ true) mid
    mids_later = All-weaker (IsMid gap time) (λ (i : Instance). nat_lt forgotten i.high ≡ true) (λ i h. lt-ltb forgotten i.high (omega (arith, h.0))) mid p.mids

    pub backs_later : All (λ (i : Instance). nat_lt forgotten i.high ≡ true) back
    backs_later = All-weaker (IsBack gap time) (λ (i : Instance). nat_lt forgotten i.high ≡ true) (λ i h. lt-ltb forgotten i.high (omega (arith, h.1))) back p.backs

    parts : filter (λ (i : Instance). nat_lt forgotten i.high) all ≡ filter (λ i. nat_lt forgotten i.high) front ++ (mid ++ back)
    parts =
        ap (filter (λ (i : Instance). nat_lt forgotten i.high)) p.was
        ∙ filter-append (λ (i : Instance). nat_lt forgotten i.high) front (mid ++ back)
        ∙ ap (λ l. filter (λ (i : Instance). nat_lt forgotten i.high) front ++ l)
        (filter-append (λ (i : Instance). nat_lt forgotten i.high) mid back
        ∙ (λ k. filter_all (λ (i : Instance). nat_lt forgotten i.high) mid mids_later k ++ filter_all (λ (i : Instance). nat_lt forgotten i.high) back backs_later k))

    fronts_left : All (IsFront gap time) (filter (λ (i : Instance). nat_lt forgotten i.high) front)
    fronts_left = All-filter (λ (i : Instance). nat_lt forgotten i.high) (IsFront gap time) front p.fronts

    module _ (spans : List Span) (is : spans ≡ map span_of (filter (λ (i : Instance). nat_lt forgotten i.high) all)) where
      read : (q : Span → Bool) → filter q spans ≡ map span_of (filter (λ i. q (span_of i)) (filter (λ (i : Instance). nat_lt forgotten i.high) front ++ (mid ++ back)))
      read q = ap (filter q) (is ∙ ap (map span_of) parts) ∙ filter_map_of q span_of (filter (λ (i : Instance). nat_lt forgotten i.high) front ++ (mid ++ back))

      pub spans_mid : near_of gap time spans ≡ map span_of mid
      spans_mid =
          read (is_near gap time)
          ∙ ap (map span_of) (filter_near (λ (i : Instance). is_near gap time (span_of i)) (filter (λ (i : Instance). nat_lt forgotten i.high) front) mid back
          (All-weaker (IsFront gap time) (λ i. is_near gap time (span_of i) ≡ false) near_front (filter (λ (i : Instance). nat_lt forgotten i.high) front) fronts_left)
          (All-weaker (IsMid gap time) (λ i. is_near gap time (span_of i) ≡ true) near_mid mid p.mids)
          (All-weaker (IsBack gap time) (λ i. is_near gap time (span_of i) ≡ false) near_back back p.backs))

      pub spans_front : filter (λ s. nat_le s.high time) spans ≡ map span_of (filter (λ (i : Instance). nat_lt forgotten i.high) front)
      spans_front =
          read (λ s. nat_le s.high time)
          ∙ ap (map span_of) (filter_front (λ (i : Instance). nat_le i.high time) (filter (λ (i : Instance). nat_lt forgotten i.high) front) mid back
          (All-weaker (IsFront gap time) (λ i. nat_le i.high time ≡ true) (λ i h. le-leb i.high time h.0) (filter (λ (i : Instance). nat_lt forgotten i.high) front) fronts_left)
          (All-weaker (IsMid gap time) (λ i. nat_le i.high time ≡ false) (λ i h. lt-leb i.high time h.0) mid p.mids)
          (All-weaker (IsBack gap time) (λ i. nat_le i.high time ≡ false) (λ i h. lt-leb i.high time h.1) back p.backs))

      pub spans_back : filter (λ s. nat_le (time + gap) s.low) spans ≡ map span_of back
      spans_back =
          read (λ s. nat_le (time + gap) s.low)
          ∙ ap (map span_of) (filter_back (λ (i : Instance). nat_le (time + gap) i.low) (filter (λ (i : Instance). nat_lt forgotten i.high) front) mid back
          (All-weaker (IsFront gap time) (λ i. nat_le (time + gap) i.low ≡ false) (λ i h. lt-leb (time + gap) i.low h.1) (filter (λ (i : Instance). nat_lt forgotten i.high) front) fronts_left)
          (All-weaker (IsMid gap time) (λ i. nat_le (time + gap) i.low ≡ false) (λ i h. lt-leb (time + gap) i.low h.1) mid p.mids)
          (All-weaker (IsBack gap time) (λ i. nat_le (time + gap) i.low ≡ true) (λ i h. le-leb (time + gap) i.low h.0) back p.backs))
