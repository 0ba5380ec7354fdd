-- Sessions one behind another.
use Rattle.std.proofs.Common.{◌≡◌, ℕ, ◌+◌, ◌<◌, ◌≤◌, Bool, true, false, cond, List, [], ◌∷◌, ◌++◌, sym, subst, arith, inl, inr}
use Rattle.std.specs.Prelude.{◌⊎◌, nat_le, nat_lt}
use Rattle.std.specs.List.{All, Contains, filter, fold}
use Rattle.std.specs.List.Sorted.{IsNonDecreasingBy}
use Rattle.std.proofs.lemmas.Bool.{leb-true, ltb-true, and_parts}
use Rattle.std.proofs.lemmas.List.Elements.{All-cons, All-nil, All-head, All-tail, All-contains, All-filter, All-append}
use Rattle.stream_base.proofs.Rising.{Contains-cons_cases, Contains-head, Contains-tail, none_in_nil}
use Rattle.slice_lists.proofs.Order.{nd_cons, nd_nil}
use Rattle.window_spans.specs.declared.span.Span.{Span}
use Rattle.window_spans.specs.Spans.{AreApart, is_near, joined_span, near_of, over_both, span_alone, spans_with}

pub proper : (ss : List Span) → AreApart ss → All (λ s. s.low ≤ s.high) ss
proper [] a = All-nil (λ (s : Span). s.low ≤ s.high)
proper (s ∷ ss) a = All-cons (λ (s : Span). s.low ≤ s.high) s ss a.0 (proper ss a.2)

pub highs_rise : (ss : List Span) → AreApart ss → IsNonDecreasingBy (λ (s : Span). s.high) ss
highs_rise [] a = nd_nil (λ (s : Span). s.high)
highs_rise (s ∷ ss) a =
    nd_cons (λ (s : Span). s.high) s ss
    (λ k d m. let l = a.1 k d m in let r = proper ss a.2 k d m in omega arith)
    (highs_rise ss a.2)

pub lows_rise : (ss : List Span) → AreApart ss → IsNonDecreasingBy (λ (s : Span). s.low) ss
lows_rise [] a = nd_nil (λ (s : Span). s.low)
lows_rise (s ∷ ss) a =
    nd_cons (λ (s : Span). s.low) s ss
    (λ k d m. let l = a.1 k d m in let p = a.0 in omega arith)
    (lows_rise ss a.2)

pub apart_filter : (p : Span → Bool) (ss : List Span) → AreApart ss → AreApart (filter p ss)
apart_filter p [] a = tt
apart_filter p (s ∷ ss) a = by (p s) (apart_filter p ss a.2)
  where
    by : (b : Bool) → AreApart (filter p ss) → AreApart (cond b (s ∷ filter p ss) (filter p ss))
    by true r = (a.0, All-filter p (λ (t : Span). s.high ≤ t.low) ss a.1, r)
    by false r = r

-- of two sessions one is the other, or ends before the other starts
pub ordered : (ss : List Span) (s t : Span) → AreApart ss → Contains ss s → Contains ss t → (s ≡ t) ⊎ ((s.high ≤ t.low) ⊎ (t.high ≤ s.low))
ordered [] s t a c d = absurd (none_in_nil s c)
ordered (x ∷ xs) s t a c d =
    elim (Contains-cons_cases x xs s c) [
      | inl e ↦ elim (Contains-cons_cases x xs t d) [
        | inl f ↦ inl (cc)
        | inr f ↦ inr (inl (let l : x.high ≤ t.low = All-contains (λ (t : Span). x.high ≤ t.low) xs t a.1 f in subst (λ (k : Span). k.high ≤ t.low) e l))
      ]
      | inr e ↦ elim (Contains-cons_cases x xs t d) [
        | inl f ↦ inr (inr (let l : x.high ≤ s.low = All-contains (λ (t : Span). x.high ≤ t.low) xs s a.1 e in subst (λ (k : Span). k.high ≤ s.low) f l))
        | inr f ↦ ordered xs s t a.2 e f
      ]
    ]

-- what passes a test has a fact, where the test gives it
pub All_filtered : {X : Type 0} (p : X → Bool) (P : X → Type 0) (xs : List X) → ((x : X) → Contains xs x → p x ≡ true → P x) → All P (filter p xs)
All_filtered p P [] h = All-nil P
All_filtered {X} p P (x ∷ xs) h = by (p x) (h x (Contains-head x xs)) (All_filtered p P xs (λ y c. h y (Contains-tail x xs y c)))
  where
    by : (b : Bool) → (b ≡ true → P x) → All P (filter p xs) → All P (cond b (x ∷ filter p xs) (filter p xs))
    by true h r = All-cons P x (filter p xs) (h (λ i. true)) r
    by false h r = r

-- ---- the least span over some
pub least_low : (m : ℕ) (start : Span) (near : List Span) → m ≤ start.low → All (λ s. m ≤ s.low) near → m ≤ (fold over_both start near).low
least_low m start [] l a = l
least_low m start (s ∷ ss) l a = let h = All-head (λ (s : Span). m ≤ s.low) s ss a in least_low m (over_both start s) ss (omega arith) (All-tail (λ (s : Span). m ≤ s.low) s ss a)

pub most_high : (m : ℕ) (start : Span) (near : List Span) → start.high ≤ m → All (λ s. s.high ≤ m) near → (fold over_both start near).high ≤ m
most_high m start [] l a = l
most_high m start (s ∷ ss) l a = let h = All-head (λ (s : Span). s.high ≤ m) s ss a in most_high m (over_both start s) ss (omega arith) (All-tail (λ (s : Span). s.high ≤ m) s ss a)

pub low_falls : (start : Span) (near : List Span) → (fold over_both start near).low ≤ start.low
low_falls start [] = omega arith
low_falls start (s ∷ ss) = let h = low_falls (over_both start s) ss in omega arith

pub high_rises : (start : Span) (near : List Span) → start.high ≤ (fold over_both start near).high
high_rises start [] = omega arith
high_rises start (s ∷ ss) = let h = high_rises (over_both start s) ss in omega arith

pub append_apart : (xs ys : List Span) → AreApart xs → AreApart ys → All (λ s. All (λ t. s.high ≤ t.low) ys) xs → AreApart (xs ++ ys)
append_apart [] ys a b c = b
append_apart (x ∷ xs) ys a b c = (
  a.0,
  All-append (λ (t : Span). x.high ≤ t.low) xs ys a.1 (All-head (λ (s : Span). All (λ t. s.high ≤ t.low) ys) x xs c),
  append_apart xs ys a.2 b (All-tail (λ (s : Span). All (λ t. s.high ≤ t.low) ys) x xs c),
)

-- ---- sessions with a tuple more
module _ (gap time : ℕ) (some : 1 ≤ gap) (ss : List Span) (a : AreApart ss) where
  joined : Span
  joined = joined_span gap time (near_of gap time ss)

  near_parts : (s : Span) → is_near gap time s ≡ true → (time < s.high) × (s.low < time + gap)
  near_parts s e = let h = and_parts (nat_lt time s.high) (nat_lt s.low (time + gap)) e in (ltb-true time s.high h.0, ltb-true s.low (time + gap) h.1)

  front_below : (s : Span) → Contains ss s → s.high ≤ time → s.high ≤ (joined_span gap time (near_of gap time ss)).low
  front_below s c l =
      least_low s.high (span_alone gap time) (near_of gap time ss) l
      (All_filtered (is_near gap time) (λ (n : Span). s.high ≤ n.low) ss (λ n d e.
      let p = near_parts n e in
      let q : s.low ≤ s.high = All-contains (λ (s : Span). s.low ≤ s.high) ss s (proper ss a) c in
      elim (ordered ss s n a c d) [
        | inl f ↦ absurd (let g : n.high ≤ time = subst (λ (k : Span). k.high ≤ time) f l in omega (arith, p.0))
        | inr f ↦ elim f [
          | inl g ↦ g
          | inr g ↦ absurd (omega (arith, p.0))
        ]
      ]))

  back_above : (t : Span) → Contains ss t → time + gap ≤ t.low → (joined_span gap time (near_of gap time ss)).high ≤ t.low
  back_above t c l =
      most_high t.low (span_alone gap time) (near_of gap time ss) l
      (All_filtered (is_near gap time) (λ (n : Span). n.high ≤ t.low) ss (λ n d e.
      let p = near_parts n e in
      let q : t.low ≤ t.high = All-contains (λ (s : Span). s.low ≤ s.high) ss t (proper ss a) c in
      elim (ordered ss n t a d c) [
        | inl f ↦ absurd (let g : time + gap ≤ n.low = subst (λ (k : Span). time + gap ≤ k.low) (sym f) l in omega (arith, p.1))
        | inr f ↦ elim f [
          | inl g ↦ g
          | inr g ↦ absurd (omega (arith, p.1))
        ]
      ]))

  pub apart_with : AreApart (spans_with gap time ss)
  apart_with =
      append_apart (filter (λ s. nat_le s.high time) ss) (joined_span gap time (near_of gap time ss) ∷ filter (λ s. nat_le (time + gap) s.low) ss)
      (apart_filter (λ s. nat_le s.high time) ss a) (
        (let l = low_falls (span_alone gap time) (near_of gap time ss) in let h = high_rises (span_alone gap time) (near_of gap time ss) in omega arith),
        All_filtered (λ s. nat_le (time + gap) s.low) (λ (t : Span). (joined_span gap time (near_of gap time ss)).high ≤ t.low) ss (λ t c e. back_above t c (leb-true (time + gap) t.low e)),
        apart_filter (λ s. nat_le (time + gap) s.low) ss a,
      )
      (All_filtered (λ s. nat_le s.high time) (λ (s : Span). All (λ t. s.high ≤ t.low) (joined_span gap time (near_of gap time ss) ∷ filter (λ s. nat_le (time + gap) s.low) ss)) ss (λ s c e.
      let l : s.high ≤ time = leb-true s.high time e in
      All-cons (λ (t : Span). s.high ≤ t.low) (joined_span gap time (near_of gap time ss)) (filter (λ s. nat_le (time + gap) s.low) ss)
      (front_below s c l)
      (All_filtered (λ s. nat_le (time + gap) s.low) (λ (t : Span). s.high ≤ t.low) ss (λ t d f. let m : time + gap ≤ t.low = leb-true (time + gap) t.low f in omega arith))))
