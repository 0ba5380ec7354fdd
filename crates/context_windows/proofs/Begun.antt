-- When the last span ends that starts by a time, and where the first starts that ends after a watermark.
use Rattle.std.proofs.Common.{◌≡◌, ◌∙◌, ℕ, ◌+◌, ◌-◌, ◌^◌, ◌<◌, ◌≤◌, cond, List, [], ◌∷◌, Some, ap, refl, arith, inl, inr}
use Rattle.std.specs.Prelude.{◌⊎◌}
use Rattle.std.specs.List.{All}
use Rattle.std.specs.Option.{option_map_or}
use Rattle.std.proofs.lemmas.Bool.{cases_lt, le-ltb, lt-ltb}
use Rattle.std.proofs.lemmas.List.Elements.{All-head, All-tail, All-weaker}
use Rattle.stream_base.specs.declared.limits.TheConstants.{TIME_MAX}
use Rattle.window_spans.specs.declared.span.Span.{Span}
use Rattle.window_spans.specs.Ahead.{end_of_last_begun, first_after, start_after}
use Rattle.window_spans.specs.Spans.{AreApart}
use Rattle.window_spans.proofs.Lasts.{begins_later, begun_first}

-- ---- one span in front
first_starts : (time : ℕ) (s : Span) (ss : List Span) → time < s.high → start_after time (s ∷ ss) ≡ s.low
first_starts time s ss l = ap (λ b. option_map_or (λ (t : Span). t.low) (cond b (Some s) (first_after time ss)) (2 ^ 64 - 1)) (lt-ltb time s.high l)

later_starts : (time : ℕ) (s : Span) (ss : List Span) → s.high ≤ time → start_after time (s ∷ ss) ≡ start_after time ss
later_starts time s ss l = ap (λ b. option_map_or (λ (t : Span). t.low) (cond b (Some s) (first_after time ss)) (2 ^ 64 - 1)) (le-ltb time s.high l)

-- ---- up to the end of the last span that starts by a time, the first that ends later starts by it, and none behind does
none_begun : (time : ℕ) (ss : List Span) → All (λ (s : Span). time < s.low) ss → end_of_last_begun time ss ≡ 0
none_begun time [] a = refl
none_begun time (s ∷ ss) a = begins_later time s ss (All-head (λ (s : Span). time < s.low) s ss a) ∙ none_begun time ss (All-tail (λ (s : Span). time < s.low) s ss a)

pub begun_open : (time water : ℕ) (ss : List Span) → AreApart ss → water < end_of_last_begun time ss → start_after water ss ≤ time
begun_open time water [] a l = absurd (omega arith)
begun_open time water (s ∷ ss) a l = by (cases_lt time s.low) (cases_lt water s.high) (begun_open time water ss a.2)
  where
    by : (time < s.low) ⊎ (s.low ≤ time) → (water < s.high) ⊎ (s.high ≤ water) → (water < end_of_last_begun time ss → start_after water ss ≤ time) → start_after water (s ∷ ss) ≤ time
    by (inl h) k rest =
        let none = none_begun time ss (All-weaker (λ (t : Span). s.high ≤ t.low) (λ t. time < t.low) (λ t o. omega (arith, o, a.0)) ss a.1) in
        absurd (omega (arith, begins_later time s ss h, none))
    by (inr h) (inl k) rest = omega (arith, first_starts water s ss k)
    by (inr h) (inr k) rest = let r = rest (omega (arith, begun_first time s ss h)) in omega (arith, later_starts water s ss k, r)

pub begun_ended : (time water : ℕ) (ss : List Span) → time ≤ TIME_MAX → end_of_last_begun time ss ≤ water → time < start_after water ss
begun_ended time water [] t l = omega arith
begun_ended time water (s ∷ ss) t l = by (cases_lt time s.low) (cases_lt water s.high) (begun_ended time water ss t)
  where
    by : (time < s.low) ⊎ (s.low ≤ time) → (water < s.high) ⊎ (s.high ≤ water) → (end_of_last_begun time ss ≤ water → time < start_after water ss) → time < start_after water (s ∷ ss)
    by (inl h) (inl k) rest = omega (arith, first_starts water s ss k)
    by (inl h) (inr k) rest = let r = rest (omega (arith, begins_later time s ss h)) in omega (arith, later_starts water s ss k, r)
    by (inr h) (inl k) rest = absurd (omega (arith, begun_first time s ss h))
    by (inr h) (inr k) rest = let r = rest (omega (arith, begun_first time s ss h)) in omega (arith, later_starts water s ss k, r)

-- it is the end of a span, or 0
pub begun_bounded : (time most : ℕ) (ss : List Span) → All (λ (s : Span). s.high ≤ most) ss → end_of_last_begun time ss ≤ most
begun_bounded time most [] a = omega arith
begun_bounded time most (s ∷ ss) a = by (cases_lt time s.low) (begun_bounded time most ss (All-tail (λ (s : Span). s.high ≤ most) s ss a))
  where
    by : (time < s.low) ⊎ (s.low ≤ time) → end_of_last_begun time ss ≤ most → end_of_last_begun time (s ∷ ss) ≤ most
    by (inl h) rest = omega (arith, begins_later time s ss h)
    by (inr h) rest = let first : s.high ≤ most = All-head (λ (s : Span). s.high ≤ most) s ss a in omega (arith, begun_first time s ss h)

-- the watermark by which what ends so is settled
module _ (by_water end lateness water : ℕ) (none : end ≡ 0 → by_water ≡ 0) (some : 0 < end → by_water ≡ end + lateness) where
  pub not_reached : water < by_water → water - lateness < end
  not_reached l = elim (cases_lt 0 end) [
    | inl h ↦ omega (arith, some h)
    | inr h ↦ absurd (omega (arith, none (omega arith)))
  ]

  pub is_reached : by_water ≤ water → end ≤ water - lateness
  is_reached l = elim (cases_lt 0 end) [
    | inl h ↦ omega (arith, some h)
    | inr h ↦ omega arith
  ]
