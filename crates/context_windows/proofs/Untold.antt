-- Where the watermark isn't behind a tuple's time, no session near it stands, and neither does the one that it makes.
use Rattle.std.proofs.Common.{◌≡◌, ℕ, ◌+◌, ◌<◌, ◌≤◌, false, cond, List, [], length, take, ap, arith}
use Rattle.std.specs.Prelude.{nat_lt}
use Rattle.std.specs.List.{filter}
use Rattle.std.proofs.lemmas.Bool.{and_parts, ltb-true}
use Rattle.std.proofs.lemmas.Bool.Decides.{nat_tests}
use Rattle.stream_base.proofs.Filters.{filter_none}
use Rattle.window_spans.specs.declared.span.Span.{Span}
use Rattle.window_spans.specs.Spans.{asked_of, goes, is_near, joined_span, near_of, put_changes, span_alone, stands}
use Rattle.window_spans.proofs.Apart.{All_filtered, high_rises}

module _ (gap time water : ℕ) (ahead : water ≤ time) where
  ends_behind : (s : Span) → time < s.high → stands water s ≡ false
  ends_behind s h = grind (arith, nat_tests)

  pub none_asked : (spans : List Span) → asked_of gap time water spans ≡ []
  none_asked spans = ap (take 2) (filter_none (stands water) (near_of gap time spans)
      (All_filtered (is_near gap time) (λ s. stands water s ≡ false) spans (λ s c e. ends_behind s (ltb-true time s.high (and_parts (nat_lt time s.high) (nat_lt s.low (time + gap)) e).0))))

  pub none_told : (spans : List Span) → 1 ≤ gap → put_changes gap time water spans ≡ 0
  none_told spans some =
      let j : Span = joined_span gap time (near_of gap time spans) in
      let late : (span_alone gap time).high ≤ j.high = high_rises (span_alone gap time) (near_of gap time spans) in
      let ends : time < j.high = omega (arith, late) in
      (λ i. length (filter (goes water j) (none_asked spans i)) + cond (ends_behind j ends i) 1 0)
