-- At the first end after a watermark a span is due.
use Rattle.std.proofs.Common.{◌≡◌, ℕ, ◌^◌, ◌-◌, ◌<◌, ◌≤◌, true, false, cond, Option, Some, List, [], ◌∷◌, length, ap, sym, subst, arith, inl, inr}
use Rattle.std.specs.Prelude.{◌⊎◌, nat_le, nat_lt}
use Rattle.std.specs.Option.{option_map_or}
use Rattle.std.proofs.lemmas.Bool.{and_from, and_left, cases_Bool, le-leb, ltb-true}
use Rattle.stream_base.specs.declared.limits.TheConstants.{FINAL}
use Rattle.window_spans.specs.declared.span.Span.{Span}
use Rattle.window_spans.specs.Ahead.{end_after, first_after}
use Rattle.window_spans.specs.Spans.{due_of}

pub some_due : (water end : ℕ) (ss : List Span) → end_after water ss ≡ end → end ≤ FINAL → (water < end) × (1 ≤ length (due_of water end ss))
some_due water end [] e l = absurd (omega arith)
some_due water end (s ∷ ss) e l = by (cases_Bool (nat_lt water s.high)) (some_due water end ss)
  where
    by : (nat_lt water s.high ≡ true) ⊎ (nat_lt water s.high ≡ false) → (end_after water ss ≡ end → end ≤ FINAL → (water < end) × (1 ≤ length (due_of water end ss))) → (water < end) × (1 ≤ length (due_of water end (s ∷ ss)))
    by (inl t) rest =
        let ends : s.high ≡ end = subst (λ (o : Option Span). option_map_or (λ (t : Span). t.high) o (2 ^ 64 - 1) ≡ end) (ap (λ b. cond b (Some s) (first_after water ss)) t) e in
        let after : water < s.high = ltb-true water s.high t in
        (omega arith, subst (λ b. 1 ≤ length (cond b (s ∷ due_of water end ss) (due_of water end ss))) (sym (and_from (nat_lt water s.high) (nat_le s.high end) t (le-leb s.high end (omega arith)))) (omega arith))
    by (inr f) rest =
        let later = rest (subst (λ (o : Option Span). option_map_or (λ (t : Span). t.high) o (2 ^ 64 - 1) ≡ end) (ap (λ b. cond b (Some s) (first_after water ss)) f) e) l in
        (later.0, subst (λ b. 1 ≤ length (cond b (s ∷ due_of water end ss) (due_of water end ss))) (sym (and_left (nat_lt water s.high) (nat_le s.high end) f)) later.1)
