-- Where the first span starts that ends after a time, among spans that lie apart.
use Rattle.std.proofs.Common.{◌≡◌, ℕ, ◌-◌, ◌^◌, ◌<◌, ◌≤◌, Bool, true, false, cond, List, [], ◌∷◌, ap, sym, subst, refl, arith, inl, inr, Some}
use Rattle.std.specs.Prelude.{◌⊎◌, nat_lt}
use Rattle.std.specs.List.{All, Contains, filter}
use Rattle.std.specs.Option.{option_map_or}
use Rattle.std.proofs.lemmas.Bool.{cases_lt, le-ltb, lt-ltb}
use Rattle.std.proofs.lemmas.List.Elements.{All-contains}
use Rattle.stream_base.proofs.Members.{filter_members}
use Rattle.stream_base.proofs.Rising.{Contains-cons_cases, Contains-head, none_in_nil}
use Rattle.window_spans.specs.declared.span.Span.{Span}
use Rattle.window_spans.specs.Ahead.{first_after, start_after}
use Rattle.window_spans.specs.Spans.{AreApart}
use Rattle.window_spans.proofs.Apart.{proper}

-- the start of the first of some spans
abbrev pub low_first : List Span → ℕ
low_first [] = 2 ^ 64 - 1
low_first (s ∷ ss) = s.low

-- those that end after a time
abbrev pub later : ℕ → List Span → List Span
later time ss = filter (λ (s : Span). nat_lt time s.high) ss

pub starts_with : (time : ℕ) (ss : List Span) → start_after time ss ≡ low_first (later time ss)
starts_with time [] = refl
starts_with time (s ∷ ss) = by (nat_lt time s.high) (starts_with time ss)
  where
    by : (b : Bool) → start_after time ss ≡ low_first (later time ss) → option_map_or (λ (t : Span). t.low) (cond b (Some s) (first_after time ss)) (2 ^ 64 - 1) ≡ low_first (cond b (s ∷ later time ss) (later time ss))
    by true h = refl
    by false h = h

module _ (time : ℕ) where
  kept_first : (s : Span) (ss : List Span) → time < s.high → later time (s ∷ ss) ≡ s ∷ later time ss
  kept_first s ss l = ap (λ b. cond b (s ∷ later time ss) (later time ss)) (lt-ltb time s.high l)

  left_first : (s : Span) (ss : List Span) → s.high ≤ time → later time (s ∷ ss) ≡ later time ss
  left_first s ss l = ap (λ b. cond b (s ∷ later time ss) (later time ss)) (le-ltb time s.high l)

  -- behind a span starts no earlier one
  starts_behind : (s : Span) (ss : List Span) → All (λ (t : Span). s.high ≤ t.low) ss → (s.high ≤ low_first (later time ss)) ⊎ (low_first (later time ss) ≡ 2 ^ 64 - 1)
  starts_behind s ss a = by (later time ss) (λ t c. All-contains (λ (t : Span). s.high ≤ t.low) ss t a (filter_members (λ (s : Span). nat_lt time s.high) ss t c).0)
    where
      by : (ts : List Span) → ((t : Span) → Contains ts t → s.high ≤ t.low) → (s.high ≤ low_first ts) ⊎ (low_first ts ≡ 2 ^ 64 - 1)
      by [] h = inr refl
      by (t ∷ ts) h = inl (h t (Contains-head t ts))

  -- a span that starts before that one ends at or before the time
  pub ends_early : (ss : List Span) (s : Span) (t : ℕ) → AreApart ss → Contains ss s → s.low ≤ t → t < low_first (later time ss) → s.high ≤ time
  ends_early [] s t a c l m = absurd (none_in_nil s c)
  ends_early (u ∷ us) s t a c l m =
      elim (cases_lt time u.high) [
        | inl h ↦ absurd (let n : t < u.low = subst (λ z. t < low_first z) (kept_first u us h) m in
            elim (Contains-cons_cases u us s c) [
              | inl e ↦ let o : u.low ≤ t = subst (λ (z : Span). z.low ≤ t) (sym e) l in omega (arith, n, o)
              | inr f ↦ let o : u.high ≤ s.low = All-contains (λ (z : Span). u.high ≤ z.low) us s a.1 f in omega (arith, n, o, a.0, l)
            ])
        | inr h ↦ elim (Contains-cons_cases u us s c) [
          | inl e ↦ subst (λ (z : Span). z.high ≤ time) e h
          | inr f ↦ ends_early us s t a.2 f l (subst (λ z. t < low_first z) (left_first u us h) m)
        ]
      ]

  -- and one that ends behind its start ends after the time
  pub ends_late : (ss : List Span) (s : Span) (t : ℕ) → AreApart ss → Contains ss s → t < s.high → t < 2 ^ 64 - 1 → low_first (later time ss) ≤ t → time < s.high
  ends_late [] s t a c l k m = absurd (none_in_nil s c)
  ends_late (u ∷ us) s t a c l k m =
      elim (cases_lt time u.high) [
        | inl h ↦ elim (Contains-cons_cases u us s c) [
          | inl e ↦ subst (λ (z : Span). time < z.high) e h
          | inr f ↦ let o : u.high ≤ s.low = All-contains (λ (z : Span). u.high ≤ z.low) us s a.1 f in
              let q : s.low ≤ s.high = All-contains (λ (z : Span). z.low ≤ z.high) us s (proper us a.2) f in
              omega (arith, h, o, q)
        ]
        | inr h ↦ let n : low_first (later time us) ≤ t = subst (λ z. low_first z ≤ t) (left_first u us h) m in
            elim (Contains-cons_cases u us s c) [
              | inl e ↦ absurd (let q : t < u.high = subst (λ (z : Span). t < z.high) (sym e) l in
                  elim (starts_behind u us a.1) [ inl o ↦ omega (arith, n, o, q) | inr o ↦ omega (arith, n, o, k) ])
              | inr f ↦ ends_late us s t a.2 f l k n
            ]
      ]
