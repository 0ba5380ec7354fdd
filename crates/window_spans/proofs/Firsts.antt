-- The first span that ends after a time.
use Rattle.std.proofs.Common.{◌≡◌, ◌∙◌, ℕ, zero, suc, ◌-◌, ◌^◌, ◌<◌, ◌≤◌, true, false, cond, List, [], ◌∷◌, length, get_or, ap, sym, subst, refl, arith, inl, inr, Some, None}
use Rattle.std.specs.Prelude.{◌⊎◌, nat_le, nat_lt}
use Rattle.std.specs.Option.{option_map_or}
use Rattle.std.proofs.lemmas.Bool.{and_left, and_right, cases_Bool, le-ltb, leb-false, leb-true, lt-leb, lt-ltb, ltb-false, ltb-true}
use Rattle.stream_base.proofs.Filters.{filter_none}
use Rattle.window_spans.specs.declared.span.Span.{Span}
use Rattle.window_spans.specs.Ahead.{end_after, first_after}
use Rattle.window_spans.specs.Spans.{AreApart, IsPlaceOf, due_of, is_due}
use Rattle.window_spans.proofs.Apart.{proper}

-- the rest is looked through where the first one ends too early
passed : (time : ℕ) (s : Span) (ss : List Span) → s.high ≤ time → first_after time (s ∷ ss) ≡ first_after time ss
passed time s ss l = ap (λ b. cond b (Some s) (first_after time ss)) (le-ltb time s.high l)

taken : (time : ℕ) (s : Span) (ss : List Span) → time < s.high → first_after time (s ∷ ss) ≡ Some s
taken time s ss l = ap (λ b. cond b (Some s) (first_after time ss)) (lt-ltb time s.high l)

found : (time : ℕ) (ss : List Span) (place : ℕ) (d : Span) → ((k : ℕ) → k < place → (get_or ss k d).high ≤ time) → place < length ss → time < (get_or ss place d).high → first_after time ss ≡ Some (get_or ss place d)
found time [] place d before l ends = absurd (omega arith)
found time (s ∷ ss) zero d before l ends = taken time s ss ends
found time (s ∷ ss) (suc k) d before l ends = passed time s ss (before 0 (omega arith)) ∙ found time ss k d (λ j m. before (suc j) (omega arith)) (omega arith) ends

none_found : (time : ℕ) (ss : List Span) (d : Span) → ((k : ℕ) → k < length ss → (get_or ss k d).high ≤ time) → first_after time ss ≡ None
none_found time [] d before = refl
none_found time (s ∷ ss) d before = passed time s ss (before 0 (omega arith)) ∙ none_found time ss d (λ j m. before (suc j) (omega arith))

pub found_at : (time : ℕ) (ss : List Span) (place : ℕ) (d : Span) → IsPlaceOf (λ (s : Span). nat_le s.high time) ss place → place < length ss → Some (get_or ss place d) ≡ first_after time ss
found_at time ss place d is l =
    sym (found time ss place d (λ k m. leb-true (get_or ss k d).high time (is.before k d (omega arith) m)) l (leb-false (get_or ss place d).high time (is.behind place d (omega arith) l)))

pub none_at : (time : ℕ) (ss : List Span) (place : ℕ) (d : Span) → IsPlaceOf (λ (s : Span). nat_le s.high time) ss place → length ss ≤ place → None ≡ first_after time ss
none_at time ss place d is l =
    sym (none_found time ss d (λ k m. leb-true (get_or ss k d).high time (is.before k d (omega arith) (omega arith))))

-- none ends after a watermark and up to another one, if that is before the first end
pub none_due : (water new : ℕ) (ss : List Span) → AreApart ss → new < end_after water ss → due_of water new ss ≡ []
none_due water new [] a l = refl
none_due water new (s ∷ ss) a l = by (cases_Bool (nat_lt water s.high)) (none_due water new ss a.2)
  where
    rest : (t : ℕ) → s.high ≡ t → new < t → due_of water new ss ≡ []
    rest t e m = filter_none (is_due water new) ss (λ k d n. let h = a.1 k d n in let p = proper ss a.2 k d n in and_right (nat_lt water (get_or ss k d).high) (nat_le (get_or ss k d).high new) (lt-leb (get_or ss k d).high new (omega arith)))

    by : (nat_lt water s.high ≡ true) ⊎ (nat_lt water s.high ≡ false) → (new < end_after water ss → due_of water new ss ≡ []) → due_of water new (s ∷ ss) ≡ []
    by (inl e) later =
        let m : new < s.high = subst (λ o. new < option_map_or (λ (t : Span). t.high) o (2 ^ 64 - 1)) (taken water s ss (ltb-true water s.high e)) l in
        ap (λ b. cond b (s ∷ due_of water new ss) (due_of water new ss)) (and_right (nat_lt water s.high) (nat_le s.high new) (lt-leb s.high new m))
        ∙ rest s.high refl m
    by (inr e) later =
        let m : new < end_after water ss = subst (λ o. new < option_map_or (λ (t : Span). t.high) o (2 ^ 64 - 1)) (passed water s ss (ltb-false water s.high e)) l in
        ap (λ b. cond b (s ∷ due_of water new ss) (due_of water new ss)) (and_left (nat_lt water s.high) (nat_le s.high new) e)
        ∙ later m
