-- What stood is told again or taken back: there are at least as many changes.
use Rattle.std.proofs.Common.{◌≡◌, ◌∙◌, ℕ, zero, suc, ◌+◌, ◌<◌, ◌≤◌, Bool, true, false, cond, Some, None, List, [], ◌∷◌, length, take, ap, sym, refl, subst, arith}
use Rattle.std.specs.Prelude.{◌==◌, ◌&&◌, nat_lt, not, option_to_list}
use Rattle.std.specs.List.{All, filter}
use Rattle.std.proofs.lemmas.Bool.{and_parts, ltb-true, ne_eqb}
use Rattle.std.proofs.lemmas.List.{length-map}
use Rattle.std.proofs.lemmas.List.Elements.{All-filter, All-head, All-tail, All-take, All-weaker}
use Rattle.stream_base.specs.declared.func.Func.{Func}
use Rattle.stream_base.specs.declared.kept.Kept.{Kept}
use Rattle.stream_base.specs.declared.limits.TheConstants.{FINAL}
use Rattle.stream_base.proofs.Filters.{filter_all}
use Rattle.window_spans.specs.declared.span.Span.{Span}
use Rattle.window_spans.specs.Parted.{first_or, holder_of}
use Rattle.window_spans.specs.Spans.{AreApart, asked_of, changes_of_joining, goes, head_standing, is_near, is_same_span, joined_span, near_of, put_changes, span_alone, span_of, stands}
use Rattle.window_spans.specs.Telling.{as_standing}
use Rattle.window_spans.proofs.Apart.{All_filtered, apart_filter, low_falls}
use Rattle.context_windows.specs.Marked.{FollowsMarks, Marked, RemembersHolder, asked_at, entered_at, holder_standing}
use Rattle.context_windows.proofs.Stretching.{asked_spans}

-- ---- sessions
apart_take : (n : ℕ) (ss : List Span) → AreApart ss → AreApart (take n ss)
apart_take zero ss a = tt
apart_take (suc n) [] a = tt
apart_take (suc n) (s ∷ ss) a = (a.0, All-take (λ (t : Span). s.high ≤ t.low) n ss a.1, apart_take n ss a.2)

-- a session that starts elsewhere than the joined one goes
starts_elsewhere : (water : ℕ) (j t : Span) → j.low < t.low → goes water j t ≡ true
starts_elsewhere water j t l = ap (λ b. not (stands water j && (b && (t.high == j.high)))) (ne_eqb t.low j.low (λ e. omega arith)) ∙ by (stands water j)
  where
    by : (b : Bool) → not (b && false) ≡ true
    by true = refl
    by false = refl

-- of the sessions near a tuple at most one has the span of the one that it makes
pub at_most_one_stays : (water time : ℕ) (j : Span) (ss : List Span) → j.low ≤ time → All (λ s. time < s.high) ss → AreApart ss → length ss ≤ changes_of_joining water j ss
at_most_one_stays water time j [] l ends a = omega arith
at_most_one_stays water time j (s ∷ ss) l ends a =
    by (stands water j) (is_same_span s j) refl (at_most_one_stays water time j ss l (All-tail (λ (s : Span). time < s.high) s ss ends) a.2)
  where
    others_go : filter (goes water j) ss ≡ ss
    others_go =
        filter_all (goes water j) ss
        (All-weaker (λ (t : Span). s.high ≤ t.low) (λ t. goes water j t ≡ true)
        (λ t h. starts_elsewhere water j t (let e : time < s.high = All-head (λ (s : Span). time < s.high) s ss ends in omega arith)) ss a.1)

    by : (b c : Bool) → stands water j ≡ b → length ss ≤ length (filter (goes water j) ss) + cond (stands water j) 1 0
        → length (s ∷ ss) ≤ length (cond (not (b && c)) (s ∷ filter (goes water j) ss) (filter (goes water j) ss)) + cond b 1 0
    by true true e rest = let all : length (filter (goes water j) ss) ≡ length ss = ap length others_go in omega arith
    by true false e rest = let r : length ss ≤ length (filter (goes water j) ss) + 1 = subst (λ b. length ss ≤ length (filter (goes water j) ss) + cond b 1 0) e rest in omega arith
    by false c e rest = let r : length ss ≤ length (filter (goes water j) ss) + 0 = subst (λ b. length ss ≤ length (filter (goes water j) ss) + cond b 1 0) e rest in omega arith

pub asked_are_told : (gap time water : ℕ) (ss : List Span) → AreApart ss → length (asked_of gap time water ss) ≤ put_changes gap time water ss
asked_are_told gap time water ss a =
    at_most_one_stays water time (joined_span gap time (near_of gap time ss)) (asked_of gap time water ss) (low_falls (span_alone gap time) (near_of gap time ss))
    (All-take (λ (s : Span). time < s.high) 2 (filter (stands water) (near_of gap time ss))
    (All-filter (stands water) (λ (s : Span). time < s.high) (near_of gap time ss)
    (All_filtered (is_near gap time) (λ (s : Span). time < s.high) ss (λ s c e. ltb-true time s.high (and_parts (nat_lt time s.high) (nat_lt s.low (time + gap)) e).0))))
    (apart_take 2 (filter (stands water) (near_of gap time ss)) (apart_filter (stands water) (near_of gap time ss) (apart_filter (is_near gap time) ss a)))

-- ---- intervals between marks
head_is_told : (water : ℕ) (other : Span) (near : List Span) → length (option_to_list (head_standing water near)) ≤ length (filter (stands water) (first_or other near ∷ []))
head_is_told water other [] = omega arith
head_is_told water other (s ∷ ss) = by (stands water s)
  where
    by : (b : Bool) → length (option_to_list (cond b (Some s) None)) ≤ length (cond b (s ∷ []) [])
    by true = omega arith
    by false = omega arith

pub holder_is_told : (func : Func) (time water : ℕ) (marks : List ℕ) (kept : List Kept) (s : Marked) → time < FINAL → FollowsMarks marks kept s → s.forgotten ≤ time → RemembersHolder func time water marks kept s → length s.stood ≤ length (entered_at time water s)
holder_is_told func time water marks kept s early f le r =
    let l : length s.stood ≡ length (asked_at time water s.spans) =
    ap length r.stood
    ∙ length-map (holder_standing time water marks kept) (as_standing func)
    ∙ sym (length-map (holder_standing time water marks kept) span_of)
    ∙ ap length (sym (asked_spans time water marks kept s early f le)) in
    omega (arith, l, head_is_told water (holder_of s.marks time) (near_of 1 time s.spans))
