-- The last span that starts at or before a time.
use Rattle.std.proofs.Common.{◌≡◌, ◌∙◌, ℕ, zero, suc, ◌-◌, ◌<◌, ◌≤◌, cond, List, [], ◌∷◌, length, get_or, max, ap, sym, refl, arith}
use Rattle.std.specs.Prelude.{nat_le}
use Rattle.std.specs.List.{filter, fold}
use Rattle.std.proofs.lemmas.Bool.{le-leb, leb-false, leb-true, lt-leb}
use Rattle.window_spans.specs.declared.span.Span.{Span}
use Rattle.window_spans.specs.Ahead.{end_of_last_begun}
use Rattle.window_spans.specs.Spans.{AreApart, IsPlaceOf}
use Rattle.window_spans.proofs.Apart.{proper}

greatest : (a : ℕ) (ss : List Span) → fold (λ end s. max end s.high) a ss ≡ max a (fold (λ end s. max end s.high) 0 ss)
greatest a [] = omega arith
greatest a (s ∷ ss) =
    let h = greatest (max a s.high) ss in
    let g = greatest (max 0 s.high) ss in
    omega (arith, h, g)

-- ---- one span in front
pub begun_first : (time : ℕ) (s : Span) (ss : List Span) → s.low ≤ time → end_of_last_begun time (s ∷ ss) ≡ max s.high (end_of_last_begun time ss)
begun_first time s ss l =
    ap (λ b. fold (λ end s. max end s.high) 0 (cond b (s ∷ filter (λ s. nat_le s.low time) ss) (filter (λ s. nat_le s.low time) ss))) (le-leb s.low time l)
    ∙ greatest (max 0 s.high) (filter (λ s. nat_le s.low time) ss)
    ∙ ap (λ n. max n (end_of_last_begun time ss)) (omega arith)

pub begins_later : (time : ℕ) (s : Span) (ss : List Span) → time < s.low → end_of_last_begun time (s ∷ ss) ≡ end_of_last_begun time ss
begins_later time s ss l = ap (λ b. fold (λ end s. max end s.high) 0 (cond b (s ∷ filter (λ s. nat_le s.low time) ss) (filter (λ s. nat_le s.low time) ss))) (lt-leb s.low time l)

-- ---- by its place
none_begun : (time : ℕ) (ss : List Span) (d : Span) → ((k : ℕ) → k < length ss → time < (get_or ss k d).low) → end_of_last_begun time ss ≡ 0
none_begun time [] d h = refl
none_begun time (s ∷ ss) d h = begins_later time s ss (h 0 (omega arith)) ∙ none_begun time ss d (λ k l. h (suc k) (omega arith))

last_begun : (time : ℕ) (ss : List Span) (place : ℕ) (d : Span) → AreApart ss → place < length ss → ((k : ℕ) → k ≤ place → (get_or ss k d).low ≤ time) → ((k : ℕ) → place < k → k < length ss → time < (get_or ss k d).low) → end_of_last_begun time ss ≡ (get_or ss place d).high
last_begun time [] place d a l before behind = absurd (omega arith)
last_begun time (s ∷ ss) zero d a l before behind =
    begun_first time s ss (before 0 (omega arith))
    ∙ ap (max s.high) (none_begun time ss d (λ k m. behind (suc k) (omega arith) (omega arith)))
    ∙ omega arith
last_begun time (s ∷ ss) (suc place) d a l before behind =
    let rest = last_begun time ss place d a.2 (omega arith) (λ k m. before (suc k) (omega arith)) (λ k m n. behind (suc k) (omega arith) (omega arith)) in
    let high = a.1 place d (omega arith) in
    let own = proper ss a.2 place d (omega arith) in
    begun_first time s ss (before 0 (omega arith)) ∙ omega (arith, rest, high, own, a.0)

pub begun_at : (time : ℕ) (ss : List Span) (place last : ℕ) (d : Span) → AreApart ss → IsPlaceOf (λ (s : Span). nat_le s.low time) ss place → place ≡ suc last → (get_or ss last d).high ≡ end_of_last_begun time ss
begun_at time ss place last d a is e =
    sym (last_begun time ss last d a (omega (arith, is.within))
    (λ k l. leb-true (get_or ss k d).low time (is.before k d (omega arith) (omega arith)))
    (λ k l m. leb-false (get_or ss k d).low time (is.behind k d (omega arith) m)))

pub none_at_all : (time : ℕ) (ss : List Span) (place : ℕ) (d : Span) → IsPlaceOf (λ (s : Span). nat_le s.low time) ss place → place ≤ 0 → 0 ≡ end_of_last_begun time ss
none_at_all time ss place d is l =
    sym (none_begun time ss d (λ k m. leb-false (get_or ss k d).low time (is.behind k d (omega arith) m)))

-- what lies before a watermark minus the lateness does so at a later one
pub stays_before : (time old new lateness : ℕ) → time ≤ old - lateness → old ≤ new → time ≤ new - lateness
stays_before time old new lateness l h = omega arith
