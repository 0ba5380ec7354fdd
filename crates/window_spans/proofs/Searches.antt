-- Which sessions lie near a time, by two searches.
use Rattle.std.proofs.Common.{◌≡◌, ◌∙◌, ℕ, zero, suc, ◌+◌, ◌-◌, ◌<◌, ◌≤◌, Bool, true, false, cond, List, [], ◌∷◌, ◌++◌, length, get_or, take, drop, ap, sym, refl, arith, inl, inr, ⊎_elim, Some, None}
use Rattle.std.specs.Prelude.{◌⊎◌, nat_le, nat_lt, option_to_list}
use Rattle.std.specs.List.{filter}
use Rattle.std.specs.List.Sorted.{IsPartitionPoint}
use Rattle.std.proofs.lemmas.Bool.{leb-true, leb-false, ltb-true, ltb-false, le-leb, lt-leb, le-ltb, lt-ltb, and_from, and_left, and_right, cases_lt, cases_Bool}
use Rattle.std.proofs.lemmas.List.{length-drop}
use Rattle.slice_lists.proofs.NearFacts.{stretch}
use Rattle.stream_base.proofs.Filters.{filter_none}
use Rattle.window_spans.specs.declared.span.Span.{Span}
use Rattle.window_spans.specs.Spans.{AreApart, AreNearAt, IsPlaceOf, due_of, head_standing, is_due, is_near, stands}
use Rattle.window_spans.proofs.Apart.{proper}

-- some span, for lemmas that want one
abbrev no_span : Span
no_span = record { low = 0; high = 0 }

pub place_from_point : {X : Type 0} (p : X → Bool) (xs : List X) (place : ℕ) → place ≤ length xs → IsPartitionPoint (λ y. p y ≡ true) (λ y. p y ≡ false) xs place → IsPlaceOf p xs place
place_from_point p xs place le point = record { within = le; before = point.0; behind = point.1 }

take_all : {X : Type 0} (xs : List X) (n : ℕ) → length xs ≤ n → take n xs ≡ xs
take_all [] zero l = refl
take_all [] (suc n) l = refl
take_all (x ∷ xs) zero l = absurd (omega arith)
take_all (x ∷ xs) (suc n) l = ap (λ r. x ∷ r) (take_all xs n (omega arith))

drop_zero : {X : Type 0} (xs : List X) → drop 0 xs ≡ xs
drop_zero [] = refl
drop_zero (x ∷ xs) = refl

-- those at the front pass a test, and none behind
pub front_is : {X : Type 0} (p : X → Bool) (xs : List X) (to : ℕ) (d : X) → to ≤ length xs → ((k : ℕ) → k < to → p (get_or xs k d) ≡ true) → ((k : ℕ) → to ≤ k → k < length xs → p (get_or xs k d) ≡ false) → filter p xs ≡ take to xs
front_is p xs to d l h g =
    let all : to - 0 ≡ to = omega arith in
    stretch p xs 0 to d (omega arith) l (λ k m. absurd (omega arith)) (λ k m n. h k n) g
    ∙ (λ i. take (all i) (drop_zero xs i))

-- those at the back pass it, and none in front
pub back_is : {X : Type 0} (p : X → Bool) (xs : List X) (from : ℕ) (d : X) → from ≤ length xs → ((k : ℕ) → k < from → p (get_or xs k d) ≡ false) → ((k : ℕ) → from ≤ k → k < length xs → p (get_or xs k d) ≡ true) → filter p xs ≡ drop from xs
back_is p xs from d l h g =
    stretch p xs from (length xs) d l (omega arith) h g (λ k m n. absurd (omega arith))
    ∙ take_all (drop from xs) (length xs - from) (omega (arith, length-drop from xs))

module _ (gap time : ℕ) (some : 1 ≤ gap) (ss : List Span) (a : AreApart ss) (from to : ℕ) (f : IsPlaceOf (λ (s : Span). nat_le s.high time) ss from) (t : IsPlaceOf (λ (s : Span). nat_lt s.low (time + gap)) ss to) where
  ends : (k : ℕ) → k < from → (get_or ss k no_span).high ≤ time
  ends k l = leb-true (get_or ss k no_span).high time (f.before k no_span (omega arith) l)

  goes_on : (k : ℕ) → from ≤ k → k < length ss → time < (get_or ss k no_span).high
  goes_on k l m = leb-false (get_or ss k no_span).high time (f.behind k no_span l m)

  starts : (k : ℕ) → k < to → (get_or ss k no_span).low < time + gap
  starts k l = ltb-true (get_or ss k no_span).low (time + gap) (t.before k no_span (omega arith) l)

  behind : (k : ℕ) → to ≤ k → k < length ss → time + gap ≤ (get_or ss k no_span).low
  behind k l m = ltb-false (get_or ss k no_span).low (time + gap) (t.behind k no_span l m)

  own : (k : ℕ) → k < length ss → (get_or ss k no_span).low ≤ (get_or ss k no_span).high
  own k l = proper ss a k no_span l

  order : from ≤ to
  order = ⊎_elim
      (λ l. absurd (let e = ends to l in let b = behind to (omega arith) (omega (arith, f.within)) in let o = own to (omega (arith, f.within)) in omega arith))
      (λ l. l)
      (cases_lt to from)

  pub near_at : AreNearAt gap time ss from to
  near_at = record {
    order = order;
    within = t.within;
    front = front_is (λ (s : Span). nat_le s.high time) ss from no_span f.within (λ k l. f.before k no_span (omega arith) l) (λ k l m. f.behind k no_span l m);
    near = stretch (is_near gap time) ss from to no_span order t.within
        (λ k l. and_left (nat_lt time (get_or ss k no_span).high) (nat_lt (get_or ss k no_span).low (time + gap)) (le-ltb time (get_or ss k no_span).high (ends k l)))
        (λ k l m. and_from (nat_lt time (get_or ss k no_span).high) (nat_lt (get_or ss k no_span).low (time + gap)) (lt-ltb time (get_or ss k no_span).high (goes_on k l (omega (arith, t.within)))) (t.before k no_span (omega arith) m))
        (λ k l m. and_right (nat_lt time (get_or ss k no_span).high) (nat_lt (get_or ss k no_span).low (time + gap)) (t.behind k no_span l m));
    back = back_is (λ (s : Span). nat_le (time + gap) s.low) ss to no_span t.within
        (λ k l. lt-leb (time + gap) (get_or ss k no_span).low (starts k l))
        (λ k l m. le-leb (time + gap) (get_or ss k no_span).low (behind k l m));
  }

pub due_at : (old new : ℕ) (ss : List Span) (from to most : ℕ) → IsPlaceOf (λ (s : Span). nat_le s.high old) ss from → IsPlaceOf (λ (s : Span). nat_le s.high new) ss to → from ≤ most → to ≤ most → (most ≡ from) ⊎ (most ≡ to) → due_of old new ss ≡ take (most - from) (drop from ss)
due_at old new ss from to most f t l m c =
    stretch (is_due old new) ss from most no_span l (⊎_elim (λ e. omega (arith, f.within)) (λ e. omega (arith, t.within)) c)
    (λ k n. and_left (nat_lt old (get_or ss k no_span).high) (nat_le (get_or ss k no_span).high new) (le-ltb old (get_or ss k no_span).high (leb-true (get_or ss k no_span).high old (f.before k no_span (omega arith) n))))
    (λ k n o. ⊎_elim (λ e. absurd (omega arith)) (λ e. and_from (nat_lt old (get_or ss k no_span).high) (nat_le (get_or ss k no_span).high new) (lt-ltb old (get_or ss k no_span).high (leb-false (get_or ss k no_span).high old (f.behind k no_span n (omega (arith, t.within))))) (t.before k no_span (omega arith) (omega arith))) c)
    (λ k n o. and_right (nat_lt old (get_or ss k no_span).high) (nat_le (get_or ss k no_span).high new) (t.behind k no_span (omega arith) o))

-- ---- the first two, as far as they stand
take_two : {X : Type 0} (x y : X) (xs : List X) → take 2 (x ∷ y ∷ xs) ≡ x ∷ y ∷ []
take_two x y [] = refl
take_two x y (z ∷ zs) = refl

none_stands : (water : ℕ) (s : Span) (ss : List Span) → AreApart (s ∷ ss) → water < s.high → filter (stands water) ss ≡ []
none_stands water s ss a l =
    filter_none (stands water) ss (λ k d m. let h = a.1 k d m in let p = proper ss a.2 k d m in lt-leb (get_or ss k d).high water (omega arith))

pub two_standing : (water : ℕ) (near : List Span) → AreApart near → option_to_list (head_standing water (drop 0 near)) ++ option_to_list (head_standing water (drop 1 near)) ≡ take 2 (filter (stands water) near)
two_standing water [] a = refl
two_standing water (s ∷ []) a = by (stands water s)
  where
    by : (b : Bool) → option_to_list (cond b (Some s) None) ++ [] ≡ take 2 (cond b (s ∷ []) [])
    by true = refl
    by false = refl
two_standing water (s ∷ t ∷ ss) a = by (cases_Bool (stands water s)) (cases_Bool (stands water t))
  where
    goal : Type 0
    goal = option_to_list (head_standing water (s ∷ t ∷ ss)) ++ option_to_list (head_standing water (t ∷ ss)) ≡ take 2 (filter (stands water) (s ∷ t ∷ ss))

    both : (b c : Bool) (rest : List Span) → stands water s ≡ b → stands water t ≡ c → filter (stands water) ss ≡ rest → option_to_list (cond b (Some s) None) ++ option_to_list (cond c (Some t) None) ≡ take 2 (cond b (s ∷ cond c (t ∷ rest) rest) (cond c (t ∷ rest) rest)) → option_to_list (head_standing water (s ∷ t ∷ ss)) ++ option_to_list (head_standing water (t ∷ ss)) ≡ take 2 (filter (stands water) (s ∷ t ∷ ss))
    both b c rest e f g h =
        (λ i. option_to_list (cond (e i) (Some s) None) ++ option_to_list (cond (f i) (Some t) None))
        ∙ h
        ∙ sym (λ i. take 2 (cond (e i) (s ∷ cond (f i) (t ∷ g i) (g i)) (cond (f i) (t ∷ g i) (g i))))

    by : (stands water s ≡ true) ⊎ (stands water s ≡ false) → (stands water t ≡ true) ⊎ (stands water t ≡ false) → option_to_list (head_standing water (s ∷ t ∷ ss)) ++ option_to_list (head_standing water (t ∷ ss)) ≡ take 2 (filter (stands water) (s ∷ t ∷ ss))
    by (inl e) (inl f) = both true true (filter (stands water) ss) e f refl (sym (take_two s t (filter (stands water) ss)))
    by (inl e) (inr f) = both true false [] e f (none_stands water t ss a.2 (leb-false t.high water f)) refl
    by (inr e) (inl f) =
        let l : s.high ≤ t.low = a.1 0 s (omega arith) in
        let m : t.low ≤ t.high = a.2.0 in
        let n : t.high ≤ water = leb-true t.high water f in
        let o : water < s.high = leb-false s.high water e in
        absurd (omega arith)
    by (inr e) (inr f) = both false false [] e f (none_stands water t ss a.2 (leb-false t.high water f)) refl
