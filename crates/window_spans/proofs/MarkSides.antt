-- The marks at the sides of a time.
use Rattle.std.proofs.Common.{◌≡◌, ℕ, suc, ◌+◌, ◌<◌, ◌≤◌, fold, max, min, List, [], ◌∷◌, length, get_or, sym, arith, inl, inr, ⊎_elim}
use Rattle.std.specs.Prelude.{◌⊎◌, nat_le, nat_lt}
use Rattle.std.specs.List.{All, Contains, filter}
use Rattle.std.specs.List.Sorted.{IsStrictlyIncreasing}
use Rattle.std.proofs.lemmas.Bool.{cases_lt, le-leb, leb-true, lt-ltb, ltb-true}
use Rattle.std.proofs.lemmas.List.{get_or_default}
use Rattle.std.proofs.lemmas.List.Elements.{All-head, All-tail}
use Rattle.stream_base.specs.declared.limits.TheConstants.{FINAL}
use Rattle.stream_base.proofs.Members.{filter_has}
use Rattle.stream_base.specs.Places.{IsPlaceOf}
use Rattle.window_laws.specs.Stretches.{last_mark, next_mark}
use Rattle.window_laws.proofs.WalkFacts.{least_below, least_of}
use Rattle.window_laws.proofs.StretchFacts.{most_of}
use Rattle.slice_lists.proofs.PlaceFacts.{marks_do_not_fall}
use Rattle.window_spans.proofs.Apart.{All_filtered}

pub most_within : (start : ℕ) (xs : List ℕ) (high : ℕ) → start ≤ high → All (λ x. x ≤ high) xs → fold max start xs ≤ high
most_within start [] high l a = l
most_within start (x ∷ xs) high l a = most_within (max start x) xs high (omega (arith, All-head (λ x. x ≤ high) x xs a)) (All-tail (λ x. x ≤ high) x xs a)

pub least_within : (start : ℕ) (xs : List ℕ) (low : ℕ) → low ≤ start → All (λ x. low ≤ x) xs → low ≤ fold min start xs
least_within start [] low l a = l
least_within start (x ∷ xs) low l a = least_within (min start x) xs low (omega (arith, All-head (λ x. low ≤ x) x xs a)) (All-tail (λ x. low ≤ x) x xs a)

both : {a b : ℕ} → a ≤ b → b ≤ a → a ≡ b
both l r = omega arith

module _ (marks : List ℕ) (time : ℕ) where
  pub last_by : last_mark marks time ≤ time
  last_by = most_within 0 (filter (λ m. nat_le m time) marks) time (omega arith) (All_filtered (λ m. nat_le m time) (λ m. m ≤ time) marks (λ m c e. leb-true m time e))

  pub last_from : (m : ℕ) → Contains marks m → m ≤ time → m ≤ last_mark marks time
  last_from m c l = most_of 0 (filter (λ m. nat_le m time) marks) m (filter_has (λ m. nat_le m time) marks m c (le-leb m time l))

  pub next_behind : time < FINAL → time < next_mark marks time
  next_behind l =
      let h : time + 1 ≤ next_mark marks time = least_within FINAL (filter (λ m. nat_lt time m) marks) (time + 1) (omega arith) (All_filtered (λ m. nat_lt time m) (λ m. time + 1 ≤ m) marks (λ m c e. let k = ltb-true time m e in omega arith)) in
      omega arith

  pub next_by : (m : ℕ) → Contains marks m → time < m → next_mark marks time ≤ m
  next_by m c l = least_of FINAL (filter (λ m. nat_lt time m) marks) m (filter_has (λ m. nat_lt time m) marks m c (lt-ltb time m l))

  pub next_final : next_mark marks time ≤ FINAL
  next_final = least_below FINAL (filter (λ m. nat_lt time m) marks)

  module _ (rising : IsStrictlyIncreasing marks) (place : ℕ) (h : IsPlaceOf (λ m. m) marks (time + 1) place) where
    -- a mark stands before the place or behind it
    side : (m : ℕ) → Contains marks m → ((k : ℕ) × (k < place) × (get_or marks k m ≡ m)) ⊎ ((k : ℕ) × (place ≤ k) × (k < length marks) × (get_or marks k m ≡ m))
    side m c = ⊎_elim (λ l. inl (c.0, l, c.2)) (λ l. inr (c.0, l, c.1, c.2)) (cases_lt c.0 place)

    pub none_before : place ≡ 0 → 0 ≡ last_mark marks time
    none_before e =
        both (omega arith)
        (most_within 0 (filter (λ m. nat_le m time) marks) 0 (omega arith) (All_filtered (λ m. nat_le m time) (λ m. m ≤ 0) marks (λ m c t.
        let l : m ≤ time = leb-true m time t in
        absurd (⊎_elim (λ s. let n = s.1 in omega arith) (λ s. let b : time + 1 ≤ get_or marks s.0 m = h.behind s.0 m s.1 s.2 in omega (arith, s.3)) (side m c)))))

    pub last_is : (i : ℕ) → place ≡ suc i → (x : ℕ) → x ≡ get_or marks i x → x ≡ last_mark marks time
    last_is i e x read =
        let within : i < length marks = omega (arith, h.within) in
        let here : Contains marks x = (i, within, sym read) in
        let low : get_or marks i x < time + 1 = h.before i x (omega arith) (omega arith) in
        both (last_from x here (omega (arith, read)))
        (most_within 0 (filter (λ m. nat_le m time) marks) x (omega arith) (All_filtered (λ m. nat_le m time) (λ m. m ≤ x) marks (λ m c t.
        let l : m ≤ time = leb-true m time t in
        ⊎_elim
        (λ s. let r : get_or marks s.0 m ≤ get_or marks i m = marks_do_not_fall marks rising s.0 i m (let n = s.1 in omega arith) within in let d : get_or marks i m ≡ get_or marks i x = get_or_default marks i m x within in omega (arith, s.2, read))
        (λ s. absurd (let b : time + 1 ≤ get_or marks s.0 m = h.behind s.0 m s.1 s.2 in omega (arith, s.3)))
        (side m c))))

    pub next_is : place < length marks → (x : ℕ) → x ≡ get_or marks place x → x ≤ FINAL → x ≡ next_mark marks time
    next_is within x read final =
        let here : Contains marks x = (place, within, sym read) in
        let high : time + 1 ≤ get_or marks place x = h.behind place x (omega arith) within in
        both
        (least_within FINAL (filter (λ m. nat_lt time m) marks) x final (All_filtered (λ m. nat_lt time m) (λ m. x ≤ m) marks (λ m c t.
        let l : time < m = ltb-true time m t in
        ⊎_elim
        (λ s. absurd (let b : get_or marks s.0 m < time + 1 = h.before s.0 m (omega arith) s.1 in omega (arith, s.2)))
        (λ s. let r : get_or marks place m ≤ get_or marks s.0 m = marks_do_not_fall marks rising place s.0 m s.1 s.2 in let d : get_or marks place m ≡ get_or marks place x = get_or_default marks place m x within in omega (arith, s.3, read))
        (side m c))))
        (next_by x here (omega (arith, read)))

    pub none_behind : length marks ≤ place → FINAL ≡ next_mark marks time
    none_behind e =
        both
        (least_within FINAL (filter (λ m. nat_lt time m) marks) FINAL (omega arith) (All_filtered (λ m. nat_lt time m) (λ m. FINAL ≤ m) marks (λ m c t.
        let l : time < m = ltb-true time m t in
        absurd (⊎_elim (λ s. let b : get_or marks s.0 m < time + 1 = h.before s.0 m (omega arith) s.1 in omega (arith, s.2)) (λ s. let n = s.1 in let o = s.2 in omega arith) (side m c)))))
        next_final
