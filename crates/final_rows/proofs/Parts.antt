-- A list in parts, by a number of each element: the parts put together have the elements of the list.
use Rattle.std.proofs.Common.{◌≡◌, ◌∙◌, ℕ, zero, suc, ◌+◌, ◌<◌, Bool, true, false, cond, List, [], ◌∷◌, ◌++◌, length, get_or, ap, sym, refl, subst, subst₂, arith}
use Rattle.std.specs.Prelude.{◌==◌, ◌&&◌, nat_le, nat_lt, not}
use Rattle.std.specs.List.{filter, flat_map, range_with_len}
use Rattle.std.specs.List.Sorted.{IsPermutation}
use Rattle.std.proofs.lemmas.Bool.Decides.{nat_tests}
use Rattle.std.proofs.lemmas.List.Elements.{filter_agree}
use Rattle.std.proofs.lemmas.List.Sorted.{IsPermutation-append_right, IsPermutation-filter_both, IsPermutation-refl, IsPermutation-sym, IsPermutation-trans}
use Rattle.stream_base.proofs.Distinct.{All_from_members}
use Rattle.stream_base.proofs.Filters.{filter_all, filter_none}

-- what passes one test and then another
filter_twice : {X : Type 0} (p q : X → Bool) (xs : List X) → filter p (filter q xs) ≡ filter (λ x. q x && p x) xs
filter_twice p q [] = refl
filter_twice {X} p q (x ∷ xs) = by (q x) (p x) refl (filter_twice p q xs)
  where
    by : (b c : Bool) → p x ≡ c → filter p (filter q xs) ≡ filter (λ x. q x && p x) xs → filter p (cond b (x ∷ filter q xs) (filter q xs)) ≡ cond (b && c) (x ∷ filter (λ x. q x && p x) xs) (filter (λ x. q x && p x) xs)
    by true true e h = ap (λ c. cond c (x ∷ filter p (filter q xs)) (filter p (filter q xs))) e ∙ ap (λ l. x ∷ l) h
    by true false e h = ap (λ c. cond c (x ∷ filter p (filter q xs)) (filter p (filter q xs))) e ∙ h
    by false c e h = h

at_low : (a n c : ℕ) → ((nat_le a c && nat_lt c (a + suc n)) && (c == a)) ≡ (c == a)
at_low a n c = grind (arith, nat_tests)

above_low : (a n c : ℕ) → ((nat_le a c && nat_lt c (a + suc n)) && not (c == a)) ≡ (nat_le (a + 1) c && nat_lt c (a + 1 + n))
above_low a n c = grind (arith, nat_tests)

nowhere : (a c : ℕ) → (nat_le a c && nat_lt c (a + 0)) ≡ false
nowhere a c = grind (arith, nat_tests)

everywhere : (n c : ℕ) → c < n → (nat_le 0 c && nat_lt c (0 + n)) ≡ true
everywhere n c h = grind (arith, nat_tests)

module _ {X : Type 0} (class : X → ℕ) where
  within_range : ℕ → ℕ → X → Bool
  within_range a n x = nat_le a (class x) && nat_lt (class x) (a + n)

  parts_of_range : (a n : ℕ) (xs : List X) → IsPermutation (flat_map (λ k. filter (λ x. class x == k) xs) (range_with_len a n)) (filter (λ x. nat_le a (class x) && nat_lt (class x) (a + n)) xs)
  parts_of_range a zero xs =
      let none : filter (λ x. nat_le a (class x) && nat_lt (class x) (a + 0)) xs ≡ [] = filter_none (λ x. nat_le a (class x) && nat_lt (class x) (a + 0)) xs (All_from_members (λ x. (nat_le a (class x) && nat_lt (class x) (a + 0)) ≡ false) xs (λ x c. nowhere a (class x))) in
      subst (IsPermutation []) (sym none) (IsPermutation-refl [])
  parts_of_range a (suc n) xs =
      let both : X → Bool = λ x. nat_le a (class x) && nat_lt (class x) (a + suc n) in
      let later : X → Bool = λ x. nat_le (a + 1) (class x) && nat_lt (class x) (a + 1 + n) in
      let first : filter (λ x. class x == a) (filter both xs) ≡ filter (λ x. class x == a) xs =
      filter_twice (λ x. class x == a) both xs ∙ filter_agree (λ x. both x && (class x == a)) (λ x. class x == a) (λ x. at_low a n (class x)) xs in
      let rest : filter (λ x. not (class x == a)) (filter both xs) ≡ filter later xs =
      filter_twice (λ x. not (class x == a)) both xs ∙ filter_agree (λ x. both x && not (class x == a)) later (λ x. above_low a n (class x)) xs in
      let split : IsPermutation (filter both xs) (filter (λ x. class x == a) xs ++ filter later xs) =
      subst₂ (λ l m. IsPermutation (filter both xs) (l ++ m)) first rest (IsPermutation-filter_both (λ x. class x == a) (λ x. not (class x == a)) (λ x. refl) (filter both xs)) in
      IsPermutation-trans (filter (λ x. class x == a) xs ++ flat_map (λ k. filter (λ x. class x == k) xs) (range_with_len (a + 1) n)) (filter (λ x. class x == a) xs ++ filter later xs) (filter both xs)
      (IsPermutation-append_right (filter (λ x. class x == a) xs) (flat_map (λ k. filter (λ x. class x == k) xs) (range_with_len (a + 1) n)) (filter later xs) (parts_of_range (a + 1) n xs))
      (IsPermutation-sym (filter both xs) (filter (λ x. class x == a) xs ++ filter later xs) split)

  pub parts_together : (n : ℕ) (xs : List X) → ((x : X) → class x < n) → IsPermutation (flat_map (λ k. filter (λ x. class x == k) xs) (range_with_len 0 n)) xs
  parts_together n xs h =
      subst (IsPermutation (flat_map (λ k. filter (λ x. class x == k) xs) (range_with_len 0 n)))
      (filter_all (λ x. nat_le 0 (class x) && nat_lt (class x) (0 + n)) xs (All_from_members (λ x. (nat_le 0 (class x) && nat_lt (class x) (0 + n)) ≡ true) xs (λ x c. everywhere n (class x) (h x))))
      (parts_of_range 0 n xs)

-- what is made of each element of a list, by its index
pub by_index : {X Y : Type 0} (f : X → List Y) (g : ℕ → List Y) (xs : List X) (n : ℕ) (d : X) → ((k : ℕ) → k < length xs → f (get_or xs k d) ≡ g (n + k)) → flat_map f xs ≡ flat_map g (range_with_len n (length xs))
by_index f g [] n d h = refl
by_index f g (x ∷ xs) n d h =
    let here : n + 0 ≡ n = omega arith in
    let first : f x ≡ g n = h 0 (omega arith) ∙ ap g here in
    let later : flat_map f xs ≡ flat_map g (range_with_len (n + 1) (length xs)) =
    by_index f g xs (n + 1) d (λ k l. let next : n + suc k ≡ n + 1 + k = omega arith in h (suc k) (omega arith) ∙ ap g next) in
    λ i. first i ++ later i
