-- Lists and what passes a test of them.
use Rattle.std.proofs.Common.{◌≡◌, ◌∙◌, ℕ, zero, suc, ◌+◌, ◌<◌, ◌≤◌, Bool, true, false, cond, List, [], ◌∷◌, ◌++◌, length, get_or, take, map, ap, sym, refl, arith}
use Rattle.std.specs.List.{All, filter}
use Rattle.std.proofs.lemmas.List.{append-nil}
use Rattle.std.proofs.lemmas.List.Elements.{All-head, All-tail, filter-append}
use Rattle.stream_base.proofs.Filters.{filter_all, filter_none}

module _ {X : Type 0} where
  -- what passes one test and then another passes a third
  pub filter_twice : (p q r : X → Bool) → ((x : X) → r x ≡ cond (q x) (p x) false) → (xs : List X) → filter p (filter q xs) ≡ filter r xs
  filter_twice p q r h [] = refl
  filter_twice p q r h (x ∷ xs) = by (q x) refl (filter_twice p q r h xs)
    where
      by : (b : Bool) → q x ≡ b → filter p (filter q xs) ≡ filter r xs → filter p (filter q (x ∷ xs)) ≡ filter r (x ∷ xs)
      by true e g =
          ap (λ b. filter p (cond b (x ∷ filter q xs) (filter q xs))) e
          ∙ (λ i. cond (p x) (x ∷ g i) (g i))
          ∙ sym (ap (λ b. cond b (x ∷ filter r xs) (filter r xs)) (h x ∙ ap (λ b. cond b (p x) false) e))
      by false e g =
          ap (λ b. filter p (cond b (x ∷ filter q xs) (filter q xs))) e
          ∙ g
          ∙ sym (ap (λ b. cond b (x ∷ filter r xs) (filter r xs)) (h x ∙ ap (λ b. cond b (p x) false) e))

  -- ---- a list in three parts
  module _ (q : X → Bool) (front near back : List X) where
    in_three : filter q (front ++ (near ++ back)) ≡ filter q front ++ (filter q near ++ filter q back)
    in_three = filter-append q front (near ++ back) ∙ ap (λ l. filter q front ++ l) (filter-append q near back)

    pub filter_front : All (λ x. q x ≡ true) front → All (λ x. q x ≡ false) near → All (λ x. q x ≡ false) back → filter q (front ++ (near ++ back)) ≡ front
    filter_front f n b =
        in_three
        ∙ (λ i. filter_all q front f i ++ (filter_none q near n i ++ filter_none q back b i))
        ∙ append-nil front

    pub filter_near : All (λ x. q x ≡ false) front → All (λ x. q x ≡ true) near → All (λ x. q x ≡ false) back → filter q (front ++ (near ++ back)) ≡ near
    filter_near f n b =
        in_three
        ∙ (λ i. filter_none q front f i ++ (filter_all q near n i ++ filter_none q back b i))
        ∙ append-nil near

    pub filter_back : All (λ x. q x ≡ false) front → All (λ x. q x ≡ false) near → All (λ x. q x ≡ true) back → filter q (front ++ (near ++ back)) ≡ back
    filter_back f n b =
        in_three
        ∙ (λ i. filter_none q front f i ++ (filter_none q near n i ++ filter_all q back b i))

  pub take_few : (n : ℕ) (xs : List X) → length xs ≤ n → take n xs ≡ xs
  take_few zero [] l = refl
  take_few (suc n) [] l = refl
  take_few zero (x ∷ xs) l = absurd (omega arith)
  take_few (suc n) (x ∷ xs) l = ap (λ r. x ∷ r) (take_few n xs (omega arith))

  pub fewer_pass : (p : X → Bool) (xs : List X) → length (filter p xs) ≤ length xs
  fewer_pass p [] = omega arith
  fewer_pass p (x ∷ xs) = by (p x) (fewer_pass p xs)
    where
      by : (b : Bool) → length (filter p xs) ≤ length xs → length (cond b (x ∷ filter p xs) (filter p xs)) ≤ length (x ∷ xs)
      by true h = omega arith
      by false h = omega arith

  -- one element more at the front of a list
  pub map_take_more : {Y : Type 0} (f : X → Y) (xs : List X) (k : ℕ) (d : X) → k < length xs → map f (take (k + 1) xs) ≡ map f (take k xs) ++ f (get_or xs k d) ∷ []
  map_take_more f xs k d l = let e : k + 1 ≡ suc k = omega arith in ap (λ n. map f (take n xs)) e ∙ more xs k l
    where
      more : (xs : List X) (k : ℕ) → k < length xs → map f (take (suc k) xs) ≡ map f (take k xs) ++ f (get_or xs k d) ∷ []
      more [] k l = absurd (omega arith)
      more (x ∷ xs) zero l = one xs
        where
          one : (xs : List X) → map f (take 1 (x ∷ xs)) ≡ f x ∷ []
          one [] = refl
          one (y ∷ ys) = refl
      more (x ∷ xs) (suc k) l = ap (λ r. f x ∷ r) (more xs k (omega arith))

  -- two tests that agree on a list
  pub filter_alike : (p q : X → Bool) (xs : List X) → All (λ x. p x ≡ q x) xs → filter p xs ≡ filter q xs
  filter_alike p q [] a = refl
  filter_alike p q (x ∷ xs) a = λ i. cond (All-head (λ x. p x ≡ q x) x xs a i) (x ∷ filter_alike p q xs (All-tail (λ x. p x ≡ q x) x xs a) i) (filter_alike p q xs (All-tail (λ x. p x ≡ q x) x xs a) i)
