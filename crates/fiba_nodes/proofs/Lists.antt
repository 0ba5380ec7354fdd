-- A list at one place.
use Rattle.std.proofs.Common.{◌≡◌, ◌+◌, ◌++◌, ℕ, zero, suc, List, [], ◌∷◌, Some, drop, take, refl, sym, ap, ◌∙◌, arith, append_assoc}
use Rattle.std.specs.Prelude.{slice_get}
use Rattle.std.specs.List.{All}
use Rattle.std.proofs.lemmas.List.Elements.{All-head, All-tail, All-append, All-cons, All-nil}

module _ {X : Type 0} where
  drop_suc : (xs : List X) (i : ℕ) (x : X) → slice_get xs i ≡ Some x → drop i xs ≡ x ∷ drop (suc i) xs
  drop_suc [] i x e = cc
  drop_suc (y ∷ xs) zero x e = let q : y ≡ x = cc in ap (λ z. z ∷ xs) q
  drop_suc (y ∷ xs) (suc i) x e = drop_suc xs i x e

  -- from a place on: the one there and the rest
  pub drop_at : (xs : List X) (i : ℕ) (x : X) → slice_get xs i ≡ Some x → drop i xs ≡ x ∷ drop (i + 1) xs
  drop_at xs i x e = let q : suc i ≡ i + 1 = omega arith in drop_suc xs i x e ∙ ap (λ j. x ∷ drop j xs) q

  pub append_none : (xs : List X) → xs ++ [] ≡ xs
  append_none [] = refl
  append_none (x ∷ xs) = ap (λ l. x ∷ l) (append_none xs)

  pub take_drop : (xs : List X) (i : ℕ) → take i xs ++ drop i xs ≡ xs
  take_drop xs zero = refl
  take_drop [] (suc i) = refl
  take_drop (x ∷ xs) (suc i) = ap (λ l. x ∷ l) (take_drop xs i)

  -- before a place, the one there, and behind it
  pub split_at : (xs : List X) (i : ℕ) (x : X) → slice_get xs i ≡ Some x → xs ≡ take i xs ++ x ∷ drop (i + 1) xs
  split_at xs i x e = sym (take_drop xs i) ∙ ap (λ l. take i xs ++ l) (drop_at xs i x e)

  -- what holds of all, of the parts
  pub all_front : (P : X → Type 0) (xs : List X) (s : X) (ys : List X) → All P (xs ++ s ∷ ys) → All P xs
  all_front P [] s ys h = All-nil P
  all_front P (x ∷ xs) s ys h = All-cons P x xs (All-head P x (xs ++ s ∷ ys) h) (all_front P xs s ys (All-tail P x (xs ++ s ∷ ys) h))

  pub all_middle : (P : X → Type 0) (xs : List X) (s : X) (ys : List X) → All P (xs ++ s ∷ ys) → P s
  all_middle P [] s ys h = All-head P s ys h
  all_middle P (x ∷ xs) s ys h = all_middle P xs s ys (All-tail P x (xs ++ s ∷ ys) h)

  pub all_back : (P : X → Type 0) (xs : List X) (s : X) (ys : List X) → All P (xs ++ s ∷ ys) → All P ys
  all_back P [] s ys h = All-tail P s ys h
  all_back P (x ∷ xs) s ys h = all_back P xs s ys (All-tail P x (xs ++ s ∷ ys) h)

  pub all_join : (P : X → Type 0) (xs : List X) (s : X) (ys : List X) → All P xs → P s → All P ys → All P (xs ++ s ∷ ys)
  all_join P xs s ys h m t = All-append P xs (s ∷ ys) h (All-cons P s ys m t)

  -- the parts of a list, as they were taken
  pub parts_of : (slots xs : List X) (i : ℕ) (s : X) (ys : List X) → slice_get slots i ≡ Some s → xs ≡ take i slots → ys ≡ drop (i + 1) slots → slots ≡ xs ++ s ∷ ys
  parts_of slots xs i s ys is front back =
      split_at slots i s is ∙ ap (λ f. f ++ s ∷ drop (i + 1) slots) (sym front) ∙ ap (λ b. xs ++ s ∷ b) (sym back)

  -- one more, and then the rest
  pub pushed_joined : (all front xs behind ys : List X) (x : X) → all ≡ front ++ behind → front ≡ xs ++ x ∷ [] → behind ≡ ys → all ≡ xs ++ x ∷ ys
  pushed_joined all front xs behind ys x e f b =
      e ∙ ap (λ l. l ++ behind) f ∙ ap (λ l. (xs ++ x ∷ []) ++ l) b ∙ append_assoc xs (x ∷ []) ys
