-- The members of lists that are made from others.
use Rattle.std.proofs.Common.{◌≡◌, ◌∙◌, ℕ, zero, suc, ◌+◌, ◌<◌, ◌≤◌, Bool, true, false, cond, List, [], ◌∷◌, ◌++◌, take, drop, map, ap, sym, refl, subst, inl, inr, ⊎_elim, arith}
use Rattle.std.specs.Prelude.{◌⊎◌, insert}
use Rattle.std.specs.List.{Contains, filter, flat_map, range_with_len}
use Rattle.std.proofs.lemmas.Bool.{false≢true, cases_eq}
use Rattle.std.proofs.lemmas.List.{take-append-drop}
use Rattle.std.proofs.lemmas.List.Elements.{filter-append, Contains-append_cases, Contains-append_left, Contains-append_right}
use Rattle.stream_base.proofs.Rising.{none_in_nil, Contains-head, Contains-at_head, Contains-tail, Contains-cons_cases}

-- the numbers from a on
pub range_members : (a n k : ℕ) → Contains (range_with_len a n) k → (a ≤ k) × (k < a + n)
range_members a zero k c = absurd (none_in_nil k c)
range_members a (suc n) k c =
    ⊎_elim
    (λ e. (omega arith, omega arith))
    (λ d. let h : (a + 1 ≤ k) × (k < a + 1 + n) = range_members (a + 1) n k d in (omega arith, omega arith))
    (Contains-cons_cases a (range_with_len (a + 1) n) k c)

pub range_has : (a n k : ℕ) → a ≤ k → k < a + n → Contains (range_with_len a n) k
range_has a zero k low high = absurd (omega arith)
range_has a (suc n) k low high =
    ⊎_elim
    (λ e. Contains-at_head a (range_with_len (a + 1) n) k e)
    (λ ne. Contains-tail a (range_with_len (a + 1) n) k (range_has (a + 1) n k (omega arith) (omega arith)))
    (cases_eq a k)

module _ {X Y : Type 0} (f : X → Y) where
  pub map_members : (xs : List X) (y : Y) → Contains (map f xs) y → (x : X) × Contains xs x × (f x ≡ y)
  map_members [] y c = absurd (none_in_nil y c)
  map_members (x ∷ xs) y c =
      ⊎_elim
      (λ e. (x, Contains-head x xs, e))
      (λ d. let h : (z : X) × Contains xs z × (f z ≡ y) = map_members xs y d in (h.0, Contains-tail x xs h.0 h.1, h.2))
      (Contains-cons_cases (f x) (map f xs) y c)

  pub map_has : (xs : List X) (x : X) → Contains xs x → Contains (map f xs) (f x)
  map_has [] x c = absurd (none_in_nil x c)
  map_has (z ∷ xs) x c =
      ⊎_elim
      (λ e. Contains-at_head (f z) (map f xs) (f x) (ap f e))
      (λ d. Contains-tail (f z) (map f xs) (f x) (map_has xs x d))
      (Contains-cons_cases z xs x c)

module _ {X Y : Type 0} (f : X → List Y) where
  pub flat_map_members : (xs : List X) (y : Y) → Contains (flat_map f xs) y → (x : X) × Contains xs x × Contains (f x) y
  flat_map_members [] y c = absurd (none_in_nil y c)
  flat_map_members (x ∷ xs) y c =
      ⊎_elim
      (λ d. (x, Contains-head x xs, d))
      (λ d. let h : (z : X) × Contains xs z × Contains (f z) y = flat_map_members xs y d in (h.0, Contains-tail x xs h.0 h.1, h.2))
      (Contains-append_cases (f x) (flat_map f xs) y c)

  pub flat_map_has : (xs : List X) (x : X) (y : Y) → Contains xs x → Contains (f x) y → Contains (flat_map f xs) y
  flat_map_has [] x y c d = absurd (none_in_nil x c)
  flat_map_has (z ∷ xs) x y c d =
      ⊎_elim
      (λ e. Contains-append_left (f z) (flat_map f xs) y (subst (λ w. Contains (f w) y) (sym e) d))
      (λ g. Contains-append_right (f z) (flat_map f xs) y (flat_map_has xs x y g d))
      (Contains-cons_cases z xs x c)

module _ {X : Type 0} (p : X → Bool) where
  pub filter_members : (xs : List X) (x : X) → Contains (filter p xs) x → Contains xs x × (p x ≡ true)
  filter_members [] x c = absurd (none_in_nil x c)
  filter_members (y ∷ xs) x c = by (p y) refl (filter_members xs x) c
    where
      by : (b : Bool) → p y ≡ b → (Contains (filter p xs) x → Contains xs x × (p x ≡ true)) → Contains (cond b (y ∷ filter p xs) (filter p xs)) x → Contains (y ∷ xs) x × (p x ≡ true)
      by true e later d = ⊎_elim (λ same. (Contains-at_head y xs x same, subst (λ z. p z ≡ true) same e)) (λ g. (Contains-tail y xs x (later g).0, (later g).1)) (Contains-cons_cases y (filter p xs) x d)
      by false e later d = (Contains-tail y xs x (later d).0, (later d).1)

  pub filter_has : (xs : List X) (x : X) → Contains xs x → p x ≡ true → Contains (filter p xs) x
  filter_has [] x c h = absurd (none_in_nil x c)
  filter_has (y ∷ xs) x c h = by (p y) refl (λ d. filter_has xs x d h)
    where
      by : (b : Bool) → p y ≡ b → (Contains xs x → Contains (filter p xs) x) → Contains (cond b (y ∷ filter p xs) (filter p xs)) x
      by true e later = ⊎_elim (λ same. Contains-at_head y (filter p xs) x same) (λ g. Contains-tail y (filter p xs) x (later g)) (Contains-cons_cases y xs x c)
      by false e later = ⊎_elim (λ same. absurd (false≢true (sym e ∙ ap p same ∙ h))) later (Contains-cons_cases y xs x c)

  -- an element that the test refuses can be put anywhere
  pub filter_insert_refused : (xs : List X) (i : ℕ) (x : X) → p x ≡ false → filter p (insert xs i x) ≡ filter p xs
  filter_insert_refused xs i x h =
      filter-append p (take i xs) (x ∷ drop i xs)
      ∙ ap (λ b. filter p (take i xs) ++ cond b (x ∷ filter p (drop i xs)) (filter p (drop i xs))) h
      ∙ sym (filter-append p (take i xs) (drop i xs))
      ∙ ap (filter p) (take-append-drop i xs)

  -- tests that agree on the members keep the same of them
  pub filter_same : (q : X → Bool) (xs : List X) → ((x : X) → Contains xs x → p x ≡ q x) → filter p xs ≡ filter q xs
  filter_same q [] h = refl
  filter_same q (x ∷ xs) h =
      let first : p x ≡ q x = h x (Contains-head x xs) in
      let rest : filter p xs ≡ filter q xs = filter_same q xs (λ y c. h y (Contains-tail x xs y c)) in
      λ i. cond (first i) (x ∷ rest i) (rest i)

  pub filter_map_of : {W : Type 0} (f : W → X) (ws : List W) → filter p (map f ws) ≡ map f (filter (λ w. p (f w)) ws)
  filter_map_of f [] = refl
  filter_map_of {W} f (w ∷ ws) = by (p (f w)) (filter_map_of f ws)
    where
      by : (b : Bool) → filter p (map f ws) ≡ map f (filter (λ v. p (f v)) ws) → cond b (f w ∷ filter p (map f ws)) (filter p (map f ws)) ≡ map f (cond b (w ∷ filter (λ v. p (f v)) ws) (filter (λ v. p (f v)) ws))
      by true h = λ i. f w ∷ h i
      by false h = h

-- functions that agree on the members give the same list
pub map_same : {X Y : Type 0} (f g : X → Y) (xs : List X) → ((x : X) → Contains xs x → f x ≡ g x) → map f xs ≡ map g xs
map_same f g [] h = refl
map_same f g (x ∷ xs) h =
    let first : f x ≡ g x = h x (Contains-head x xs) in
    let rest : map f xs ≡ map g xs = map_same f g xs (λ y c. h y (Contains-tail x xs y c)) in
    λ i. first i ∷ rest i

module _ {X : Type 0} where
  pub Contains-insert_cases : (xs : List X) (i : ℕ) (x y : X) → Contains (insert xs i x) y → (x ≡ y) ⊎ Contains xs y
  Contains-insert_cases xs i x y c =
      ⊎_elim
      (λ d. inr (subst (λ l. Contains l y) (take-append-drop i xs) (Contains-append_left (take i xs) (drop i xs) y d)))
      (λ d. ⊎_elim (λ e. inl e) (λ f. inr (subst (λ l. Contains l y) (take-append-drop i xs) (Contains-append_right (take i xs) (drop i xs) y f))) (Contains-cons_cases x (drop i xs) y d))
      (Contains-append_cases (take i xs) (x ∷ drop i xs) y c)

  pub Contains-insert_new : (xs : List X) (i : ℕ) (x : X) → Contains (insert xs i x) x
  Contains-insert_new xs i x = Contains-append_right (take i xs) (x ∷ drop i xs) x (Contains-head x (drop i xs))

  pub Contains-insert_old : (xs : List X) (i : ℕ) (x y : X) → Contains xs y → Contains (insert xs i x) y
  Contains-insert_old xs i x y c =
      ⊎_elim
      (λ d. Contains-append_left (take i xs) (x ∷ drop i xs) y d)
      (λ d. Contains-append_right (take i xs) (x ∷ drop i xs) y (Contains-tail x (drop i xs) y d))
      (Contains-append_cases (take i xs) (drop i xs) y (subst (λ l. Contains l y) (sym (take-append-drop i xs)) c))
