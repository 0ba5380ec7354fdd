-- Facts on lists that are read and written place by place.
use Rattle.std.proofs.Common.{◌≡◌, ◌≤◌, ◌<◌, ◌+◌, arith, ℕ, List, [], ◌∷◌, ◌++◌, length, get_or, set, take, drop, sym, ap, subst, ◌∙◌, ⊎_elim}
use Rattle.std.proofs.lemmas.Bool.{cases_lt}
use Rattle.std.proofs.lemmas.List.{get_or_append_left, get_or_default, get_or-drop, get_or-set_other, get_or_push}
use Rattle.std.proofs.lemmas.Grind.{common_steps, get_or-set_at}

-- a fact of two lists at each place, with one element more in both
pub push_at : {A B : Type 0} (R : A → B → Type 0) (xs : List A) (ys : List B) (x : A) (y : B) → length ys ≡ length xs → ((k : ℕ) (d : A) (e : B) → k < length xs → R (get_or xs k d) (get_or ys k e)) → R x y
    → (k : ℕ) (d : A) (e : B) → k < length xs + 1 → R (get_or (xs ++ x ∷ []) k d) (get_or (ys ++ y ∷ []) k e)
push_at R xs ys x y n h r k d e l =
    ⊎_elim (λ lt. subst (λ a. R a (get_or (ys ++ y ∷ []) k e)) (sym (get_or_append_left xs (x ∷ []) d k lt)) (subst (λ b. R (get_or xs k d) b) (sym (get_or_append_left ys (y ∷ []) e k (omega arith))) (h k d e lt)))
    (λ ge. let is : length xs ≡ k = omega arith in subst (λ a. R a (get_or (ys ++ y ∷ []) k e)) (sym (get_or_push xs x d k is)) (subst (λ b. R x b) (sym (get_or_push ys y e k (n ∙ is))) r))
    (cases_lt k (length xs))

-- the first places of a list were changed, and the others not yet: one place more
pub place_more : {V : Type 0} (G : ℕ → V → V → Type 0) (i : ℕ) (old now : List V) (v v' : V) → length now ≡ length old → i < length old → ((k : ℕ) (d : V) → i ≤ k → get_or now k d ≡ get_or old k d)
    → ((k : ℕ) (d : V) → k < i → G k (get_or old k d) (get_or now k d)) → G i (get_or now i v) v' → (k : ℕ) (d : V) → k < i + 1 → G k (get_or old k d) (get_or (set now i v') k d)
place_more G i old now v v' many l rest changed here k d lt =
    ⊎_elim (λ (less : k < i). subst (λ w. G k (get_or old k d) w) (sym (get_or-set_other now i k v' d (λ e. omega arith))) (changed k d less))
    (λ ge. let e : k ≡ i = omega arith in
    let was : get_or now i v ≡ get_or old k d = get_or_default now i v d (omega arith) ∙ ap (λ j. get_or now j d) (sym e) ∙ rest k d (omega arith) in
    subst (λ w. G k (get_or old k d) w) (sym (get_or-set_at now i k v' d e (omega arith))) (subst (λ w. G k w v') was (subst (λ j. G j (get_or now i v) v') (sym e) here)))
    (cases_lt k i)

-- what a slice of a whole list leaves there
pub written : {A : Type 0} (n : ℕ) (xs ys : List A) → n ≡ length xs → length ys ≡ length xs → take n (ys ++ drop (length ys) xs) ≡ ys
written n xs ys e l = grind (arith, common_steps)

-- a list is made of another, element by element: one more
pub made_more : {X Y : Type 0} (P : Y → X → Type 0) (ys : List Y) (xs : List X) (n : ℕ) (y : Y) (x : X) → length ys ≡ n → n < length xs → x ≡ get_or xs n x → P y x
    → ((i : ℕ) (e : Y) (d : X) → i < n → P (get_or ys i e) (get_or xs i d)) → (i : ℕ) (e : Y) (d : X) → i < n + 1 → P (get_or (ys ++ y ∷ []) i e) (get_or xs i d)
made_more P ys xs n y x len lt is p h i e d l =
    ⊎_elim (λ (less : i < n). subst (λ a. P a (get_or xs i d)) (sym (get_or_append_left ys (y ∷ []) e i (omega arith))) (h i e d less))
    (λ ge. let same : n ≡ i = omega arith in
    subst (λ a. P a (get_or xs i d)) (sym (get_or_push ys y e i (len ∙ same))) (subst (λ b. P y b) (is ∙ get_or_default xs n x d lt ∙ ap (λ k. get_or xs k d) same) p))
    (cases_lt i n)

-- the first element of what is left is the next one
pub next_is : {X : Type 0} (xs left : List X) (n : ℕ) (x : X) → left ≡ drop n xs → x ≡ get_or left 0 x → x ≡ get_or xs n x
next_is xs left n x e r = r ∙ ap (λ l. get_or l 0 x) e ∙ get_or-drop n xs 0 x ∙ ap (λ k. get_or xs k x) (let w : n + 0 ≡ n = omega arith in w)

-- an element of a list that has a place
pub some_of : {X : Type 0} (xs : List X) (k : ℕ) → k < length xs → X
some_of [] k l = let no : ⊥ = omega arith in absurd no
some_of (x ∷ xs) k l = x
