-- The first of some instances that passes a test.
use Rattle.std.proofs.Common.{◌≡◌, ◌∙◌, ◌<◌, Bool, true, false, cond, List, [], ◌∷◌, ◌++◌, ap, refl, ⊎_elim, None, Some}
use Rattle.std.specs.List.{All, Contains, find}
use Rattle.std.proofs.lemmas.List.Elements.{All-head, All-tail}
use Rattle.std.proofs.lemmas.Map.Keys.{sorted_tail}
use Rattle.stream_base.specs.Model.Windows.{Instance}
use Rattle.stream_base.specs.Laws.{by_start, RiseByStart}
use Rattle.stream_base.proofs.Rising.{none_in_nil, Contains-head, Contains-tail, Contains-cons_cases, below_tail}
use Rattle.stream_base.proofs.Distinct.{by_start_total, lt_from_less}

module _ {X : Type 0} (p : X → Bool) where
  pub find_here : (x : X) (xs : List X) → p x ≡ true → find p (x ∷ xs) ≡ Some x
  find_here x xs h = ap (λ b. cond b (Some x) (find p xs)) h

  find_later : (x : X) (xs : List X) → p x ≡ false → find p (x ∷ xs) ≡ find p xs
  find_later x xs h = ap (λ b. cond b (Some x) (find p xs)) h

  -- none passes
  pub find_none : (xs : List X) → ((x : X) → Contains xs x → p x ≡ false) → find p xs ≡ None
  find_none [] h = refl
  find_none (x ∷ xs) h = find_later x xs (h x (Contains-head x xs)) ∙ find_none xs (λ y c. h y (Contains-tail x xs y c))

  -- tests that agree on the members find the same
  pub find_agree : (q : X → Bool) (xs : List X) → ((x : X) → Contains xs x → p x ≡ q x) → find p xs ≡ find q xs
  find_agree q [] h = refl
  find_agree q (x ∷ xs) h =
      let here : p x ≡ q x = h x (Contains-head x xs) in
      let rest : find p xs ≡ find q xs = find_agree q xs (λ y c. h y (Contains-tail x xs y c)) in
      λ i. cond (here i) (Some x) (rest i)

  -- those that don't pass are passed over
  pub find_behind : (xs ys : List X) → All (λ x. p x ≡ false) xs → find p (xs ++ ys) ≡ find p ys
  find_behind [] ys h = refl
  find_behind (x ∷ xs) ys h = find_later x (xs ++ ys) (All-head (λ x. p x ≡ false) x xs h) ∙ find_behind xs ys (All-tail (λ x. p x ≡ false) x xs h)

  pub find_at : (xs : List X) (x : X) (ys : List X) → All (λ x. p x ≡ false) xs → p x ≡ true → find p (xs ++ x ∷ ys) ≡ Some x
  find_at xs x ys h t = find_behind xs (x ∷ ys) h ∙ find_here x ys t

-- one passes, and none that starts before it
pub find_first : (p : Instance → Bool) (is : List Instance) (i : Instance) → RiseByStart is → Contains is i → p i ≡ true → ((j : Instance) → Contains is j → j.low < i.low → p j ≡ false) → find p is ≡ Some i
find_first p [] i s c t early = absurd (none_in_nil i c)
find_first p (x ∷ is) i s c t early =
    ⊎_elim
    (λ e. find_here p x is (ap p e ∙ t) ∙ ap Some e)
    (λ d. let lt : x.low < i.low = lt_from_less x.low i.low (below_tail by_start_total x is s i d) in
    find_later p x is (early x (Contains-head x is) lt) ∙ find_first p is i (sorted_tail by_start x is s) d t (λ j f l. early j (Contains-tail x is j f) l))
    (Contains-cons_cases x is i c)
