-- Lists of numbered items that grow at the end.
use Rattle.std.proofs.Common.{◌≡◌, ◌≢◌, ℕ, List, [], ◌∷◌, ◌++◌, map, refl, sym, ap, ◌∙◌, append_assoc, eq-eqb, ne_eqb, eqb}
use Rattle.std.proofs.lemmas.List.Elements.{filter-append}
use Rattle.std.proofs.lemmas.List.{map-append, append-nil}
use Rattle.turnstile.specs.History.{of_number, by_number, BeginsWith}

module _ {I : Type 0} where
  pub of_number-append : (n : ℕ) (a b : List (ℕ × I)) → of_number n (a ++ b) ≡ of_number n a ++ of_number n b
  of_number-append n a b = ap (map (λ (e : ℕ × I). e.1)) (filter-append (λ (e : ℕ × I). eqb e.0 n) a b) ∙ map-append (λ (e : ℕ × I). e.1) _ _

  pub own_items : (n : ℕ) (xs : List I) → of_number n (by_number n xs) ≡ xs
  own_items n [] = refl
  own_items n (x ∷ xs) = rw (eq-eqb n n refl) (ap (λ l. x ∷ l) (own_items n xs))

  pub other_items : (m n : ℕ) (xs : List I) → m ≢ n → of_number m (by_number n xs) ≡ []
  other_items m n [] ne = refl
  other_items m n (x ∷ xs) ne = rw (ne_eqb n m (λ e. ne (sym e))) (other_items m n xs ne)

  pub own_after : (n : ℕ) (list : List (ℕ × I)) (added made : List I) → of_number n list ≡ made → of_number n (list ++ by_number n added) ≡ made ++ added
  own_after n list added made is = of_number-append n list (by_number n added) ∙ (λ k. is k ++ own_items n added k)

  pub other_after : (m n : ℕ) (list : List (ℕ × I)) (added made : List I) → m ≢ n → of_number m list ≡ made → of_number m (list ++ by_number n added) ≡ made
  other_after m n list added made ne is = of_number-append m list (by_number n added) ∙ ((λ k. is k ++ other_items m n added ne k) ∙ append-nil made)

module _ {X : Type 0} where
  pub begins-itself : (l : List X) → BeginsWith l l
  begins-itself l = ([], sym (append-nil l))

  pub begins-longer : (l s more : List X) → BeginsWith l s → BeginsWith (l ++ more) s
  begins-longer l s more b = (b.0 ++ more, ap (λ z. z ++ more) b.1 ∙ append_assoc s b.0 more)
