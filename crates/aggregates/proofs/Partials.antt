-- What partials of values come to.
use Rattle.std.proofs.Common.{◌≡◌, ◌∙◌, ℤ, List, [], ◌∷◌, ◌++◌, map, sym, ap, subst}
use Rattle.std.specs.Prelude.{FitsSigned}
use Rattle.std.specs.Int.{w64}
use Rattle.std.specs.List.{All}
use Rattle.std.proofs.lemmas.List.{map-append}
use Rattle.std.proofs.lemmas.List.Elements.{All-cons, All-map, All-nil, All-weaker}
use Rattle.agg_laws.specs.Laws.{total}
use Rattle.agg_laws.proofs.Totals.{total-append, total_is_value}
use Rattle.aggregates.specs.Order.{Commutes}
use Rattle.aggregates.specs.Partial.{IsPartial}

module _ {M : Type 0} {IsValue : M → Type 0} {empty : M} {op : M → M → M} {of_number : ℤ → M} {of_values : List ℤ → M} (p : IsPartial IsValue empty op of_number of_values) where
  are_values : (values : List ℤ) → All (FitsSigned w64) values → All IsValue (map of_number values)
  are_values values h = All-map IsValue of_number values (All-weaker (FitsSigned w64) (λ v. IsValue (of_number v)) p.lifts values h)

  -- the partial of numbers of 64 bits is a value
  pub partial_is_value : (values : List ℤ) → All (FitsSigned w64) values → IsValue (of_values values)
  partial_is_value values h = subst IsValue (p.totals values) (total_is_value p.laws (map of_number values) (are_values values h))

  -- the partials of two lists, combined, are the partial of both lists together
  pub of_values-append : (xs ys : List ℤ) → All (FitsSigned w64) xs → All (FitsSigned w64) ys → op (of_values xs) (of_values ys) ≡ of_values (xs ++ ys)
  of_values-append xs ys hx hy =
      (λ i. op (sym (p.totals xs) i) (sym (p.totals ys) i)) ∙ sym (total-append p.laws (map of_number xs) (map of_number ys) (are_values xs hx) (are_values ys hy)) ∙ ap (total empty op) (sym (map-append of_number xs ys)) ∙ p.totals (xs ++ ys)

  -- the partial of one number
  pub of_values-one : (v : ℤ) → FitsSigned w64 v → of_values (v ∷ []) ≡ of_number v
  of_values-one v h = sym (p.totals (v ∷ [])) ∙ p.laws.left_unit (of_number v) (p.lifts v h)

  -- the partial of no number
  pub of_values-none : of_values [] ≡ empty
  of_values-none = sym (p.totals [])

  -- what combines the partials of two lists is the partial of both lists together
  pub joined_partials : (b x y : M) → b ≡ op x y → (xs ys : List ℤ) → All (FitsSigned w64) xs → All (FitsSigned w64) ys → x ≡ of_values xs → y ≡ of_values ys → b ≡ of_values (xs ++ ys)
  joined_partials b x y e xs ys hx hy ex ey = e ∙ (λ i. op (ex i) (ey i)) ∙ of_values-append xs ys hx hy

  -- what is one number's partial is the partial of the list that has this number alone
  pub lifted_partial : (b : M) (v : ℤ) → b ≡ of_number v → FitsSigned w64 v → b ≡ of_values (v ∷ [])
  lifted_partial b v e h = e ∙ sym (of_values-one v h)

  module _ (swaps : Commutes IsValue op) where
    -- where order makes no difference, a value put anywhere among others is combined behind them
    pub in_any_place : (xs ys : List ℤ) (v : ℤ) → All (FitsSigned w64) xs → All (FitsSigned w64) ys → FitsSigned w64 v → of_values (xs ++ v ∷ ys) ≡ op (of_values (xs ++ ys)) (of_number v)
    in_any_place xs ys v hx hy h =
        let px = partial_is_value xs hx in
        let py = partial_is_value ys hy in
        sym (of_values-append xs (v ∷ ys) hx (All-cons (FitsSigned w64) v ys h hy))
        ∙ ap (op (of_values xs)) (sym (of_values-append (v ∷ []) ys (All-cons (FitsSigned w64) v [] h (All-nil (FitsSigned w64))) hy) ∙ ap (λ b. op b (of_values ys)) (of_values-one v h) ∙ swaps (of_number v) (of_values ys) (p.lifts v h) py)
        ∙ sym (p.laws.assoc (of_values xs) (of_values ys) (of_number v) px py (p.lifts v h))
        ∙ ap (λ b. op b (of_number v)) (of_values-append xs ys hx hy)
