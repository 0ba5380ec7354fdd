-- The least and the greatest of the same values.
use Rattle.std.proofs.Common.{◌≡◌, ◌∙◌, ℤ, false, List, [], ◌∷◌, Option, None, Some, ap, sym, refl, arith}
use Rattle.std.specs.Prelude.{fold, int_lt, unwrap_or}
use Rattle.std.specs.Int.{int_min, int_max}
use Rattle.std.proofs.lemmas.Int.{ints}
use Rattle.std.proofs.lemmas.Option.{none-some}
use Rattle.stream_base.specs.Model.Functions.{least, greatest, fold_of}

least_from : (a : ℤ) (values : List ℤ) → fold (λ o v. least.combine o (least.lift v)) (Some a) values ≡ Some (fold (λ a v. int_min a v) a values)
least_from a [] = refl
least_from a (v ∷ vs) = least_from (int_min a v) vs

most_from : (a : ℤ) (values : List ℤ) → fold (λ o v. greatest.combine o (greatest.lift v)) (Some a) values ≡ Some (fold (λ a v. int_max a v) a values)
most_from a [] = refl
most_from a (v ∷ vs) = most_from (int_max a v) vs

step_apart : (a b v : ℤ) → int_lt b a ≡ false → int_lt (int_max b v) (int_min a v) ≡ false
step_apart a b v h = grind (arith, ints)

apart : (a b : ℤ) (values : List ℤ) → int_lt b a ≡ false → int_lt (fold (λ a v. int_max a v) b values) (fold (λ a v. int_min a v) a values) ≡ false
apart a b [] h = h
apart a b (v ∷ vs) h = apart (int_min a v) (int_max b v) vs (step_apart a b v h)

not_below : (v : ℤ) → int_lt v v ≡ false
not_below v = grind (arith, ints)

-- neither of them
abbrev none : Option ℤ × Option ℤ
none = (None, None)

-- there is neither where one of them isn't there
pub no_least : (values : List ℤ) → None ≡ fold_of least values → none ≡ (fold_of least values, fold_of greatest values)
no_least [] e = refl
no_least (v ∷ vs) e = absurd (none-some (fold (λ a v. int_min a v) v vs) (e ∙ least_from v vs))

pub no_most : (values : List ℤ) → None ≡ fold_of greatest values → none ≡ (fold_of least values, fold_of greatest values)
no_most [] e = refl
no_most (v ∷ vs) e = absurd (none-some (fold (λ a v. int_max a v) v vs) (e ∙ most_from v vs))

-- and where both are, the greatest isn't below the least
pub most_not_below : (values : List ℤ) (low high : ℤ) → Some low ≡ fold_of least values → Some high ≡ fold_of greatest values → int_lt high low ≡ false
most_not_below [] low high el em = absurd (none-some low (sym el))
most_not_below (v ∷ vs) low high el em =
    let l : low ≡ fold (λ a v. int_min a v) v vs = ap (λ o. unwrap_or o low) (el ∙ least_from v vs) in
    let m : high ≡ fold (λ a v. int_max a v) v vs = ap (λ o. unwrap_or o high) (em ∙ most_from v vs) in
    (λ i. int_lt (m i) (l i)) ∙ apart v v vs (not_below v)
