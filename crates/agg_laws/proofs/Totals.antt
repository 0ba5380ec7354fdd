-- What the values of a list come to.
use Rattle.std.proofs.Common.{◌≡◌, ◌<◌, ◌+◌, ℕ, List, [], ◌∷◌, ◌++◌, length, get_or, take, sym, ap, refl, ◌∙◌}
use Rattle.std.specs.List.{All}
use Rattle.std.proofs.lemmas.List.Sums.{fold_push, fold-append, fold_more}
use Rattle.std.proofs.lemmas.List.Elements.{All-head, All-tail}
use Rattle.std.specs.Prelude.{fold}
use Rattle.agg_laws.specs.Laws.{MonoidLaws, total}

module _ {M : Type 0} {IsValue : M → Type 0} {empty : M} {op : M → M → M} (laws : MonoidLaws IsValue empty op) where
  -- values combined after a value are a value
  fold_is_value : (a : M) (xs : List M) → IsValue a → All IsValue xs → IsValue (fold op a xs)
  fold_is_value a [] ha h = ha
  fold_is_value a (x ∷ xs) ha h =
      fold_is_value (op a x) xs (laws.closed a x ha (All-head IsValue x xs h)) (All-tail IsValue x xs h)

  -- what values come to is a value
  pub total_is_value : (xs : List M) → All IsValue xs → IsValue (total empty op xs)
  total_is_value xs h = fold_is_value empty xs laws.unit_is_value h

  -- values combined after two values that are combined
  fold_of_op : (a b : M) (xs : List M) → IsValue a → IsValue b → All IsValue xs → fold op (op a b) xs ≡ op a (fold op b xs)
  fold_of_op a b [] ha hb h = refl
  fold_of_op a b (x ∷ xs) ha hb h =
      let hx : IsValue x = All-head IsValue x xs h in
      ap (λ c. fold op c xs) (laws.assoc a b x ha hb hx) ∙ fold_of_op a (op b x) xs ha (laws.closed b x hb hx) (All-tail IsValue x xs h)

  -- values combined after a value are that value combined with what they come to
  pub fold-total : (a : M) (xs : List M) → IsValue a → All IsValue xs → fold op a xs ≡ op a (total empty op xs)
  fold-total a xs ha h =
      ap (λ c. fold op c xs) (sym (laws.right_unit a ha)) ∙ fold_of_op a empty xs ha laws.unit_is_value h

  -- one value alone
  pub total_one : (x : M) → IsValue x → total empty op (x ∷ []) ≡ x
  total_one x h = laws.left_unit x h

  -- one more in front
  pub total-cons : (x : M) (xs : List M) → IsValue x → All IsValue xs → total empty op (x ∷ xs) ≡ op x (total empty op xs)
  total-cons x xs hx h = ap (λ c. fold op c xs) (laws.left_unit x hx) ∙ fold-total x xs hx h

  -- two lists together
  pub total-append : (xs ys : List M) → All IsValue xs → All IsValue ys → total empty op (xs ++ ys) ≡ op (total empty op xs) (total empty op ys)
  total-append xs ys hx hy = fold-append op empty xs ys ∙ fold-total (total empty op xs) ys (total_is_value xs hx) hy

-- one more behind
pub total-push : {M : Type 0} (empty : M) (op : M → M → M) (xs : List M) (x : M) → total empty op (xs ++ x ∷ []) ≡ op (total empty op xs) x
total-push empty op xs x = fold_push op empty xs x

-- one more of a list
pub total-take_more : {M : Type 0} (empty : M) (op : M → M → M) (xs : List M) (i : ℕ) (d : M) → i < length xs → total empty op (take (i + 1) xs) ≡ op (total empty op (take i xs)) (get_or xs i d)
total-take_more empty op xs i d h = fold_more op empty xs i d h
