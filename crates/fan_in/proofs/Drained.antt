-- A list that an iterator gives element by element.
use Rattle.std.proofs.Common.{◌≡◌, ◌+◌, ℕ, List, ◌∷◌, ◌++◌, get_or, drop, sym, ap, ◌∙◌, Option, Some, option_to_list}
use Rattle.std.proofs.lemmas.List.{drop-drop}
use Rattle.fan_in.proofs.Lists.{next_is}

-- what is taken first of what is left is the next one
pub next_in : {X : Type 0} (xs left left' : List X) (n : ℕ) (x : X) → left ≡ drop n xs → left ≡ x ∷ left' → (x ≡ get_or xs n x) × (left' ≡ drop (n + 1) xs)
next_in xs left left' n x e next = (next_is xs left n x e (sym (ap (λ l. get_or l 0 x) next)), ap (drop 1) (sym next) ∙ ap (drop 1) e ∙ drop-drop 1 n xs)

-- the same of an iterator's answer
pub taken_first : {X : Type 0} (left left' : List X) (o : Option X) (x : X) → left ≡ option_to_list o ++ left' → o ≡ Some x → left ≡ x ∷ left'
taken_first left left' o x e is = e ∙ ap (λ p. option_to_list p ++ left') is
