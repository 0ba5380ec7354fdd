-- Texts that grow by parts.
use Rattle.std.proofs.Common.{◌≡◌, ◌∙◌, ◌++◌, ◌<◌, ◌+◌, ℕ, List, [], ap, sym, append_assoc, drop, length, get_or}
use Rattle.std.specs.List.{flat_map}
use Rattle.std.proofs.lemmas.List.{at_drop_more}

-- one element more of a list that is written out
pub element_more : {X : Type 0} (f : X → List ℕ) (xs : List X) (i : ℕ) (d : X) (before more all : List ℕ) → i < length xs
    → before ++ flat_map f (drop i xs) ≡ all → more ≡ before ++ f (get_or xs i d) → more ++ flat_map f (drop (i + 1) xs) ≡ all
element_more f xs i d before more all within so_far is =
    ap (λ t. t ++ flat_map f (drop (i + 1) xs)) is
    ∙ append_assoc before (f (get_or xs i d)) (flat_map f (drop (i + 1) xs))
    ∙ ap (λ t. before ++ t) (sym (at_drop_more (flat_map f) xs i d within))
    ∙ so_far

-- two parts behind nothing
pub two_parts : (start middle end first second : List ℕ) → start ≡ [] → middle ≡ start ++ first → end ≡ middle ++ second → end ≡ first ++ second
two_parts start middle end first second nothing one two = two ∙ ap (λ t. t ++ second) (one ∙ ap (λ t. t ++ first) nothing)
