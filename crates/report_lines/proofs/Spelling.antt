-- A text that ends with a line feed spells the line in front of it.
use Rattle.std.proofs.Common.{◌≡◌, ◌≢◌, ◌∙◌, ℕ, false, List, [], ◌∷◌, ◌++◌, ap, refl, sym, true≢false}
use Rattle.std.specs.Str.{bytes_eq}
use Rattle.std.proofs.lemmas.Bool.Decides.{same_from_decides}
use Rattle.std.proofs.lemmas.List.{append_cancel_right}
use Rattle.std.proofs.lemmas.Slice.Eq.{bytes_eq-Decides}

-- where the line feed is taken off
pub front_spells : (text line front : List ℕ) → text ≡ front ++ 10 ∷ [] → bytes_eq front line ≡ bytes_eq text (line ++ 10 ∷ [])
front_spells text line front e =
    let whole = bytes_eq-Decides text (line ++ 10 ∷ []) in
    same_from_decides (bytes_eq front line) (bytes_eq text (line ++ 10 ∷ [])) (bytes_eq-Decides front line)
    ((λ t. append_cancel_right front line (10 ∷ []) (sym e ∙ whole.0 t)), (λ s. whole.1 (e ∙ ap (λ f. f ++ 10 ∷ []) s)))

-- where there is none
pub none_spells : (text line : List ℕ) → ((front : List ℕ) → text ≢ front ++ 10 ∷ []) → false ≡ bytes_eq text (line ++ 10 ∷ [])
none_spells text line n =
    let whole = bytes_eq-Decides text (line ++ 10 ∷ []) in
    same_from_decides false (bytes_eq text (line ++ 10 ∷ [])) ((λ f. absurd (true≢false (sym f))), (λ s. absurd (n line s))) whole

-- a text without its line feed is a line exactly where it spells it
pub spells_front : (line front : List ℕ) → bytes_eq (front ++ 10 ∷ []) (line ++ 10 ∷ []) ≡ bytes_eq line front
spells_front line front =
    let other = bytes_eq-Decides front line in
    sym (front_spells (front ++ 10 ∷ []) line front refl)
    ∙ same_from_decides (bytes_eq front line) (bytes_eq line front) ((λ t. sym (other.0 t)), (λ s. other.1 (sym s))) (bytes_eq-Decides line front)
