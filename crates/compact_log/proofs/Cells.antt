-- What cells tell while the lists grow of which they tell places.
use Rattle.std.proofs.Common.{arith, ◌≡◌, ◌∙◌, ◌<◌, ◌++◌, ℕ, List, [], ◌∷◌, length, get_or, unwrap_or, map, ap, refl, sym}
use Rattle.std.specs.List.{All}
use Rattle.std.proofs.lemmas.List.{map-append}
use Rattle.std.proofs.lemmas.List.Elements.{All-head, All-tail}
use Rattle.std.proofs.lemmas.Option.{unwrap_or-slice_get}
use Rattle.compact_log.specs.Growing.{Keeps}

-- what a cell tells by a place below the length stays
pub kept_at : {X : Type 0} (old new : List X) (k : ℕ) (d : X) → Keeps old new → k < length old → get_or new k d ≡ get_or old k d
kept_at old new k d keeps below =
    sym (unwrap_or-slice_get new k d) ∙ ap (λ o. unwrap_or o d) (keeps.same k below) ∙ unwrap_or-slice_get old k d

-- two tellings that agree on each cell tell the same list
pub told_alike : {C E : Type 0} (f g : C → E) (cells : List C) → All (λ x. g x ≡ f x) cells → map g cells ≡ map f cells
told_alike f g [] alike = refl
told_alike f g (c ∷ cells) alike =
    let head : g c ≡ f c = All-head (λ x. g x ≡ f x) c cells alike in
    let rest : map g cells ≡ map f cells = told_alike f g cells (All-tail (λ x. g x ≡ f x) c cells alike) in
    cc

-- and one cell more tells one more
pub told_more : {C E : Type 0} (f g : C → E) (cells : List C) (c : C) (e : E) → All (λ x. g x ≡ f x) cells → g c ≡ e → map g (cells ++ c ∷ []) ≡ map f cells ++ e ∷ []
told_more f g cells c e alike told =
    let rest : map g cells ≡ map f cells = told_alike f g cells alike in
    map-append g cells (c ∷ []) ∙ ap (λ l. l ++ g c ∷ []) rest ∙ ap (λ x. map f cells ++ x ∷ []) told

-- a list keeps what it has
pub itself : {X : Type 0} (xs : List X) → Keeps xs xs
itself xs = record { longer = omega arith; same = λ k below. refl }
