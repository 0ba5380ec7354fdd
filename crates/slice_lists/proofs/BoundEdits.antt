-- The bounds of slices after an edit.
use Rattle.std.proofs.Common.{◌≡◌, ◌∙◌, ℕ, suc, ◌+◌, ◌-◌, ◌<◌, List, [], ◌∷◌, ◌++◌, length, get_or, set, take, drop, ap, sym, refl, arith, drop-cons}
use Rattle.std.proofs.lemmas.List.{set_split}
use Rattle.slice_lists.specs.declared.slice.Slice.{Slice}
use Rattle.slice_lists.specs.Bounds.{entered_bounds, entered_of, widened}

take_one : (s : Slice) (ss : List Slice) → take 1 (s ∷ ss) ≡ s ∷ []
take_one s [] = refl
take_one s (t ∷ ts) = refl

pub wider : (bounds : List Slice) (from to time : ℕ) (s w : Slice) → to ≡ from + 1 → from < length bounds → s ≡ get_or bounds from s → w ≡ widened s time → set bounds from w ≡ entered_bounds from to time bounds
wider bounds from to time s w e l read is =
    let one : to - from ≡ 1 = omega arith in
    let next : suc from ≡ to = omega arith in
    let here : drop from bounds ≡ s ∷ drop (suc from) bounds = drop-cons bounds from s l ∙ ap (λ t. t ∷ drop (suc from) bounds) (sym read) in
    set_split bounds from w l
    ∙ (λ i. take from bounds ++ is i ∷ drop (next i) bounds)
    ∙ ap (λ t. take from bounds ++ t ∷ drop to bounds) (sym (ap (λ n. entered_of (take n (drop from bounds)) time) one ∙ ap (λ l. entered_of (take 1 l) time) here ∙ ap (λ l. entered_of l time) (take_one s (drop (suc from) bounds))))
