-- The end that a lane tells is the bound of the first interval that is still open.
use Rattle.std.proofs.Common.{◌≡◌, ◌∙◌, ℕ, ◌+◌, ◌<◌, max, true, List, length, sym, subst, inl, inr}
use Rattle.std.specs.List.{All}
use Rattle.stream_base.specs.declared.def.Def.{Def}
use Rattle.stream_base.specs.declared.kept.Kept.{Kept}
use Rattle.stream_base.specs.declared.limits.TheConstants.{FINAL}
use Rattle.stream_base.specs.Kinds.{IsKindWithin, is_timed, length_of, slide_of}
use Rattle.stream_base.specs.Model.Moments.{moment}
use Rattle.window_laws.specs.Due.{first_open}
use Rattle.window_laws.specs.Walk.{IsFirstFrom, next_start, next_start_of}
use Rattle.window_laws.proofs.NextFacts.{next_of_timed, none_next_of_timed}
use Rattle.time_lanes.specs.Held.{IsEndFrom}

-- that is the bound of the first interval that isn't complete
pub end_is_open : (d : Def) (length slide start end : ℕ) (kept : List Kept) (marks : List ℕ) (water : ℕ) → is_timed d.kind ≡ true → IsKindWithin d.kind → length ≡ length_of d.kind → slide ≡ slide_of d.kind → start ≡ next_start length slide water → IsEndFrom length slide kept start end → end ≡ first_open (moment kept marks water) d
end_is_open d length slide start end kept marks water t k l m at h =
    elim h [ inl f ↦ some f | inr n ↦ none n ]
  where
    here : start ≡ next_start_of d.kind water
    here = at ∙ (λ i. next_start (l i) (m i) water)

    some : (x : Kept) × IsFirstFrom kept start x × (end ≡ max start (next_start length slide x.time) + length) → end ≡ first_open (moment kept marks water) d
    some (x, first, is) =
        is
        ∙ (λ i. max (here i) (next_start (l i) (m i) x.time) + l i)
        ∙ sym (next_of_timed d (moment kept marks water) x t k (subst (λ s. IsFirstFrom kept s x) here first))

    none : All (λ x. x.time < start) kept × (end ≡ FINAL) → end ≡ first_open (moment kept marks water) d
    none (early, is) =
        is ∙ sym (none_next_of_timed d (moment kept marks water) t k (subst (λ s. All (λ x. x.time < s) kept) here early))
