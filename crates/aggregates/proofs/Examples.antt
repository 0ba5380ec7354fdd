-- Small worked cases, computed by the checker.
use Rattle.std.proofs.Common.{◌≡◌, pos, [], ◌∷◌, refl}
use Rattle.stream_base.specs.declared.func.Func.TheVariants.{Mean, Last, Rises, Trace}
use Rattle.stream_base.specs.declared.shown.Shown.TheVariants.{Whole, Ratio}
use Rattle.stream_base.specs.Model.Functions.{shown_of}

-- what the functions show of 3, 1 and 2
mean_shown : shown_of Mean (pos 3 ∷ pos 1 ∷ pos 2 ∷ []) ≡ Ratio (pos 6) 3
mean_shown = refl

rises_shown : shown_of Rises (pos 3 ∷ pos 1 ∷ pos 2 ∷ []) ≡ Whole (pos 1)
rises_shown = refl

last_shown : shown_of Last (pos 3 ∷ pos 1 ∷ pos 2 ∷ []) ≡ Whole (pos 2)
last_shown = refl

trace_shown : shown_of Trace (pos 3 ∷ pos 1 ∷ []) ≡ Whole (pos 3298534884634)
trace_shown = refl
