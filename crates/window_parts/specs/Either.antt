-- What is told of one of two parts, the first of which is taken where it serves the kind of the window.
use Rattle.std.proofs.Common.{◌≡◌, ◌≤◌, ◌||◌, ℕ, Bool, true, false, cond, refl}
use Rattle.stream_base.specs.declared.func.Func.{Func}
use Rattle.stream_base.specs.declared.kind.Kind.{Kind}
use Rattle.stream_base.specs.Limits.{Definitions}
use Rattle.key_parts.specs.Calls.{Standing, window_kind}
use Rattle.key_parts.specs.PartLaws.{AheadUntold, AheadWithRoom, EndsInTime, IsForServed, StandsUntold, StandsWithRoom, WaitsForMore}
use Rattle.key_parts.specs.Promises.{BeingAhead}
use Rattle.window_parts.specs.declared.either_part.EitherPart.{EitherPart}
use Rattle.window_parts.specs.declared.either_part.EitherPart.TheVariants.{First, Second}

-- what the one or the other says of itself
abbrev pub by_part {ℓ} : {A B : Type 0} {X : Type ℓ} → (A → X) → (B → X) → EitherPart A B → X
by_part of_first of_second (First part) = of_first part
by_part of_first of_second (Second part) = of_second part

-- what the first says of the window at a place where it serves its kind, and else what the second says
abbrev pub by_kind {ℓ} : {X : Type ℓ} → (Kind → Bool) → (Definitions → ℕ → X) → (Definitions → ℕ → X) → Definitions → ℕ → X
by_kind serves of_first of_second d window = cond (serves (window_kind d window)) (of_first d window) (of_second d window)

-- the choice stands for what its part does: the first for windows of the kinds that it serves, and the second for all others
abbrev pub stands_either : {A B : Type 0} → (Kind → Bool) → Standing A → Standing B → Standing (EitherPart A B)
stands_either serves of_first of_second d window m n s (First part) = (serves (window_kind d window) ≡ true) × of_first d window m n s part
stands_either serves of_first of_second d window m n s (Second part) = (serves (window_kind d window) ≡ false) × of_second d window m n s part

-- it has missed nothing if its part hasn't
abbrev pub ahead_either : {A B : Type 0} → BeingAhead A → BeingAhead B → BeingAhead (EitherPart A B)
ahead_either of_first of_second d window water s = by_part (of_first d window water s) (of_second d window water s)

-- a kind that it serves is served by the one or the other
pub for_served : (serves others : Kind → Bool) (shown : Func → Type 0) (of_first of_second : Definitions → ℕ → Type 0) → IsForServed serves shown of_first → IsForServed others shown of_second
    → IsForServed (λ kind. serves kind || others kind) shown (by_kind serves of_first of_second)
for_served serves others shown of_first of_second first second d window within served shows =
    by (serves (window_kind d window)) refl served
  where
    by : (b : Bool) → serves (window_kind d window) ≡ b → (b || others (window_kind d window)) ≡ true → cond b (of_first d window) (of_second d window)
    by true is served = first d window within is shows
    by false is served = second d window within served shows

pub ends_in_time : (serves : Kind → Bool) (of_first of_second : Definitions → ℕ → ℕ → ℕ) → EndsInTime of_first → EndsInTime of_second → EndsInTime (by_kind serves of_first of_second)
ends_in_time serves of_first of_second first second d window water = by (serves (window_kind d window))
  where
    by : (b : Bool) → cond b (of_first d window) (of_second d window) water ≤ water
    by true = first d window water
    by false = second d window water

pub missed_with_room : {A B : Type 0} (of_first : BeingAhead A) (of_second : BeingAhead B) → AheadWithRoom of_first → AheadWithRoom of_second → AheadWithRoom (ahead_either of_first of_second)
missed_with_room of_first of_second first second d window water s more (First part) same ahead = first d window water s more part same ahead
missed_with_room of_first of_second first second d window water s more (Second part) same ahead = second d window water s more part same ahead

module _ {A B : Type 0} (serves : Kind → Bool) (of_first : Standing A) (of_second : Standing B) where
  pub with_room : StandsWithRoom of_first → StandsWithRoom of_second → StandsWithRoom (stands_either serves of_first of_second)
  with_room first second d window m n s more (First part) same stood = (stood.0, first d window m n s more part same stood.1)
  with_room first second d window m n s more (Second part) same stood = (stood.0, second d window m n s more part same stood.1)

  pub waits_on : WaitsForMore of_first → WaitsForMore of_second → WaitsForMore (stands_either serves of_first of_second)
  waits_on first second d window key m n s (First part) new at rises none =
      (at.stood.0, first d window key m n s part new (record { water_is = at.water_is; lists = at.lists; store = at.store; held = at.held; stood = at.stood.1 }) rises none)
  waits_on first second d window key m n s (Second part) new at rises none =
      (at.stood.0, second d window key m n s part new (record { water_is = at.water_is; lists = at.lists; store = at.store; held = at.held; stood = at.stood.1 }) rises none)

  pub untold : StandsUntold of_first → StandsUntold of_second → StandsUntold (stands_either serves of_first of_second)
  untold first second d window m n before x more after (First part) timed behind step stood = (stood.0, first d window m n before x more after part timed behind step stood.1)
  untold first second d window m n before x more after (Second part) timed behind step stood = (stood.0, second d window m n before x more after part timed behind step stood.1)

  pub untold_ahead : (ahead : BeingAhead A) (ahead_too : BeingAhead B) → AheadUntold of_first ahead → AheadUntold of_second ahead_too → AheadUntold (stands_either serves of_first of_second) (ahead_either ahead ahead_too)
  untold_ahead ahead ahead_too first second d window m n before x more after (First part) timed behind step stood before_it = first d window m n before x more after part timed behind step stood.1 before_it
  untold_ahead ahead ahead_too first second d window m n before x more after (Second part) timed behind step stood before_it = second d window m n before x more after part timed behind step stood.1 before_it
