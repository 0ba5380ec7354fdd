-- What holds of a part at all times, whatever its calls do.
use Rattle.std.specs.Prelude.{◌≡◌, ◌≤◌, ◌<◌, ℕ, Bool, true, List, [], length}
use Rattle.stream_base.specs.declared.func.Func.{Func}
use Rattle.stream_base.specs.declared.kept.Kept.{Kept}
use Rattle.stream_base.specs.declared.kind.Kind.{Kind}
use Rattle.stream_base.specs.Kinds.{is_timed}
use Rattle.stream_base.specs.Laws.{completions}
use Rattle.stream_base.specs.Limits.{Definitions}
use Rattle.stream_base.specs.Model.Changes.{Moment}
use Rattle.window_laws.specs.After.{at_water, with_tuple}
use Rattle.agg_store.specs.Stored.{IsAsBefore, Stored}
use Rattle.key_parts.specs.Calls.{Standing, StandsAt, window_at, window_kind}
use Rattle.key_parts.specs.Moves.{IsPutStep}
use Rattle.key_parts.specs.Promises.{BeingAhead}

-- a part is for each window of the definitions of a kind that it serves, whose function is shown
abbrev pub IsForServed : (Kind → Bool) → (Func → Type 0) → (Definitions → ℕ → Type 0) → Type 0
IsForServed serves_kind serves is_for =
    (d : Definitions) (window : ℕ) → window < length d.windows → serves_kind (window_kind d window) ≡ true → serves (window_at d window).func → is_for d window

-- what is complete at a watermark ends by it
abbrev pub EndsInTime : (Definitions → ℕ → ℕ → ℕ) → Type 0
EndsInTime complete_by = (d : Definitions) (window water : ℕ) → complete_by d window water ≤ water

module _ {P : Type 0} (stands : Standing P) where
  -- what a part stands for has nothing to do with the room of the store
  abbrev pub StandsWithRoom : Type 0
  StandsWithRoom =
      (d : Definitions) (window : ℕ) (m : Moment) (n : ℕ) (s more : Stored) (part : P) → IsAsBefore s more → stands d window m n s part → stands d window m n more part

  -- up to a later watermark at which nothing becomes complete a part stands for the same
  abbrev pub WaitsForMore : Type 0
  WaitsForMore =
      (d : Definitions) (window : ℕ) (key : List ℕ) (m : Moment) (n : ℕ) (s : Stored) (part : P) (new : ℕ) → StandsAt stands d window m.water s part m n → m.water ≤ new → completions key m new (window, window_at d window) ≡ [] → stands d window (at_water m new) n s part

  -- the part of a tumbling or sliding window need not be told of a tuple that the store took in at or behind the watermark: this holds of it then
  abbrev pub ForUntold : (Definitions → ℕ → Moment → ℕ → Stored → Kept → ℕ → Stored → P → Type 0) → Type 0
  ForUntold holds =
      (d : Definitions) (window : ℕ) (m : Moment) (n : ℕ) (before : Stored) (x : Kept) (more : ℕ) (after : Stored) (part : P) → is_timed (window_kind d window) ≡ true → m.water ≤ x.time
      → IsPutStep d m n before x more after → stands d window m n before part → holds d window m n before x more after part

  -- it stands for what is known of the key then
  abbrev pub StandsUntold : Type 0
  StandsUntold = ForUntold (λ d window m n before x more after part. stands d window (with_tuple m x) more after part)

  -- and it has missed nothing by it
  abbrev pub AheadUntold : BeingAhead P → Type 0
  AheadUntold is_ahead =
      ForUntold (λ d window m n before x more after part. is_ahead d window m.water before part → is_ahead d window m.water after part)

-- what a part missed has nothing to do with the room of the store
abbrev pub AheadWithRoom : {P : Type 0} → BeingAhead P → Type 0
AheadWithRoom {P} is_ahead =
    (d : Definitions) (window water : ℕ) (s more : Stored) (part : P) → IsAsBefore s more → is_ahead d window water s part → is_ahead d window water more part
