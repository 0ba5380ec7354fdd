-- What is told of one of two engines.
use Rattle.std.specs.Prelude.{ℕ}
use Rattle.key_windows.specs.declared.either_key.EitherKey.{EitherKey}
use Rattle.key_windows.specs.declared.either_key.EitherKey.TheVariants.{Full, Lean}

-- what the one or the other says of the state
abbrev pub by_engine {ℓ} : {A B : Type 0} {X : Type ℓ} → (A → X) → (B → X) → EitherKey A B → X
by_engine of_full of_lean (Full state) = of_full state
by_engine of_full of_lean (Lean state) = of_lean state

-- a number by the state before and after a call, both of the same engine
abbrev pub from_engines : {A B : Type 0} → (A → A → ℕ) → (B → B → ℕ) → EitherKey A B → EitherKey A B → ℕ
from_engines of_full of_lean (Full before) (Full after) = of_full before after
from_engines of_full of_lean (Full before) (Lean after) = 0
from_engines of_full of_lean (Lean before) (Full after) = 0
from_engines of_full of_lean (Lean before) (Lean after) = of_lean before after
