-- What the marks of a key are in contracts.
use Rattle.std.specs.Prelude.{◌≡◌, ◌≤◌, ℕ, List, Result, OnOk}

-- the times of the marks, rising, and for how many more there is room
pub record Marked : Type 0 where
  pub times : List ℕ
  pub spare : ℕ

-- memory allowing there is room for one mark more, none of the room is lost, and the marks stay
pub record Reserves {A E : Type 0} (answer : Result A E) (old new : Marked) : Type 0 where
  pub room : OnOk answer (1 ≤ new.spare)
  pub spare : old.spare ≤ new.spare
  pub times : new.times ≡ old.times
