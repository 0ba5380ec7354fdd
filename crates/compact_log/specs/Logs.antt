-- What a log is in contracts.
use Rattle.std.specs.Prelude.{◌≡◌, ◌≤◌, ◌<◌, ◌^◌, ◌+◌, ◌++◌, ◌∷◌, [], ℕ, List, Result, OnOk, length}

-- a list, and for how many more there is room
pub record Log (X : Type 0) : Type 0 where
  pub items : List X
  pub spare : ℕ

-- memory allowing there is room for so many more; none of the room is lost, and the list stays
pub record Reserves {X A E : Type 0} (count : ℕ) (answer : Result A E) (old new : Log X) : Type 0 where
  pub room : OnOk answer (count ≤ new.spare)
  pub spare : old.spare ≤ new.spare
  pub items : new.items ≡ old.items

-- one more stands at the end, and one room was used
pub record Pushes {X : Type 0} (x : X) (old new : Log X) : Type 0 where
  pub items : new.items ≡ old.items ++ x ∷ []
  pub spare : old.spare ≤ new.spare + 1

-- from one place up to another of a list, which are numbers of 64 bits
pub record IsWithin {X : Type 0} (from to : ℕ) (items : List X) : Type 0 where
  pub rises : from ≤ to
  pub inside : to ≤ length items
  pub fits : to < 2 ^ 64
