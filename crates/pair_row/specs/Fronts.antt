-- What a vector whose first elements leave without a move is in contracts, and what its calls do to it.
use Rattle.std.specs.Prelude.{◌≡◌, ◌≤◌, ◌+◌, ℕ, List, Result, OnOk, length, slice_index_or}
use Rattle.std.specs.List.{insert, remove}

-- the elements that stand, and for how many more there is room
pub record Front (T : Type 0) : Type 0 where
  pub items : List T
  pub spare : ℕ

-- memory allowing there is room for so many more, none of the room is lost, and the elements stay
pub record MakesRoom {T A E : Type 0} (more : ℕ) (answer : Result A E) (old new : Front T) : Type 0 where
  pub room : OnOk answer (more ≤ new.spare)
  pub spare : old.spare ≤ new.spare
  pub kept : new.items ≡ old.items

-- there is such a place among the elements or behind them, and room for one more
pub record MayInsert {T : Type 0} (at : ℕ) (front : Front T) : Type 0 where
  pub within : at ≤ length front.items
  pub room : 1 ≤ front.spare

-- the element came in at the place, and took one place of the room
pub record Inserts {T : Type 0} (at : ℕ) (item : T) (old new : Front T) : Type 0 where
  pub items : new.items ≡ insert old.items at item
  pub spare : new.spare + 1 ≡ old.spare

-- the element at the place went out and is given, and none of the room is lost
pub record Removes {T : Type 0} (at : ℕ) (taken : T) (old new : Front T) : Type 0 where
  pub value : taken ≡ slice_index_or old.items at taken
  pub items : new.items ≡ remove old.items at
  pub spare : old.spare ≤ new.spare
