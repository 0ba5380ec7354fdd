-- What becomes of a vector that is appended to in the room that it has.
use Rattle.std.specs.Prelude.{◌≡◌, ◌+◌, ◌-◌, ◌++◌, ℕ, List, Vec, vec_capacity, vec_len}

-- how many elements more a vector takes in without memory
abbrev pub room : {X Z : Type 0} → Vec X Z → ℕ
room v = vec_capacity v - vec_len v

-- a vector has these elements more at its end, and took no memory for them
pub record Appends {X Z : Type 0} (more : List X) (old new : Vec X Z) : Type 0 where
  pub items : new.items ≡ old.items ++ more
  pub capacity : vec_capacity new ≡ vec_capacity old

-- a vector has so many elements more, and took no memory for them
pub record Adds {X Z : Type 0} (count : ℕ) (old new : Vec X Z) : Type 0 where
  pub number : vec_len new ≡ vec_len old + count
  pub capacity : vec_capacity new ≡ vec_capacity old
