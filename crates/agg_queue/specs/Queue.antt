-- What a queue is in contracts, and what its calls do to it.
use Rattle.std.specs.Prelude.{◌≡◌, ◌≤◌, ◌+◌, ◌++◌, ◌↔◌, ℕ, List, [], ◌∷◌, Option, None, Result, IfSome, OnOk}

-- its items, front first, and for how many more there is room
pub record Queue (M : Type 0) : Type 0 where
  pub items : List M
  pub spare : ℕ

-- a queue that works on credit: besides, the steps that were paid for and not yet made
pub record QueueOnCredit (M : Type 0) : Type 0 where
  pub queue : Queue M
  pub credit : ℕ

-- there is room for one item more
abbrev pub HasRoom : {M : Type 0} → Queue M → Type 0
HasRoom queue = 1 ≤ queue.spare

-- memory allowing there is room for so many items more, none of the room is lost, and the items stay
pub record Reserves {M A E : Type 0} (more : ℕ) (answer : Result A E) (old new : Queue M) : Type 0 where
  pub room : OnOk answer (more ≤ new.spare)
  pub spare : old.spare ≤ new.spare
  pub kept : new.items ≡ old.items

-- the item is appended at the back, and takes one place of the room
pub record Pushes {M : Type 0} (value : M) (old new : Queue M) : Type 0 where
  pub appended : new.items ≡ old.items ++ value ∷ []
  pub spare : new.spare + 1 ≡ old.spare

-- the item at the front is taken out and given, unless there is none, and no room is lost
pub record Pops {M : Type 0} (taken : Option M) (old new : Queue M) : Type 0 where
  pub first : IfSome taken (λ value. old.items ≡ value ∷ new.items)
  pub none : (taken ≡ None) ↔ (old.items ≡ [])
  pub empty : taken ≡ None → new.items ≡ []
  pub spare : old.spare ≤ new.spare
