-- Values under rising keys, with room for more: what contracts see of them, and what calls do to them.
use Rattle.std.specs.Prelude.{◌≡◌, ◌≤◌, ◌+◌, ◌^◌, ◌↔◌, ℕ, List, [], Option, None, Result, OnOk, false, length}
use Rattle.agg_laws.specs.Pairs.{AreRising, has_key, inserted, least_key, replaced, value_at, without}

-- the pairs of a key and a value, and for how many more there is room
pub record Table (M : Type 0) : Type 0 where
  pub pairs : List (ℕ × M)
  pub spare : ℕ

-- memory allowing there is room for so many pairs more, none of the room is lost, and the pairs stay
pub record Reserves {M A E : Type 0} (more : ℕ) (answer : Result A E) (old new : Table M) : Type 0 where
  pub room : OnOk answer (more ≤ new.spare)
  pub spare : old.spare ≤ new.spare
  pub kept : new.pairs ≡ old.pairs
  pub rising : AreRising new.pairs

-- a pair may come in: its key isn't there, and there is room for it
pub record MayInsert {M : Type 0} (key : ℕ) (table : Table M) : Type 0 where
  pub absent : has_key key table.pairs ≡ false
  pub room : 1 ≤ table.spare

-- the pair came in where its key belongs, and took one place of the room
pub record Inserts {M : Type 0} (key : ℕ) (value : M) (old new : Table M) : Type 0 where
  pub inserted : new.pairs ≡ inserted key value old.pairs
  pub rising : AreRising new.pairs
  pub spare : new.spare + 1 ≡ old.spare

-- another value came under the key
pub record Replaces {M : Type 0} (key : ℕ) (value : M) (old new : Table M) : Type 0 where
  pub replaced : new.pairs ≡ replaced key value old.pairs
  pub rising : AreRising new.pairs
  pub spare : old.spare ≤ new.spare

-- the pair with the key went out and its value is given, unless there was none
pub record Removes {M : Type 0} (key : ℕ) (taken : Option M) (old new : Table M) : Type 0 where
  pub value : taken ≡ value_at key old.pairs
  pub none : (taken ≡ None) ↔ (has_key key old.pairs ≡ false)
  pub rest : new.pairs ≡ without key old.pairs
  pub rising : AreRising new.pairs
  pub spare : old.spare ≤ new.spare

-- the least key is given, unless there is no pair
pub record IsLeast {M : Type 0} (key : Option ℕ) (table : Table M) : Type 0 where
  pub least : key ≡ least_key table.pairs
  pub none : (key ≡ None) ↔ (table.pairs ≡ [])
  pub rising : AreRising table.pairs

-- a tree's reach is at most this, and what its kind allows for so many pairs
pub record IsReach {M : Type 0} (Bounded : ℕ → ℕ → Type 0) (most : ℕ) (table : Table M) (reach : ℕ) : Type 0 where
  pub within : reach ≤ most
  pub bounded : Bounded reach (length table.pairs)

-- a tree of these pairs has a height, which is 0 where there is none
pub record IsHeight {M : Type 0} (table : Table M) (height : ℕ) : Type 0 where
  pub empty : table.pairs ≡ [] → height ≡ 0
  pub bound : 2 ^ height ≤ length table.pairs + 1

-- no node lies below another one, since there is none
abbrev pub IsFlat : ℕ → Type 0
IsFlat height = height ≡ 0
