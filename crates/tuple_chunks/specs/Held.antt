-- What the tuples of a key are in contracts.
use Rattle.std.specs.Prelude.{◌≤◌, ◌<◌, ℕ, List, Option, None, Some, IfSome, length, min}
use Rattle.stream_base.specs.declared.kept.Kept.{Kept}
use Rattle.stream_base.specs.Laws.{TimesDoNotFall}

-- tuples in event order, and for how many more there is room
pub record Held : Type 0 where
  pub tuples : List Kept
  pub spare : ℕ

-- few tuples in one list with room for so many more, or many in rows: room is for one more at most
abbrev pub held_of : List Kept → ℕ → Option Held → Held
held_of few room None = record { tuples = few; spare = min 1 room }
held_of few room (Some rows) = record { tuples = rows.tuples; spare = min 1 rows.spare }

-- rows aren't empty, and times don't fall over them
pub record AreRows (rows : Held) : Type 0 where
  pub some : 0 < length rows.tuples
  pub ordered : TimesDoNotFall rows.tuples

-- times don't fall, and where there are rows the one list could take a tuple
pub record IsHeld (few : List Kept) (capacity : ℕ) (rows : Option Held) : Type 0 where
  pub ordered : TimesDoNotFall few
  pub rows_hold : IfSome rows AreRows
  pub ample : IfSome rows (λ _. 1 ≤ capacity)
