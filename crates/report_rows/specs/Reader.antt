-- A text that is being read.
use Rattle.std.specs.Prelude.{◌≡◌, ◌==◌, ◌++◌, ℕ, false, List}
use Rattle.std.specs.List.{list_any}
use Rattle.row_laws.specs.Told.{Told, read_from, read_text}

-- behind these bytes the text is read on from the line of this number, behind what is told and with what came of the line
pub record IsReader (given : List ℕ) (number : ℕ) (told : Told) (pending : List ℕ) : Type 0 where
  pub goes_on : (more : List ℕ) → read_text (given ++ more) ≡ read_from number told (pending ++ more)
  pub no_feed : list_any (λ byte. byte == 10) pending ≡ false
