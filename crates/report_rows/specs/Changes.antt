-- The change that a line tells, in two steps: a guess, and whether the line is its own.
use Rattle.std.specs.Prelude.{◌&&◌, ◌++◌, ◌∷◌, ℕ, Bool, List, []}
use Rattle.std.specs.Str.{bytes_eq}
use Rattle.stream_base.specs.declared.change.Change.{Change}
use Rattle.stream_base.specs.Model.Journals.{after_word, word}
use Rattle.row_laws.specs.Fitting.{is_change_fit}
use Rattle.row_laws.specs.Reading.{form_of, guessed_change}

abbrev pub guess_of : Bool → List ℕ → Change
guess_of full line = guessed_change full (word line) (after_word line)

abbrev pub is_line_of : Bool → List ℕ → Change → Bool
is_line_of full line change = bytes_eq ((form_of full).line change) (line ++ 10 ∷ []) && is_change_fit change
