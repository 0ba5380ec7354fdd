-- The words of all commands.
use Rattle.std.specs.Prelude.{◌⊎◌, ℕ, List}
use Rattle.command_words.specs.LastWords.{IsLast}
use Rattle.command_words.specs.Words.{IsCheck, IsMade, IsRun, IsWatch}

-- the words are those of a command
abbrev pub IsCommand : List (List ℕ) → Type 0
IsCommand words = IsRun words ⊎ IsMade words ⊎ IsCheck words ⊎ IsWatch words ⊎ IsLast words
