-- What a log of files holds.
use Rattle.std.specs.Prelude.{ℕ, List, length}
use Rattle.outside.specs.Outside.{Came, back, out, refused, unasked, with_came}
use Rattle.outside.specs.NameLogs.{names_in}
use Rattle.outside.specs.ReadLogs.{reads_of}
use Rattle.outside.specs.declared.came_log.CameLog.{CameLog}
use Rattle.outside.specs.declared.came_log.CameLog.TheVariants.{Start, Opened', Refused', Returned'}
use Rattle.outside.specs.declared.file_log.FileLog.{FileLog}

-- what became of each open
abbrev pub came_in : CameLog → ℕ → Came
came_in Start = λ i. unasked
came_in (Opened' m before names) = with_came (length (names_in names.value)) out (came_in before)
came_in (Refused' m before names) = with_came (length (names_in names.value)) refused (came_in before)
came_in (Returned' m before log) = with_came (reads_of log.value).place (back (reads_of log.value)) (came_in before)

-- the names that were to be opened
abbrev pub asked_of : FileLog → List (List ℕ)
asked_of log = names_in log.names

-- what became of each open of the files
abbrev pub came_of : FileLog → ℕ → Came
came_of log = came_in log.came
