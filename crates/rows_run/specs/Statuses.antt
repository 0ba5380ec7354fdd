-- Statuses, their exit codes, and the lines of faults.
use Rattle.std.specs.Prelude.{ℕ, List, [], ◌∷◌, codes, decimal}
use Rattle.stream_base.specs.Model.Text.{line_of}
use Rattle.rows_run.specs.declared.fault.RowsFault.{RowsFault}
use Rattle.rows_run.specs.declared.fault.RowsFault.TheVariants as cause
use Rattle.rows_run.specs.declared.status.Status.{Status}
use Rattle.rows_run.specs.declared.status.Status.TheVariants.{Done, Usage, OpenFault, ReadFault, NoMemory, WriteFault, NoReport}

abbrev pub code_of : Status → ℕ
code_of Done = 0
code_of Usage = 1
code_of OpenFault = 3
code_of ReadFault = 5
code_of NoMemory = 7
code_of WriteFault = 8
code_of NoReport = 9

abbrev pub status_of : RowsFault → Status
status_of cause.Usage = Usage
status_of cause.Open = OpenFault
status_of cause.Read = ReadFault
status_of (cause.Line number) = NoReport
status_of cause.NoMemory = NoMemory

-- the words of a fault
abbrev pub fault_words : RowsFault → List (List ℕ)
fault_words cause.Usage = codes "usage" ∷ []
fault_words cause.Open = codes "open" ∷ codes "report" ∷ []
fault_words cause.Read = codes "read" ∷ codes "report" ∷ []
fault_words (cause.Line number) = codes "line" ∷ decimal number ∷ []
fault_words cause.NoMemory = codes "memory" ∷ []

-- the line of a fault
abbrev pub fault_line : RowsFault → List ℕ
fault_line fault = line_of (codes "fault" ∷ fault_words fault)
