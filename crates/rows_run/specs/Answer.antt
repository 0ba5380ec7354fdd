-- How a call is answered, by what became of the report's open.
-- `taken` says which bytes the sink took so far, and `faults` how many writes failed.
use Rattle.std.specs.Prelude.{◌≡◌, ◌<◌, ◌++◌, ◌⊎◌, ℕ, true, List}
use Rattle.outside.specs.Outside.{Came, Reads, back, refused}
use Rattle.outside.specs.Whole.{all_read}
use Rattle.row_laws.specs.Told.{ToldShard, read_text, tells, refused as refuses}
use Rattle.row_text.specs.Lines.{rows_text}
use Rattle.rows_run.specs.Sending.{Appends, Fails}
use Rattle.rows_run.specs.Statuses.{fault_line, status_of}
use Rattle.rows_run.specs.Words.{Asked}
use Rattle.report_rows.specs.declared.text_fault.TextFault.{TextFault}
use Rattle.report_rows.specs.declared.text_fault.TextFault.TheVariants.{Line, NoMemory}
use Rattle.rows_run.specs.declared.fault.RowsFault.{RowsFault}
use Rattle.rows_run.specs.declared.fault.RowsFault.TheVariants as cause
use Rattle.rows_run.specs.declared.status.Status.{Status}
use Rattle.rows_run.specs.declared.status.Status.TheVariants.{Done, WriteFault}

-- the report was read whole, and this is what it tells of its shards
pub record IsToldBy (place : ℕ) (came : Came) (shards : List ToldShard) : Type 0 where
  pub bytes : List ℕ
  pub whole : came ≡ back (all_read place bytes)
  pub told : read_text bytes ≡ tells shards

-- what was read is refused by this line: all of it up to its end, or whatever stands behind it
abbrev pub IsNoReport : Reads → ℕ → Type 0
IsNoReport reads number =
    ((reads.ended ≡ true) × (read_text reads.given ≡ refuses number)) ⊎ ((more : List ℕ) → read_text (reads.given ++ more) ≡ refuses number)

-- why what was read stops the call
abbrev pub StopsReading : Reads → RowsFault → Type 0
StopsReading reads cause.Usage = ⊥
StopsReading reads cause.Open = ⊥
StopsReading reads cause.Read = 0 < reads.faults
StopsReading reads (cause.Line number) = IsNoReport reads number
StopsReading reads cause.NoMemory = Unit {0}

-- why the report stops it: its open was refused, or it came back, and this was read; and memory may run out
abbrev pub StopsAt : Came → RowsFault → Type 0
StopsAt came cause.Usage = ⊥
StopsAt came cause.Open = came ≡ refused
StopsAt came cause.Read = (reads : Reads) × (came ≡ back reads) × StopsReading reads cause.Read
StopsAt came (cause.Line number) = (reads : Reads) × (came ≡ back reads) × StopsReading reads (cause.Line number)
StopsAt came cause.NoMemory = Unit {0}

-- the fault of a text as one of the call
abbrev pub fault_of : TextFault → RowsFault
fault_of (Line number) = cause.Line number
fault_of NoMemory = cause.NoMemory

-- a text that was read to its end is refused by this line; or memory ran out
abbrev pub IsRefusedAtEnd : List ℕ → RowsFault → Type 0
IsRefusedAtEnd text cause.Usage = ⊥
IsRefusedAtEnd text cause.Open = ⊥
IsRefusedAtEnd text cause.Read = ⊥
IsRefusedAtEnd text (cause.Line number) = read_text text ≡ refuses number
IsRefusedAtEnd text cause.NoMemory = Unit {0}

module _ {K : Type 0} (taken : K → List ℕ) (faults : K → ℕ) where
  -- a fault's line was written, or a write of it failed
  abbrev pub Says : RowsFault → K → K → Type 0
  Says fault old new = Appends taken faults (fault_line fault) old new ⊎ Fails taken faults (fault_line fault) old new

  -- a text was written, or a write of it failed, and the status says so
  abbrev pub IsSent : List ℕ → K → K → Status → Type 0
  IsSent text old new status = ((status ≡ Done) × Appends taken faults text old new) ⊎ ((status ≡ WriteFault) × Fails taken faults text old new)

  -- the rows of what the report tells were written; or a write of them failed; or a fault was met, and its line was said
  abbrev pub IsAnswer : Asked → ℕ → Came → K → K → Status → Type 0
  IsAnswer w place came old new status =
      ((shards : List ToldShard) × IsToldBy place came shards × IsSent (rows_text w.format w.key shards) old new status)
      ⊎ ((fault : RowsFault) × StopsAt came fault × (status ≡ status_of fault) × Says fault old new)
