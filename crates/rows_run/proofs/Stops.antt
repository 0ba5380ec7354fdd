-- What was read stops the call.
use Rattle.std.proofs.Common.{◌≡◌, ◌<◌, ℕ, List, true, inl, inr, arith}
use Rattle.outside.specs.Outside.{Reads, Rose}
use Rattle.report_rows.specs.Faults.{IsRefused, IsRefusedSo}
use Rattle.report_rows.specs.declared.text_fault.TextFault.{TextFault}
use Rattle.report_rows.specs.declared.text_fault.TextFault.TheVariants.{Line, NoMemory}
use Rattle.rows_run.specs.Answer.{IsRefusedAtEnd, StopsReading, fault_of}
use Rattle.rows_run.specs.declared.fault.RowsFault.{RowsFault}
use Rattle.rows_run.specs.declared.fault.RowsFault.TheVariants as cause

-- in the middle of the text
pub by_line : (reads : Reads) (fault : TextFault) → IsRefusedSo reads.given fault → StopsReading reads (fault_of fault)
by_line reads (Line number) h = inr h
by_line reads NoMemory h = tt

pub at_end_of : (text : List ℕ) (fault : TextFault) → IsRefused text fault → IsRefusedAtEnd text (fault_of fault)
at_end_of text (Line number) h = h
at_end_of text NoMemory h = tt

-- at its end
pub by_end : (reads : Reads) (fault : RowsFault) → reads.ended ≡ true → IsRefusedAtEnd reads.given fault → StopsReading reads fault
by_end reads cause.Usage e h = h
by_end reads cause.Open e h = h
by_end reads cause.Read e h = absurd h
by_end reads (cause.Line number) e h = inl (e, h)
by_end reads cause.NoMemory e h = tt

-- a count that rose from nothing
pub some_failed : (old new : ℕ) → old ≡ 0 → Rose old new → 0 < new
some_failed old new none (inl l) = omega (arith, none, l)
some_failed old new none (inr e) = omega (arith, e)
