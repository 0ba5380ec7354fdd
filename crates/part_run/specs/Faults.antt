-- Why a command ended without its result, and what it says then.
use Rattle.std.specs.Prelude.{◌⊎◌, ℕ, List, [], ◌∷◌, codes, decimal}
use Rattle.stream_base.specs.Model.Text.{line_of}
use Rattle.emission_text.specs.Faults.{fault_line}
use Rattle.emission_text.specs.Sending.{Appends, Fails}
use Rattle.run_inputs.specs.Statuses.{status_of}
use Rattle.run_inputs.specs.declared.status.Status.{Status}
use Rattle.run_inputs.specs.declared.status.Status.TheVariants.{BadDefs, Full, Unlawful}
use Rattle.part_run.specs.declared.part_fault.PartFault.{PartFault}
use Rattle.part_run.specs.declared.part_fault.PartFault.TheVariants.{Run, LongPart, UnreadDefs, NotReport, Misplaced}

-- the line of a fault
abbrev pub part_fault_line : PartFault → List ℕ
part_fault_line (Run fault) = fault_line fault
part_fault_line LongPart = codes "fault full part\n"
part_fault_line UnreadDefs = codes "fault defs text\n"
part_fault_line (NotReport report) = line_of (codes "fault" ∷ codes "report" ∷ decimal report ∷ [])
part_fault_line (Misplaced report number) = line_of (codes "fault" ∷ codes "entry" ∷ decimal report ∷ decimal number ∷ [])

-- the status for a fault
abbrev pub part_status : PartFault → Status
part_status (Run fault) = status_of fault
part_status LongPart = Full
part_status UnreadDefs = BadDefs
part_status (NotReport report) = Unlawful
part_status (Misplaced report number) = Unlawful

-- `taken` says which bytes a sink took so far, and `faults` how many writes failed
module _ {K : Type 0} (taken : K → List ℕ) (faults : K → ℕ) where
  -- the line of a fault was written, or a write failed
  abbrev pub SaysPart : PartFault → K → K → Type 0
  SaysPart answered old new = Appends taken faults (part_fault_line answered) old new ⊎ Fails taken faults (part_fault_line answered) old new
