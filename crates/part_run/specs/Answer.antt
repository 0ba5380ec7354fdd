-- The answer to a command: its status, and what was written.
use Rattle.std.specs.Prelude.{◌≡◌, ℕ, List}
use Rattle.emission_text.specs.Sending.{Appends, Fails}
use Rattle.emission_text.specs.declared.fault.Fault.TheVariants as stop
use Rattle.run_inputs.specs.declared.status.Status.{Status}
use Rattle.run_inputs.specs.declared.status.Status.TheVariants.{Done, Usage, BadDefs, OpenFault, BadRow, ReadFault, Full, NoMemory, WriteFault, Unlawful}
use Rattle.run_inputs.specs.Outside.{Opens}
use Rattle.part_run.specs.Faults.{SaysPart, part_status}
use Rattle.part_run.specs.Joining.{IsJoinOfFiles, StopsJoin}
use Rattle.part_run.specs.Parting.{AreDefsOfFile, IsShortPart, StopsDefs, StopsPart}
use Rattle.part_run.specs.Words.{Part}
use Rattle.part_run.specs.declared.part_fault.PartFault.{PartFault}
use Rattle.part_run.specs.declared.part_fault.PartFault.TheVariants.{Run}

-- `taken` says which bytes a sink took so far, and `faults` how many writes failed; `IsText` says what a command is to write, and `Stops` why it doesn't
module _ {K : Type 0} (taken : K → List ℕ) (faults : K → ℕ) (IsText : List ℕ → Type 0) (Stops : PartFault → Type 0) where
  -- the text was written whole
  pub record IsWritten (old new : K) : Type 0 where
    pub text : List ℕ
    pub text_is : IsText text
    pub went_out : Appends taken faults text old new

  -- or a write of it failed
  pub record IsCutOff (old new : K) : Type 0 where
    pub text : List ℕ
    pub text_is : IsText text
    pub failed : Fails taken faults text old new

  -- a fault of this status, which has its cause, and its line
  pub record IsStopped (status : Status) (old new : K) : Type 0 where
    pub answered : PartFault
    pub status_is : part_status answered ≡ status
    pub cause_is : Stops answered
    pub said : SaysPart taken faults answered old new

  -- the answer to a command: its text, or a fault; with two exceptions: a write failed, or memory ran out
  abbrev pub IsAnswer : K → K → Status → Type 0
  IsAnswer old new Done = IsWritten old new
  IsAnswer old new WriteFault = IsCutOff old new
  IsAnswer old new NoMemory = SaysPart taken faults (Run stop.NoMemory) old new
  IsAnswer old new Usage = ⊥
  IsAnswer old new BadDefs = IsStopped BadDefs old new
  IsAnswer old new OpenFault = IsStopped OpenFault old new
  IsAnswer old new BadRow = IsStopped BadRow old new
  IsAnswer old new ReadFault = IsStopped ReadFault old new
  IsAnswer old new Full = IsStopped Full old new
  IsAnswer old new Unlawful = IsStopped Unlawful old new

module _ {K : Type 0} (taken : K → List ℕ) (faults : K → ℕ) where
  -- the answer to a part, by the opens of the call
  abbrev pub IsPartAnswer : Part → Opens → K → K → Status → Type 0
  IsPartAnswer p opens old new status = IsAnswer taken faults (IsShortPart p opens) (StopsPart p opens) old new status

  -- to the definitions of parts under those in the file of a name
  abbrev pub IsDefsAnswer : List ℕ → Opens → K → K → Status → Type 0
  IsDefsAnswer name opens old new status = IsAnswer taken faults (AreDefsOfFile opens) (StopsDefs name opens) old new status

  -- and to reports that are joined
  abbrev pub IsJoinAnswer : List (List ℕ) → Opens → K → K → Status → Type 0
  IsJoinAnswer names opens old new status = IsAnswer taken faults (IsJoinOfFiles names opens) (StopsJoin names opens) old new status
