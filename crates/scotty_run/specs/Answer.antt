-- The answer to a command: its status, and what was written.
use Rattle.std.specs.Prelude.{◌≡◌, ◌≤◌, ◌<◌, ◌⊎◌, ℕ, List, length}
use Rattle.stream_base.specs.Limits.{Definitions}
use Rattle.stream_base.specs.declared.entry.Entry.{Entry}
use Rattle.stream_base.specs.declared.limits.TheConstants.{JOURNAL_MAX}
use Rattle.stream_base.specs.Model.Journals.{journals_of}
use Rattle.stream_base.specs.Model.Routes.{IsLawful}
use Rattle.stream_base.specs.Model.Text.{report_of}
use Rattle.stream_base.specs.Model.Final.{final_rows, summary_of}
use Rattle.source_feed.specs.Generated.{made_definitions, made_sources}
use Rattle.emission_text.specs.Faults.{fault_line}
use Rattle.report_check.specs.declared.finding.Finding.{Finding}
use Rattle.emission_text.specs.Findings.{finding_line}
use Rattle.report_lines.specs.Forms.{form_of}
use Rattle.emission_text.specs.Sending.{Appends, Fails}
use Rattle.emission_text.specs.declared.fault.Fault.{Fault}
use Rattle.emission_text.specs.declared.fault.Fault.TheVariants as stop
use Rattle.run_inputs.specs.Causes.{AreAllRead, AreDefinitionsOf, StopsAtJob, count_routed}
use Rattle.command_words.specs.Jobs.{Job, files_of_defs, job_of_run}
use Rattle.run_inputs.specs.Judging.{IsFindingOfFiles, StopsAtCheck}
use Rattle.run_inputs.specs.Outside.{Opens, behind}
use Rattle.run_inputs.specs.Statuses.{finding_status, status_of}
use Rattle.command_words.specs.Words.{Check, Made, Run}
use Rattle.run_inputs.specs.declared.status.Status.{Status}
use Rattle.run_inputs.specs.declared.status.Status.TheVariants.{Done, Usage, BadDefs, OpenFault, BadRow, ReadFault, Full, NoMemory, WriteFault, Unlawful}

-- the text is the report of the journals that stand in it, and these hold each source's entries where they belong, once each and in the source's order
pub record IsReportOf (run : Run) (d : Definitions) (sources : List (List Entry)) (text : List ℕ) : Type 0 where
  pub report_is : text ≡ report_of (form_of run.form) d (length run.sources) (journals_of text)
  pub lawful : IsLawful run.shards sources (journals_of text)

-- the text is one that a job may write of what its files gave, by the definitions and the entries of all sources: the definitions are there; all files were opened, in their order, and nothing else; each was read whole, no read of it failed, and none is refused; and no shard gets more of the entries than a journal holds
pub record IsTextOfFiles (job : Job) (may : Definitions → List (List Entry) → List ℕ → Type 0) (opens : Opens) (text : List ℕ) : Type 0 where
  pub d : Definitions
  pub definitions : AreDefinitionsOf job.defs opens d
  pub all : List (List Entry)
  pub sources : AreAllRead job.sources d (behind (files_of_defs job.defs) opens) all
  pub few : (k : ℕ) → k < job.shards → count_routed job.shards all k ≤ JOURNAL_MAX
  pub written : may d all text

-- the text is a report of what the files of a run gave
abbrev pub IsReportOfFiles : Run → Opens → List ℕ → Type 0
IsReportOfFiles run opens text = IsTextOfFiles (job_of_run run) (IsReportOf run) opens text

-- the summary of a made run: that of the final rows of its generated sources, which knows of no shard and no schedule
abbrev pub made_summary : Made → List ℕ
made_summary m = summary_of m.rows (length (made_definitions).windows) (final_rows made_definitions (made_sources m.seed m.rows m.sources))

-- `taken` says which bytes a sink took so far, and `faults` how many writes failed
module _ {K : Type 0} (taken : K → List ℕ) (faults : K → ℕ) where
  -- the line of a fault was written, or a write failed
  abbrev pub Says : Fault → K → K → Type 0
  Says answered old new = Appends taken faults (fault_line answered) old new ⊎ Fails taken faults (fault_line answered) old new

  -- the line of a finding was written, under its status, or a write failed
  abbrev pub IsTold : Finding → K → K → Status → Type 0
  IsTold finding old new status =
      ((status ≡ finding_status finding) × Appends taken faults (finding_line finding) old new)
      ⊎ ((status ≡ WriteFault) × Fails taken faults (finding_line finding) old new)

  -- a fault of this status, which has its cause, and its line
  pub record IsStopped (cause : Fault → Type 0) (status : Status) (old new : K) : Type 0 where
    pub answered : Fault
    pub status_is : status_of answered ≡ status
    pub cause_is : cause answered
    pub said : Says answered old new

  -- a text of which this holds was written whole
  pub record IsWritten (P : List ℕ → Type 0) (old new : K) : Type 0 where
    pub text : List ℕ
    pub text_is : P text
    pub went_out : Appends taken faults text old new

  -- or a write of it failed
  pub record IsCutOff (P : List ℕ → Type 0) (old new : K) : Type 0 where
    pub text : List ℕ
    pub text_is : P text
    pub failed : Fails taken faults text old new

  -- the answer to a job: a text that it may write of what its files gave, or the first fault in the order of causes, each with what it was that was given, or with the open or the read that failed; with two exceptions: a write failed, or memory ran out
  abbrev pub IsJobAnswer : Job → (Definitions → List (List Entry) → List ℕ → Type 0) → Opens → K → K → Status → Type 0
  IsJobAnswer job may opens old new Done = IsWritten (IsTextOfFiles job may opens) old new
  IsJobAnswer job may opens old new WriteFault = IsCutOff (IsTextOfFiles job may opens) old new
  IsJobAnswer job may opens old new BadDefs = IsStopped (StopsAtJob job opens) BadDefs old new
  IsJobAnswer job may opens old new BadRow = IsStopped (StopsAtJob job opens) BadRow old new
  IsJobAnswer job may opens old new Full = IsStopped (StopsAtJob job opens) Full old new
  IsJobAnswer job may opens old new OpenFault = IsStopped (StopsAtJob job opens) OpenFault old new
  IsJobAnswer job may opens old new ReadFault = IsStopped (StopsAtJob job opens) ReadFault old new
  IsJobAnswer job may opens old new NoMemory = Says stop.NoMemory old new
  IsJobAnswer job may opens old new Usage = ⊥
  IsJobAnswer job may opens old new Unlawful = ⊥

  -- the answer to a run: a report of what its files gave
  abbrev pub IsAnswer : Run → Opens → K → K → Status → Type 0
  IsAnswer run opens old new status = IsJobAnswer (job_of_run run) (IsReportOf run) opens old new status

  -- the answer to a made run: the summary of the final rows of its sources was written; with two exceptions: a write failed, by its count, and memory ran out
  abbrev pub IsMadeAnswer : Made → K → K → Status → Type 0
  IsMadeAnswer m old new Done = Appends taken faults (made_summary m) old new
  IsMadeAnswer m old new WriteFault = Fails taken faults (made_summary m) old new
  IsMadeAnswer m old new NoMemory = Says stop.NoMemory old new
  IsMadeAnswer m old new BadDefs = ⊥
  IsMadeAnswer m old new BadRow = ⊥
  IsMadeAnswer m old new Full = ⊥
  IsMadeAnswer m old new OpenFault = ⊥
  IsMadeAnswer m old new ReadFault = ⊥
  IsMadeAnswer m old new Usage = ⊥
  IsMadeAnswer m old new Unlawful = ⊥

  -- the finding of the report by what the files gave, whose line was written, and the status is its own
  pub record IsFound (c : Check) (opens : Opens) (status : Status) (old new : K) : Type 0 where
    pub finding : Finding
    pub finding_is : IsFindingOfFiles c opens finding
    pub status_is : finding_status finding ≡ status
    pub went_out : Appends taken faults (finding_line finding) old new

  -- or a write of its line failed
  pub record IsFindingCutOff (c : Check) (opens : Opens) (old new : K) : Type 0 where
    pub finding : Finding
    pub finding_is : IsFindingOfFiles c opens finding
    pub failed : Fails taken faults (finding_line finding) old new

  -- the answer to a check: the line of what is found of the report that its files gave, or the first fault in the order of causes; with the same exceptions as a run
  abbrev pub IsCheckAnswer : Check → Opens → K → K → Status → Type 0
  IsCheckAnswer c opens old new Done = IsFound c opens Done old new
  IsCheckAnswer c opens old new Unlawful = IsFound c opens Unlawful old new
  IsCheckAnswer c opens old new WriteFault = IsFindingCutOff c opens old new
  IsCheckAnswer c opens old new BadDefs = IsStopped (StopsAtCheck c opens) BadDefs old new
  IsCheckAnswer c opens old new BadRow = IsStopped (StopsAtCheck c opens) BadRow old new
  IsCheckAnswer c opens old new Full = IsStopped (StopsAtCheck c opens) Full old new
  IsCheckAnswer c opens old new OpenFault = IsStopped (StopsAtCheck c opens) OpenFault old new
  IsCheckAnswer c opens old new ReadFault = IsStopped (StopsAtCheck c opens) ReadFault old new
  IsCheckAnswer c opens old new NoMemory = Says stop.NoMemory old new
  IsCheckAnswer c opens old new Usage = ⊥
