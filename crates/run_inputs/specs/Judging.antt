-- What is found of a report by the files that a check names, and why these stop it.
use Rattle.std.specs.Prelude.{◌≡◌, ◌≤◌, ◌<◌, ◌⊎◌, ◌∷◌, ℕ, List, [], length, ⊤}
use Rattle.stream_base.specs.Limits.{Definitions}
use Rattle.outside.specs.Outside.{refused}
use Rattle.stream_base.specs.declared.entry.Entry.{Entry}
use Rattle.source_feed.specs.declared.whole.TheConstants.{SOURCE_MAX}
use Rattle.source_feed.specs.declared.whole_fault.WholeFault.{WholeFault}
use Rattle.source_feed.specs.declared.whole_fault.WholeFault.TheVariants.{Read as WholeRead, TooLong as WholeTooLong, NoMemory as WholeMemory}
use Rattle.report_check.specs.Findings.{IsFinding}
use Rattle.report_check.specs.declared.finding.Finding.{Finding}
use Rattle.emission_text.specs.declared.fault.Fault.{Fault}
use Rattle.emission_text.specs.declared.fault.Fault.TheVariants.{Usage, Defs, Unopened, Row, Read, FullSource, FullShard, ReportOpen, ReportRead, ReportFull, NoMemory}
use Rattle.run_inputs.specs.Causes.{AreAllRead, AreDefinitionsRead, HasFailedRead, StopsAtDefs, StopsAtSources}
use Rattle.run_inputs.specs.Outside.{Asks, CameBack, Opens, WasReadWhole, behind, came_at}
use Rattle.command_words.specs.Words.{Check}

-- the fault for a report that couldn't be read whole
abbrev pub report_fault : WholeFault → Fault
report_fault WholeRead = ReportRead
report_fault WholeTooLong = ReportFull
report_fault WholeMemory = NoMemory

-- this text is that of the first file, which was read whole and isn't too long
pub record IsReportRead (opens : Opens) (text : List ℕ) : Type 0 where
  pub whole : WasReadWhole opens 0 text
  pub short : length text ≤ SOURCE_MAX

-- why the report stops a check, of which it alone was opened behind the definitions: it can't be opened, or it can't be read, or is too long
abbrev pub StopsAtReport : List ℕ → Opens → Fault → Type 0
StopsAtReport name opens Usage = ⊥
StopsAtReport name opens (Defs cause) = ⊥
StopsAtReport name opens (Unopened place) = ⊥
StopsAtReport name opens (Row source number why) = ⊥
StopsAtReport name opens (Read place) = ⊥
StopsAtReport name opens (FullSource source) = ⊥
StopsAtReport name opens (FullShard shard) = ⊥
StopsAtReport name opens ReportOpen = Asks (name ∷ []) opens × (came_at opens 0 ≡ refused)
StopsAtReport name opens ReportRead = Asks (name ∷ []) opens × CameBack opens 0 HasFailedRead
StopsAtReport name opens ReportFull = Asks (name ∷ []) opens × CameBack opens 0 (λ reads. SOURCE_MAX < length reads.given)
StopsAtReport name opens NoMemory = ⊤

-- the report was read, and the sources stop the check
pub record StopsBehindReport (c : Check) (d : Definitions) (opens : Opens) (fault : Fault) : Type 0 where
  pub text : List ℕ
  pub report : IsReportRead opens text
  pub cause : StopsAtSources c.sources 0 d (behind (c.report ∷ []) opens) fault

-- why a check stops behind definitions that are accepted: the report stops it, or it was read and the sources do
abbrev pub StopsBehindDefs : Check → Definitions → Opens → Fault → Type 0
StopsBehindDefs c d opens fault = StopsAtReport c.report opens fault ⊎ StopsBehindReport c d opens fault

-- the definitions were accepted, and what comes behind them stops the check
pub record StopsBehindAcceptance (c : Check) (opens : Opens) (fault : Fault) : Type 0 where
  pub d : Definitions
  pub definitions : AreDefinitionsRead opens d
  pub cause : StopsBehindDefs c d (behind (c.defs ∷ []) opens) fault

-- why the files of a check stop it, or memory ran out
abbrev pub StopsAtCheck : Check → Opens → Fault → Type 0
StopsAtCheck c opens fault = StopsAtDefs c.defs opens fault ⊎ StopsBehindAcceptance c opens fault

-- the finding of a text, by the sources, which were all read whole, and of which none is refused
pub record IsFoundIn (c : Check) (d : Definitions) (text : List ℕ) (opens : Opens) (finding : Finding) : Type 0 where
  pub all : List (List Entry)
  pub sources : AreAllRead c.sources d opens all
  pub found : IsFinding d c.shards all text finding

-- and by the report
pub record IsFoundBehind (c : Check) (d : Definitions) (opens : Opens) (finding : Finding) : Type 0 where
  pub text : List ℕ
  pub report : IsReportRead opens text
  pub found_in : IsFoundIn c d text (behind (c.report ∷ []) opens) finding

-- and by the definitions
pub record IsFindingOfFiles (c : Check) (opens : Opens) (finding : Finding) : Type 0 where
  pub d : Definitions
  pub definitions : AreDefinitionsRead opens d
  pub found_behind : IsFoundBehind c d (behind (c.defs ∷ []) opens) finding
