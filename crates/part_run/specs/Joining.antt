-- What the files of a join give, and why they stop it.
use Rattle.std.specs.Prelude.{◌≡◌, ◌<◌, ◌+◌, ◌++◌, ◌⊎◌, ◌↔◌, ℕ, Bool, List, [], ◌∷◌, codes, length, take, Option, None, Some, slice_index_or, IsTrue, ⊤}
use Rattle.outside.specs.Outside.{refused}
use Rattle.source_feed.specs.declared.whole.TheConstants.{SOURCE_MAX}
use Rattle.part_laws.specs.Joined.{joined}
use Rattle.report_join.specs.ShardReports.{IsJudged, form_told}
use Rattle.report_join.specs.declared.join_why.JoinWhy.{JoinWhy}
use Rattle.report_join.specs.declared.join_why.JoinWhy.TheVariants.{Shape, Entry}
use Rattle.emission_text.specs.declared.fault.Fault.{Fault}
use Rattle.emission_text.specs.declared.fault.Fault.TheVariants as stop
use Rattle.run_inputs.specs.Causes.{HasFailedRead}
use Rattle.run_inputs.specs.Outside.{Asks, CameBack, Opens, WasReadWhole, came_at}
use Rattle.source_feed.specs.declared.whole_fault.WholeFault.{WholeFault}
use Rattle.source_feed.specs.declared.whole_fault.WholeFault.TheVariants.{Read as WholeRead, TooLong as WholeTooLong, NoMemory as WholeMemory}
use Rattle.part_run.specs.declared.part_fault.PartFault.{PartFault}
use Rattle.part_run.specs.declared.part_fault.PartFault.TheVariants.{Run, LongPart, UnreadDefs, NotReport, Misplaced}

-- the files of these names were opened, in this order, and nothing else; each was read whole, and these are their bytes
pub record AreTexts (names : List (List ℕ)) (opens : Opens) (texts : List (List ℕ)) : Type 0 where
  pub asked : Asks names opens
  pub many : length texts ≡ length names
  pub each : (i : ℕ) → i < length names → WasReadWhole opens i (slice_index_or texts i [])

-- the first file was read whole, and these are its bytes
abbrev pub IsTextRead : Opens → List ℕ → Type 0
IsTextRead opens text = WasReadWhole opens 0 text

-- why the file of the report of this number can't be read, where it alone was opened
abbrev pub StopsAtText : ℕ → Opens → Fault → Type 0
StopsAtText report opens stop.Usage = ⊥
StopsAtText report opens (stop.Defs cause) = ⊥
StopsAtText report opens (stop.Unopened None) = ⊥
StopsAtText report opens (stop.Unopened (Some k)) = (k ≡ report) × (came_at opens 0 ≡ refused)
StopsAtText report opens (stop.Row source number why) = ⊥
StopsAtText report opens (stop.Read None) = ⊥
StopsAtText report opens (stop.Read (Some k)) = (k ≡ report) × CameBack opens 0 HasFailedRead
StopsAtText report opens (stop.FullSource k) = (k ≡ report) × CameBack opens 0 (λ reads. SOURCE_MAX < length reads.given)
StopsAtText report opens (stop.FullShard shard) = ⊥
StopsAtText report opens stop.ReportOpen = ⊥
StopsAtText report opens stop.ReportRead = ⊥
StopsAtText report opens stop.ReportFull = ⊥
StopsAtText report opens stop.NoMemory = ⊤

-- the fault for a report of this number that couldn't be read whole
abbrev pub text_fault : ℕ → WholeFault → Fault
text_fault report WholeRead = stop.Read (Some report)
text_fault report WholeTooLong = stop.FullSource report
text_fault report WholeMemory = stop.NoMemory

-- the files up to this one were opened; those below it were read whole, and this holds of its open
pub record IsStuckAt (names : List (List ℕ)) (opens : Opens) (report : ℕ) (P : Type 0) : Type 0 where
  pub inside : report < length names
  pub asked : Asks (take (report + 1) names) opens
  pub below : (i : ℕ) → i < report → (text : List ℕ) × WasReadWhole opens i text
  pub cause : P

-- why reports can't be read: one can't be opened, or read, or is too long
abbrev pub StopsAtReports : List (List ℕ) → Opens → Fault → Type 0
StopsAtReports names opens stop.Usage = ⊥
StopsAtReports names opens (stop.Defs cause) = ⊥
StopsAtReports names opens (stop.Unopened None) = ⊥
StopsAtReports names opens (stop.Unopened (Some report)) = IsStuckAt names opens report (came_at opens report ≡ refused)
StopsAtReports names opens (stop.Row source number why) = ⊥
StopsAtReports names opens (stop.Read None) = ⊥
StopsAtReports names opens (stop.Read (Some report)) = IsStuckAt names opens report (CameBack opens report HasFailedRead)
StopsAtReports names opens (stop.FullSource report) =
    IsStuckAt names opens report (CameBack opens report (λ reads. SOURCE_MAX < length reads.given))
StopsAtReports names opens (stop.FullShard shard) = ⊥
StopsAtReports names opens stop.ReportOpen = ⊥
StopsAtReports names opens stop.ReportRead = ⊥
StopsAtReports names opens stop.ReportFull = ⊥
StopsAtReports names opens stop.NoMemory = ⊤

-- each text up to a number is a report of one shard, in this form, whose entries go to the shard of its place among so many
abbrev pub AreShardReports : Bool → ℕ → List (List ℕ) → ℕ → Type 0
AreShardReports second shards texts number =
    (i : ℕ) → i < number → IsJudged (form_told second) shards i (slice_index_or texts i []) None

-- a text begins as a report in the second form does
abbrev pub BeginsSecond : List ℕ → Type 0
BeginsSecond text = (later : List ℕ) × (text ≡ codes "report 2\n" ++ later)

-- the form of texts that are joined is that of the first: the second where it begins so, and else the first
abbrev pub IsFormOf : Bool → List (List ℕ) → Type 0
IsFormOf second texts = IsTrue second ↔ BeginsSecond (slice_index_or texts 0 [])

-- the text is that of all these reports of one shard each, joined
pub record IsJoinOf (texts : List (List ℕ)) (text : List ℕ) : Type 0 where
  pub second : Bool
  pub form : IsFormOf second texts
  pub reports : AreShardReports second (length texts) texts (length texts)
  pub text_is : text ≡ joined (form_told second) texts

-- and they are those of the files
pub record IsJoinOfFiles (names : List (List ℕ)) (opens : Opens) (text : List ℕ) : Type 0 where
  pub texts : List (List ℕ)
  pub read : AreTexts names opens texts
  pub join : IsJoinOf texts text

-- the first text that isn't such a report is this one, for this reason
pub record IsFirstWrong (second : Bool) (texts : List (List ℕ)) (report : ℕ) (why : JoinWhy) : Type 0 where
  pub inside : report < length texts
  pub below : AreShardReports second (length texts) texts report
  pub found : IsJudged (form_told second) (length texts) report (slice_index_or texts report []) (Some why)

-- the fault for a report of this number
abbrev pub report_fault : ℕ → JoinWhy → PartFault
report_fault report Shape = NotReport report
report_fault report (Entry number) = Misplaced report number

-- what is found of the text at this place that isn't such a report, or memory ran out
abbrev pub IsWrongAt : Bool → List (List ℕ) → ℕ → PartFault → Type 0
IsWrongAt second texts place (Run fault) = fault ≡ stop.NoMemory
IsWrongAt second texts place LongPart = ⊥
IsWrongAt second texts place UnreadDefs = ⊥
IsWrongAt second texts place (NotReport report) =
    (report ≡ place) × IsJudged (form_told second) (length texts) place (slice_index_or texts place []) (Some Shape)
IsWrongAt second texts place (Misplaced report number) =
    (report ≡ place) × IsJudged (form_told second) (length texts) place (slice_index_or texts place []) (Some (Entry number))

-- what is wrong with texts: the first that isn't such a report, or memory ran out
abbrev pub WrongAt : Bool → List (List ℕ) → PartFault → Type 0
WrongAt second texts (Run fault) = fault ≡ stop.NoMemory
WrongAt second texts LongPart = ⊥
WrongAt second texts UnreadDefs = ⊥
WrongAt second texts (NotReport report) = IsFirstWrong second texts report Shape
WrongAt second texts (Misplaced report number) = IsFirstWrong second texts report (Entry number)

-- why these texts aren't joined
abbrev pub StopsAtTexts : List (List ℕ) → PartFault → Type 0
StopsAtTexts texts fault = (second : Bool) × IsFormOf second texts × WrongAt second texts fault

-- all reports were read, and one isn't what it is to be
pub record IsWrongOfFiles (names : List (List ℕ)) (opens : Opens) (report : ℕ) (why : JoinWhy) : Type 0 where
  pub texts : List (List ℕ)
  pub read : AreTexts names opens texts
  pub second : Bool
  pub form : IsFormOf second texts
  pub wrong : IsFirstWrong second texts report why

-- why reports aren't joined
abbrev pub StopsJoin : List (List ℕ) → Opens → PartFault → Type 0
StopsJoin names opens (Run fault) = StopsAtReports names opens fault
StopsJoin names opens LongPart = ⊥
StopsJoin names opens UnreadDefs = ⊥
StopsJoin names opens (NotReport report) = IsWrongOfFiles names opens report Shape
StopsJoin names opens (Misplaced report number) = IsWrongOfFiles names opens report (Entry number)
