-- Why the files of a run stop it, by what became of its opens and by what was read there.
use Rattle.std.specs.Prelude.{◌≡◌, ◌≤◌, ◌<◌, ◌+◌, ◌⊎◌, ℕ, true, List, [], ◌∷◌, length, map, sum, take, All, Some, None, Result, Ok, Err, Vec, slice_index_or, ⊤}
use Rattle.std.specs.declared.alloc.Global.{Global}
use Rattle.source_feed.specs.declared.whole_fault.WholeFault.{WholeFault}
use Rattle.source_feed.specs.declared.whole_fault.WholeFault.TheVariants.{Read as WholeRead, TooLong as WholeTooLong, NoMemory as WholeMemory}
use Rattle.stream_base.specs.Limits.{Definitions}
use Rattle.outside.specs.Outside.{Reads, refused}
use Rattle.stream_base.specs.Model.Routes.{IsLawful, routed}
use Rattle.stream_base.specs.declared.entry.Entry.{Entry}
use Rattle.stream_base.specs.declared.limits.TheConstants.{JOURNAL_MAX}
use Rattle.shard_core.specs.Shard.{IsJournal, Sharded}
use Rattle.source_feed.specs.FeedView.{given_then}
use Rattle.source_feed.specs.FileFeedState.{source_stream}
use Rattle.source_feed.specs.Stream.{Stream, bad_record}
use Rattle.source_feed.specs.declared.row_why.RowWhy.{RowWhy}
use Rattle.source_feed.specs.declared.whole.TheConstants.{SOURCE_MAX}
use Rattle.window_defs.specs.Reading.{reading_of}
use Rattle.window_defs.specs.declared.read.TheConstants.{BYTES_MAX}
use Rattle.window_defs.specs.declared.defs_fault.DefsFault.{DefsFault}
use Rattle.window_defs.specs.declared.defs_fault.DefsFault.TheVariants.{Long, NoMemory as NoRoom}
use Rattle.emission_text.specs.Report.{AreAlike}
use Rattle.emission_text.specs.declared.fault.Fault.{Fault}
use Rattle.emission_text.specs.declared.fault.Fault.TheVariants.{Usage, Defs, Unopened, Row, Read, FullSource, FullShard, ReportOpen, ReportRead, ReportFull, NoMemory}
use Rattle.command_words.specs.Jobs.{DefsOrigin, Job, files_of_defs, job_of_run, of_file, of_words}
use Rattle.run_inputs.specs.Outside.{Asks, CameBack, Opens, WasNotRead, WasReadWhole, behind, came_at}
use Rattle.command_words.specs.Words.{Run}

-- a failed read was met
abbrev pub HasFailedRead : Reads → Type 0
HasFailedRead reads = 0 < reads.faults

-- the first file was read whole, and its bytes spell these definitions
pub record AreDefinitionsRead (opens : Opens) (d : Definitions) : Type 0 where
  pub bytes : List ℕ
  pub whole : WasReadWhole opens 0 bytes
  pub spelled : reading_of bytes ≡ Ok d

-- what the first file gave is refused as definitions: all its bytes, or more than definitions may have; or memory ran out
abbrev pub AreRefused : Opens → DefsFault → Type 0
AreRefused opens cause =
    CameBack opens 0 (λ reads. (reads.ended ≡ true) × (reading_of reads.given ≡ Err cause))
    ⊎ ((cause ≡ Long) × CameBack opens 0 (λ reads. BYTES_MAX < length reads.given))
    ⊎ (cause ≡ NoRoom)

-- why the definitions stop a run, of which they alone were opened: they can't be opened, or they can't be read, or they are refused
abbrev pub StopsAtDefs : List ℕ → Opens → Fault → Type 0
StopsAtDefs name opens Usage = ⊥
StopsAtDefs name opens (Defs cause) = Asks (name ∷ []) opens × AreRefused opens cause
StopsAtDefs name opens (Unopened place) = (place ≡ None) × Asks (name ∷ []) opens × (came_at opens 0 ≡ refused)
StopsAtDefs name opens (Row source number why) = ⊥
StopsAtDefs name opens (Read place) = (place ≡ None) × Asks (name ∷ []) opens × CameBack opens 0 HasFailedRead
StopsAtDefs name opens (FullSource source) = ⊥
StopsAtDefs name opens (FullShard shard) = ⊥
StopsAtDefs name opens ReportOpen = ⊥
StopsAtDefs name opens ReportRead = ⊥
StopsAtDefs name opens ReportFull = ⊥
StopsAtDefs name opens NoMemory = ⊤

-- the stream of the source of this number, by its bytes
abbrev pub stream_at : Definitions → ℕ → List ℕ → Stream
stream_at d source bytes = source_stream source d.every d.disorder bytes

-- the source of this number was read whole, and its bytes spell these entries and no refusal
pub record IsSourceRead (opens : Opens) (d : Definitions) (source : ℕ) (entries : List Entry) : Type 0 where
  pub bytes : List ℕ
  pub whole : WasReadWhole opens source bytes
  pub spelled : stream_at d source bytes ≡ given_then entries None

-- all sources of these names were opened, in this order, and nothing else; each was read whole, and these are their entries
pub record AreAllRead (names : List (List ℕ)) (d : Definitions) (opens : Opens) (all : List (List Entry)) : Type 0 where
  pub asked : Asks names opens
  pub many : length all ≡ length names
  pub each : (i : ℕ) → i < length names → IsSourceRead opens d i (slice_index_or all i [])

-- how many entries of all sources go to a shard
abbrev pub count_routed : ℕ → List (List Entry) → ℕ → ℕ
count_routed shards sources k = sum (map (λ entries. length (routed shards k entries)) sources)

-- the first sources were opened and given back unread, up to this one, which can't be opened
pub record IsUnopened (names : List (List ℕ)) (opens : Opens) (source : ℕ) : Type 0 where
  pub inside : source < length names
  pub asked : Asks (take (source + 1) names) opens
  pub unread : (i : ℕ) → i < source → WasNotRead opens i
  pub failed : came_at opens source ≡ refused

-- all sources were opened, and this one is the first in trouble: those below it were read whole and aren't refused, and this holds of what was read of it
pub record IsInTrouble (names : List (List ℕ)) (d : Definitions) (opens : Opens) (source : ℕ) (P : Reads → Type 0) : Type 0 where
  pub inside : source < length names
  pub asked : Asks names opens
  pub below : (i : ℕ) → i < source → (entries : List Entry) × IsSourceRead opens d i entries
  pub read : CameBack opens source P

-- all of the source of this number was read, and the record of this number is refused in it, for this
pub record IsRefusedAt (d : Definitions) (source number : ℕ) (why : RowWhy) (reads : Reads) : Type 0 where
  pub ended : reads.ended ≡ true
  pub refused : (stream_at d source reads.given).refusal ≡ Some (bad_record number why)

-- all sources were read whole and none is refused, and more of their entries go to this shard than a journal holds
pub record IsOverfull (names : List (List ℕ)) (shards : ℕ) (d : Definitions) (opens : Opens) (k : ℕ) : Type 0 where
  pub inside : k < shards
  pub all : List (List Entry)
  pub sources : AreAllRead names d opens all
  pub many : JOURNAL_MAX < count_routed shards all k

-- why sources of these names stop a run of so many shards: one can't be opened; the first in trouble can't be read, is too long, or has a refused record; or too many entries go to a shard
abbrev pub StopsAtSources : List (List ℕ) → ℕ → Definitions → Opens → Fault → Type 0
StopsAtSources names shards d opens Usage = ⊥
StopsAtSources names shards d opens (Defs cause) = ⊥
StopsAtSources names shards d opens (Unopened None) = ⊥
StopsAtSources names shards d opens (Unopened (Some source)) = IsUnopened names opens source
StopsAtSources names shards d opens (Row source number why) = IsInTrouble names d opens source (IsRefusedAt d source number why)
StopsAtSources names shards d opens (Read None) = ⊥
StopsAtSources names shards d opens (Read (Some source)) = IsInTrouble names d opens source HasFailedRead
StopsAtSources names shards d opens (FullSource source) = IsInTrouble names d opens source (λ reads. SOURCE_MAX < length reads.given)
StopsAtSources names shards d opens (FullShard k) = IsOverfull names shards d opens k
StopsAtSources names shards d opens ReportOpen = ⊥
StopsAtSources names shards d opens ReportRead = ⊥
StopsAtSources names shards d opens ReportFull = ⊥
StopsAtSources names shards d opens NoMemory = ⊤

-- shards of sources of these names, so many of them: all sources were read whole and none is refused, and the shards' journals are lawful for their entries; they have these definitions and as many sources, and journals of that many sources
pub record AreShardsOf (names : List (List ℕ)) (many : ℕ) (d : Definitions) (opens : Opens) (shards : List Sharded) : Type 0 where
  pub all : List (List Entry)
  pub sources : AreAllRead names d opens all
  pub lawful : IsLawful many all (map (λ s. s.journal) shards)
  pub alike : AreAlike d (length names) shards
  pub few : length shards ≤ 16
  pub journals : All (λ s. IsJournal s.sources s.journal) shards

-- the shards of the files that a run names
pub record AreShardsOfFiles (run : Run) (opens : Opens) (shards : List Sharded) : Type 0 where
  pub d : Definitions
  pub definitions : AreDefinitionsRead opens d
  pub filled : AreShardsOf run.sources run.shards d (behind (run.defs ∷ []) opens) shards

-- the definitions of a job are these: its first file was read whole and spells them, or its words tell them
abbrev pub AreDefinitionsOf : DefsOrigin → Opens → Definitions → Type 0
AreDefinitionsOf (of_file name) opens d = AreDefinitionsRead opens d
AreDefinitionsOf (of_words told) opens d = d ≡ told

-- why the definitions of a job stop it: those of a file may, those of the words don't
abbrev pub StopsAtOrigin : DefsOrigin → Opens → Fault → Type 0
StopsAtOrigin (of_file name) opens fault = StopsAtDefs name opens fault
StopsAtOrigin (of_words told) opens fault = ⊥

-- the definitions are there, and the sources stop the job
pub record StopsBehindDefs (job : Job) (opens : Opens) (fault : Fault) : Type 0 where
  pub d : Definitions
  pub definitions : AreDefinitionsOf job.defs opens d
  pub cause : StopsAtSources job.sources job.shards d (behind (files_of_defs job.defs) opens) fault

-- why a job stops: the definitions stop it, or they are there and the sources do
abbrev pub StopsAtJob : Job → Opens → Fault → Type 0
StopsAtJob job opens fault = StopsAtOrigin job.defs opens fault ⊎ StopsBehindDefs job opens fault

-- why the files of a run stop it
abbrev pub StopsAtFiles : Run → Opens → Fault → Type 0
StopsAtFiles run opens fault = StopsAtJob (job_of_run run) opens fault

-- why bytes that were read are refused as definitions
abbrev pub StopsAtBytes : List ℕ → Fault → Type 0
StopsAtBytes bytes fault = (cause : DefsFault) × (fault ≡ Defs cause) × ((reading_of bytes ≡ Err cause) ⊎ (cause ≡ NoRoom))

-- why what came of reading a definitions file stops a run
abbrev pub StopsAtReading : Result (Vec ℕ Global) WholeFault → Fault → Type 0
StopsAtReading (Ok bytes) fault = StopsAtBytes bytes.items fault
StopsAtReading (Err WholeRead) fault = fault ≡ Read None
StopsAtReading (Err WholeTooLong) fault = fault ≡ Defs Long
StopsAtReading (Err WholeMemory) fault = fault ≡ NoMemory
