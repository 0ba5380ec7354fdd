-- A live board of the files of its words: what is written, and the answer.
use Rattle.std.specs.Prelude.{◌≡◌, ◌≤◌, ◌<◌, ◌++◌, ◌⊎◌, ℕ, List, [], ◌∷◌, length, map, All, slice_index_or}
use Rattle.stream_base.specs.Limits.{Definitions}
use Rattle.stream_base.specs.declared.entry.Entry.{Entry}
use Rattle.stream_base.specs.declared.limits.TheConstants.{JOURNAL_MAX}
use Rattle.stream_base.specs.Model.Text.{report_1, report_of}
use Rattle.live_board.specs.Tallies.{turns}
use Rattle.live_board.specs.Watched.{AreReadsOf, IsWatched, entries_in}
use Rattle.live_board.specs.declared.tally.Tally.{Tally}
use Rattle.live_board.specs.declared.watched.Watched.{Watched}
use Rattle.board_text.specs.Reads.{reads_text}
use Rattle.scotty_run.specs.Answer.{IsJobAnswer}
use Rattle.run_inputs.specs.Causes.{AreAllRead, AreDefinitionsRead, StopsAtJob}
use Rattle.command_words.specs.Jobs.{job_of_watch}
use Rattle.run_inputs.specs.Outside.{Opens, behind}
use Rattle.command_words.specs.Words.{Watch}
use Rattle.run_inputs.specs.declared.status.Status.{Status}
use Rattle.emission_text.specs.Report.{report_text}
use Rattle.emission_text.specs.declared.fault.Fault.{Fault}
use Rattle.emission_text.specs.declared.fault.Fault.TheVariants.{FullShard, NoMemory}

-- the text is the report of one journal, which has the entries of all sources, taken in turn, and then the lines of reads, so many lists of them; each list has so many reads and one, tallies of the journal's first entries, of which none counts less than the one before it, and the last counts all
pub record IsBoardOf (w : Watch) (d : Definitions) (sources : List (List Entry)) (text : List ℕ) : Type 0 where
  pub lists : List (List Tally)
  pub one_each : length lists ≡ w.readers
  pub reads_are : All (AreReadsOf d (length sources) (turns sources) w.reads) lists
  pub text_is : text ≡ report_of report_1 d (length sources) (turns sources ∷ []) ++ reads_text (length d.windows) lists

-- what was watched of these entries: they are no more than a journal holds, and stand in turn in the shard, of which readers have their reads
pub record IsWatchedOf (readers reads : ℕ) (d : Definitions) (all : List (List Entry)) (watched : Watched) : Type 0 where
  pub few : entries_in all ≤ JOURNAL_MAX
  pub is_watched : IsWatched d all readers reads watched.shard (map (λ v. v.items) watched.reads.items)

-- the entries of all sources are more than a journal holds, which is the fault of the one shard; or memory ran out
abbrev pub IsFullBoard : List (List Entry) → Fault → Type 0
IsFullBoard all fault = ((fault ≡ FullShard 0) × (JOURNAL_MAX < entries_in all)) ⊎ (fault ≡ NoMemory)

-- what was watched of sources of these words: all were read whole, and none is refused
pub record IsWatchedIn (w : Watch) (d : Definitions) (opens : Opens) (watched : Watched) : Type 0 where
  pub all : List (List Entry)
  pub sources : AreAllRead w.sources d opens all
  pub watched_of : IsWatchedOf w.readers w.reads d all watched

-- what was watched of the files of these words
pub record IsWatchedOfFiles (w : Watch) (opens : Opens) (watched : Watched) : Type 0 where
  pub d : Definitions
  pub definitions : AreDefinitionsRead opens d
  pub in_sources : IsWatchedIn w d (behind (w.defs ∷ []) opens) watched

-- the report of the shard of what was watched, and then the lines of its reads
abbrev pub watched_text : Watched → List ℕ
watched_text watched =
    report_text report_1 (watched.shard ∷ [])
    ++ reads_text (length watched.shard.defs.windows) (map (λ v. v.items) watched.reads.items)

-- why the files of a live board stop it
abbrev pub StopsAtWatch : Watch → Opens → Fault → Type 0
StopsAtWatch w opens fault = StopsAtJob (job_of_watch w) opens fault

module _ {K : Type 0} (taken : K → List ℕ) (faults : K → ℕ) where
  -- the answer to a live board: its text by what its files gave, or a fault as a run of one shard has it
  abbrev pub IsWatchAnswer : Watch → Opens → K → K → Status → Type 0
  IsWatchAnswer w opens old new status = IsJobAnswer taken faults (job_of_watch w) (IsBoardOf w) opens old new status
