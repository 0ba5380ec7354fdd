-- A run of tails of the files of its words: what is written, and the answer.
use Rattle.std.specs.Prelude.{◌≡◌, ◌<◌, ℕ, List, length, map, All}
use Rattle.stream_base.specs.Limits.{Definitions}
use Rattle.stream_base.specs.declared.entry.Entry.{Entry}
use Rattle.stream_base.specs.Model.Journals.{journals_of}
use Rattle.stream_base.specs.Model.Routes.{IsLawful}
use Rattle.shard_core.specs.Shard.{Sharded}
use Rattle.tail_windows.specs.Report.{tail_report_of}
use Rattle.tail_text.specs.Texts.{ByPosition, in_vectors, tail_changes_in, tails_text}
use Rattle.emission_text.specs.declared.fault.Fault.{Fault}
use Rattle.scotty_run.specs.Answer.{IsJobAnswer}
use Rattle.run_inputs.specs.Causes.{AreShardsOf, StopsAtJob}
use Rattle.command_words.specs.LastWords.{LastRun, job_of_last, last_definitions}
use Rattle.run_inputs.specs.Outside.{Opens}
use Rattle.run_inputs.specs.declared.status.Status.{Status}
use Rattle.scotty_run.specs.declared.tailed.Tailed.{Tailed}

-- the text is the report of tails of the journals that stand in it, and these hold each source's entries where they belong, once each and in the source's order
pub record IsTailReportOf (l : LastRun) (d : Definitions) (sources : List (List Entry)) (text : List ℕ) : Type 0 where
  pub report_is : text ≡ tail_report_of l.tail l.lateness (length l.sources) (journals_of text)
  pub lawful : IsLawful l.shards sources (journals_of text)

-- the shards of the files that a run of tails names
abbrev pub AreShardsOfLast : LastRun → Opens → List Sharded → Type 0
AreShardsOfLast l opens shards = AreShardsOf l.sources l.shards (last_definitions l) opens shards

-- the changes for each position of each shard's journal
abbrev pub AreTailsOf : LastRun → List Sharded → List ByPosition → Type 0
AreTailsOf l shards tails =
    tails ≡ map (λ s. tail_changes_in l.tail l.lateness (length l.sources) s.journal) shards

-- each entry of these shards is of one of so many sources
abbrev pub AreOfSources : ℕ → List Sharded → Type 0
AreOfSources sources shards = All (λ s. All (λ e. e.source < sources) s.journal) shards

-- these shards, and the changes for each position of their journals
pub record HasTails (l : LastRun) (shards : List Sharded) (t : Tailed) : Type 0 where
  pub same : t.shards.items ≡ shards
  pub tails : AreTailsOf l t.shards.items (in_vectors t.tails.items)

-- what a run of tails of these files came to: its shards, and the changes for each position of their journals
pub record IsTailedOf (l : LastRun) (opens : Opens) (t : Tailed) : Type 0 where
  pub shards : AreShardsOfLast l opens t.shards.items
  pub tails : AreTailsOf l t.shards.items (in_vectors t.tails.items)

-- its text
abbrev pub tailed_text : Tailed → List ℕ
tailed_text t = tails_text (map (λ s. s.journal) t.shards.items) (in_vectors t.tails.items)

-- why the files of a run of tails stop it
abbrev pub StopsAtLast : LastRun → Opens → Fault → Type 0
StopsAtLast l opens fault = StopsAtJob (job_of_last l) opens fault

module _ {K : Type 0} (taken : K → List ℕ) (faults : K → ℕ) where
  -- the answer to a run of tails: their report by what its files gave, or a fault as a run has it
  abbrev pub IsLastAnswer : LastRun → Opens → K → K → Status → Type 0
  IsLastAnswer l opens old new status = IsJobAnswer taken faults (job_of_last l) (IsTailReportOf l) opens old new status
