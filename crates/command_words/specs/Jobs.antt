-- What a command takes in, whatever it makes of it.
use Rattle.std.specs.Prelude.{ℕ, List, [], ◌∷◌}
use Rattle.stream_base.specs.Limits.{Definitions}
use Rattle.command_words.specs.Words.{Run, Watch}

-- where definitions come from: the file of this name, or the words of the command
pub data DefsOrigin : Type 0 where
  of_file : List ℕ → DefsOrigin
  of_words : Definitions → DefsOrigin

-- a command that reads sources: where its definitions come from, the names of its sources, and how many shards take their entries
pub record Job : Type 0 where
  pub defs : DefsOrigin
  pub sources : List (List ℕ)
  pub shards : ℕ

-- the files that are opened before the sources
abbrev pub files_of_defs : DefsOrigin → List (List ℕ)
files_of_defs (of_file name) = name ∷ []
files_of_defs (of_words told) = []

-- a run, by what it takes in
abbrev pub job_of_run : Run → Job
job_of_run run = record { defs = of_file run.defs; sources = run.sources; shards = run.shards }

-- a live board, by what it takes in: all entries go to one shard
abbrev pub job_of_watch : Watch → Job
job_of_watch w = record { defs = of_file w.defs; sources = w.sources; shards = 1 }
