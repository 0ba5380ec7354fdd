-- The words of a run of tails.
use Rattle.std.specs.Prelude.{◌≡◌, ◌≤◌, ℕ, List, [], ◌∷◌, length, All, codes, decimal}
use Rattle.stream_base.specs.Limits.{Definitions, definitions_of}
use Rattle.stream_base.specs.declared.kind.Kind.TheVariants.{Tumbling}
use Rattle.tail_windows.specs.declared.def.TailDef.{TailDef}
use Rattle.command_words.specs.Jobs.{Job, of_words}
use Rattle.command_words.specs.Words.{AreFew, IsName}
use Rattle.window_defs.specs.Windows.{func_word}

-- a run of tails: how many tuples are selected at each multiple of which period, what is shown of them, the allowed lateness, how many shards, and the names of the sources
pub record LastRun : Type 0 where
  pub tail : TailDef
  pub lateness : ℕ
  pub shards : ℕ
  pub sources : List (List ℕ)

-- the run of these
abbrev pub last_of : TailDef → ℕ → ℕ → List (List ℕ) → LastRun
last_of tail lateness shards sources =
    record { tail = tail; lateness = lateness; shards = shards; sources = sources }

-- how it is spelled
abbrev pub last_words_of : LastRun → List (List ℕ)
last_words_of l =
    codes "last" ∷ decimal l.tail.count ∷ decimal l.tail.period ∷ func_word l.tail.func
    ∷ decimal l.lateness ∷ decimal l.shards ∷ l.sources

-- 1 to 4,194,304 tuples, a period of 1 to 10^15, a lateness of 0 to 10^15
pub record AreTailNumbers (tail : TailDef) (lateness : ℕ) : Type 0 where
  pub some_tuples : 1 ≤ tail.count
  pub few_tuples : tail.count ≤ 4194304
  pub some_time : 1 ≤ tail.period
  pub short : tail.period ≤ 1000000000000000
  pub short_lateness : lateness ≤ 1000000000000000

-- three words tell this window of the last tuples
pub record IsTailOf (count period func : List ℕ) (tail : TailDef) : Type 0 where
  pub count_is : count ≡ decimal tail.count
  pub period_is : period ≡ decimal tail.period
  pub func_is : func ≡ func_word tail.func
  pub some_tuples : 1 ≤ tail.count
  pub few_tuples : tail.count ≤ 4194304
  pub some_time : 1 ≤ tail.period
  pub short : tail.period ≤ 1000000000000000

-- three words tell some window of the last tuples
abbrev pub IsTail : List ℕ → List ℕ → List ℕ → Type 0
IsTail count period func = (tail : TailDef) × IsTailOf count period func tail

-- its numbers are within their limits, and there are 1 to 16 shards and sources
pub record IsLastWithin (l : LastRun) : Type 0 where
  pub numbers : AreTailNumbers l.tail l.lateness
  pub few : AreFew (length l.sources) l.shards

-- the words are those of this run of tails: names are nonempty, and all numbers are within their limits
pub record IsLastOf (words : List (List ℕ)) (l : LastRun) : Type 0 where
  pub spelled : words ≡ last_words_of l
  pub within : IsLastWithin l
  pub source_names : All IsName l.sources

-- the words are those of a run of tails
abbrev pub IsLast : List (List ℕ) → Type 0
IsLast words = (l : LastRun) × IsLastOf words l

-- its definitions, by which sources are read and shards take entries: one tumbling window of that period and function, that lateness, and no watermarks of the sources' own making
abbrev pub last_definitions : LastRun → Definitions
last_definitions l =
    definitions_of (record { kind = Tumbling l.tail.period; func = l.tail.func } ∷ []) l.lateness 0 0

-- what it takes in
abbrev pub job_of_last : LastRun → Job
job_of_last l = record { defs = of_words (last_definitions l); sources = l.sources; shards = l.shards }
