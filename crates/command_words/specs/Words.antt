-- The words of the command line.
use Rattle.source_feed.specs.declared.made_feed.TheConstants.{MADE_ROWS_MAX}
use Rattle.report_lines.specs.declared.report_form.ReportForm.{ReportForm}
use Rattle.report_lines.specs.declared.report_form.ReportForm.TheVariants.{One, Two}
use Rattle.command_words.specs.declared.way.Way.{Way}
use Rattle.command_words.specs.declared.way.Way.TheVariants.{Turns, Mail}
use Rattle.std.specs.Prelude.{◌≡◌, ◌≤◌, ◌<◌, ◌^◌, ◌⊎◌, ℕ, List, [], ◌∷◌, length, All, codes, decimal}

-- the word for how feeds hand on their entries
abbrev pub way_word : Way → List ℕ
way_word Turns = codes "turns"
way_word Mail = codes "mail"

-- the word of a way
abbrev pub IsWay : List ℕ → Type 0
IsWay word = (way : Way) × (word ≡ way_word way)

-- a name is any nonempty word
abbrev pub IsName : List ℕ → Type 0
IsName word = 0 < length word

-- the decimal text, with no sign and no leading zero, of a number from `least` to `most`
pub record IsNumberWithin (least most : ℕ) (word : List ℕ) : Type 0 where
  pub number : ℕ
  pub at_least : least ≤ number
  pub at_most : number ≤ most
  pub spelled : word ≡ decimal number

-- 1 to 16 names
abbrev pub AreSources : List (List ℕ) → Type 0
AreSources sources = (1 ≤ length sources) × (length sources ≤ 16) × All IsName sources

-- the first word of a run, by the form of its report
abbrev pub run_word : ReportForm → List ℕ
run_word One = codes "run"
run_word Two = codes "run2"

-- the first word of a run in some form
abbrev pub IsRunWord : List ℕ → Type 0
IsRunWord word = (form : ReportForm) × (word ≡ run_word form)

-- 1 to 16 sources and shards
pub record AreFew (sources shards : ℕ) : Type 0 where
  pub some_sources : 1 ≤ sources
  pub few_sources : sources ≤ 16
  pub some_shards : 1 ≤ shards
  pub few_shards : shards ≤ 16

-- a run: the form of its report, the name of its definitions, how many shards, how feeds hand on, and the names of its sources
pub record Run : Type 0 where
  pub form : ReportForm
  pub defs : List ℕ
  pub shards : ℕ
  pub way : Way
  pub sources : List (List ℕ)

-- how a run is spelled
abbrev pub words_of : Run → List (List ℕ)
words_of run = run_word run.form ∷ run.defs ∷ decimal run.shards ∷ way_word run.way ∷ run.sources

-- the words are those of this run: names are nonempty, and there are 1 to 16 shards and sources
pub record IsRunOf (words : List (List ℕ)) (run : Run) : Type 0 where
  pub spelled : words ≡ words_of run
  pub defs_name : IsName run.defs
  pub some_shards : 1 ≤ run.shards
  pub few_shards : run.shards ≤ 16
  pub some_sources : 1 ≤ length run.sources
  pub few_sources : length run.sources ≤ 16
  pub source_names : All IsName run.sources

-- the words are those of a run
abbrev pub IsRun : List (List ℕ) → Type 0
IsRun words = (run : Run) × IsRunOf words run

-- a made run: its seed, how many tuples, sources and shards there are, and how feeds hand on
pub record Made : Type 0 where
  pub seed : ℕ
  pub rows : ℕ
  pub sources : ℕ
  pub shards : ℕ
  pub way : Way

-- how a made run is spelled
abbrev pub made_words_of : Made → List (List ℕ)
made_words_of m = codes "made" ∷ decimal m.seed ∷ decimal m.rows ∷ decimal m.sources ∷ decimal m.shards ∷ way_word m.way ∷ []

-- 1 to 1,000,000 tuples, and 1 to 16 sources and shards
pub record IsWithinLimits (m : Made) : Type 0 where
  pub some_rows : 1 ≤ m.rows
  pub few_rows : m.rows ≤ MADE_ROWS_MAX
  pub few : AreFew m.sources m.shards

-- the words are those of this made run: the seed has 64 bits, and there are 1 to 1,000,000 tuples and 1 to 16 sources and shards
pub record IsMadeOf (words : List (List ℕ)) (m : Made) : Type 0 where
  pub spelled : words ≡ made_words_of m
  pub seed_fits : m.seed < 2 ^ 64
  pub some_rows : 1 ≤ m.rows
  pub few_rows : m.rows ≤ 1000000
  pub some_sources : 1 ≤ m.sources
  pub few_sources : m.sources ≤ 16
  pub some_shards : 1 ≤ m.shards
  pub few_shards : m.shards ≤ 16

-- the words are those of a made run
abbrev pub IsMade : List (List ℕ) → Type 0
IsMade words = (m : Made) × IsMadeOf words m

-- a check of a report: the name of the definitions, how many shards, the name of the report, and the names of the sources
pub record Check : Type 0 where
  pub defs : List ℕ
  pub shards : ℕ
  pub report : List ℕ
  pub sources : List (List ℕ)

-- how a check is spelled
abbrev pub check_words_of : Check → List (List ℕ)
check_words_of c = codes "check" ∷ c.defs ∷ decimal c.shards ∷ c.report ∷ c.sources

-- the words are those of this check: names are nonempty, and there are 1 to 16 shards and sources
pub record IsCheckOf (words : List (List ℕ)) (c : Check) : Type 0 where
  pub spelled : words ≡ check_words_of c
  pub defs_name : IsName c.defs
  pub some_shards : 1 ≤ c.shards
  pub few_shards : c.shards ≤ 16
  pub report_name : IsName c.report
  pub some_sources : 1 ≤ length c.sources
  pub few_sources : length c.sources ≤ 16
  pub source_names : All IsName c.sources

-- the words are those of a check
abbrev pub IsCheck : List (List ℕ) → Type 0
IsCheck words = (c : Check) × IsCheckOf words c

-- a live board: the name of the definitions, how many readers there are, how often each reads, and the names of the sources
pub record Watch : Type 0 where
  pub defs : List ℕ
  pub readers : ℕ
  pub reads : ℕ
  pub sources : List (List ℕ)

-- how a live board is spelled
abbrev pub watch_words_of : Watch → List (List ℕ)
watch_words_of w = codes "watch" ∷ w.defs ∷ decimal w.readers ∷ decimal w.reads ∷ w.sources

-- 1 to 16 sources, 1 to 8 readers, and 0 to 1,000 reads of each
pub record AreWatched (sources readers reads : ℕ) : Type 0 where
  pub some_sources : 1 ≤ sources
  pub few_sources : sources ≤ 16
  pub some_readers : 1 ≤ readers
  pub few_readers : readers ≤ 8
  pub few_reads : reads ≤ 1000

-- the words are those of this live board: names are nonempty, and there are 1 to 8 readers, 0 to 1,000 reads and 1 to 16 sources
pub record IsWatchOf (words : List (List ℕ)) (w : Watch) : Type 0 where
  pub spelled : words ≡ watch_words_of w
  pub defs_name : IsName w.defs
  pub some_readers : 1 ≤ w.readers
  pub few_readers : w.readers ≤ 8
  pub few_reads : w.reads ≤ 1000
  pub some_sources : 1 ≤ length w.sources
  pub few_sources : length w.sources ≤ 16
  pub source_names : All IsName w.sources

-- the words are those of a live board
abbrev pub IsWatch : List (List ℕ) → Type 0
IsWatch words = (w : Watch) × IsWatchOf words w

-- the run of these definitions, shards and sources
abbrev pub run_of : ReportForm → List ℕ → ℕ → Way → List (List ℕ) → Run
run_of form defs shards way sources =
    record { form = form; defs = defs; shards = shards; way = way; sources = sources }

-- the check of these definitions, shards, report and sources
abbrev pub check_of : List ℕ → ℕ → List ℕ → List (List ℕ) → Check
check_of defs shards report sources =
    record { defs = defs; shards = shards; report = report; sources = sources }

-- the made run of this seed
abbrev pub made_of : ℕ → ℕ → ℕ → ℕ → Way → Made
made_of seed rows sources shards way =
    record { seed = seed; rows = rows; sources = sources; shards = shards; way = way }

-- the live board of these definitions, readers, reads and sources
abbrev pub watch_of : List ℕ → ℕ → ℕ → List (List ℕ) → Watch
watch_of defs readers reads sources =
    record { defs = defs; readers = readers; reads = reads; sources = sources }
