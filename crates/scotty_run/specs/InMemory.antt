-- A report, by the bytes that files tell, where they tell them, as those in memory do.
use Rattle.std.specs.Prelude.{◌≡◌, ◌<◌, ℕ, List, [], length, None, Some, Ok, slice_index_or}
use Rattle.stream_base.specs.Limits.{Definitions}
use Rattle.stream_base.specs.declared.entry.Entry.{Entry}
use Rattle.source_feed.specs.FeedView.{given_then}
use Rattle.window_defs.specs.Reading.{reading_of}
use Rattle.scotty_run.specs.Answer.{IsReportOf}
use Rattle.run_inputs.specs.Causes.{stream_at}
use Rattle.run_inputs.specs.Outside.{Telling}
use Rattle.command_words.specs.Words.{Run}

-- the file of this name tells these bytes, and this holds of them
abbrev pub Tells : Telling → List ℕ → (List ℕ → Type 0) → Type 0
Tells told name P = (bytes : List ℕ) × (told name ≡ Some bytes) × P bytes

-- the files of these names tell their bytes
abbrev pub AllTell : Telling → List (List ℕ) → Type 0
AllTell told names = (i : ℕ) → i < length names → Tells told (slice_index_or names i []) (λ bytes. Unit {0})

-- the text is a report of the told bytes: those of the definitions spell these, those of each source spell its entries and no refusal, and the journals in the text are lawful for them
pub record IsReportOfTold (told : Telling) (run : Run) (text : List ℕ) : Type 0 where
  pub d : Definitions
  pub definitions : Tells told run.defs (λ bytes. reading_of bytes ≡ Ok d)
  pub all : List (List Entry)
  pub many : length all ≡ length run.sources
  pub sources : (i : ℕ) → i < length run.sources → Tells told (slice_index_or run.sources i []) (λ bytes. stream_at d i bytes ≡ given_then (slice_index_or all i []) None)
  pub report : IsReportOf run d all text
