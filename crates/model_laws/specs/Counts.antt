-- How many rows of a window stand, and how many come and go.
use Rattle.std.specs.Prelude.{◌==◌, ℕ, Bool, false, List, filter, length}
use Rattle.stream_base.specs.Limits.{Definitions}
use Rattle.stream_base.specs.declared.change.Change.{Change}
use Rattle.stream_base.specs.declared.change.Change.TheVariants.{Gone, New, Again, Dropped}
use Rattle.stream_base.specs.declared.entry.Entry.{Entry}
use Rattle.stream_base.specs.Model.Changes.{standing_rows}
use Rattle.stream_base.specs.Model.Final.{rows_of_window}

-- how many rows of a window stand after a journal
unfoldable pub standing_count : Definitions → ℕ → List Entry → ℕ → ℕ
standing_count d sources journal window = length (rows_of_window window (standing_rows d sources journal))

-- the change is the emission of a row of this window
abbrev pub is_new_in : ℕ → Change → Bool
is_new_in window (New row) = row.window == window
is_new_in window (Gone row) = false
is_new_in window (Again row former) = false
is_new_in window Dropped = false

-- the change is the retraction of a row of this window
abbrev pub is_gone_in : ℕ → Change → Bool
is_gone_in window (New row) = false
is_gone_in window (Gone row) = row.window == window
is_gone_in window (Again row former) = false
is_gone_in window Dropped = false

-- how many rows of a window changes emit
abbrev pub emitted_in : ℕ → List Change → ℕ
emitted_in window changes = length (filter (is_new_in window) changes)

-- and how many they retract
abbrev pub retracted_in : ℕ → List Change → ℕ
retracted_in window changes = length (filter (is_gone_in window) changes)
