-- What the cells of a journal tell.
use Rattle.std.specs.Prelude.{◌≡◌, ◌<◌, ℕ, List, [], slice_index_or, length}
use Rattle.stream_base.specs.declared.entry.Entry.{Entry}
use Rattle.stream_base.specs.declared.what.What.TheVariants.{Tuple, Mark, Water, Idle, End}
use Rattle.compact_log.specs.declared.entry_cell.EntryCell.{EntryCell}
use Rattle.compact_log.specs.declared.entry_kind.EntryKind.{EntryKind}
use Rattle.compact_log.specs.declared.entry_kind.EntryKind.TheVariants.{Tuple as IsTuple, Mark as IsMark, Water as IsWater, Idle as IsIdle, End as IsEnd, Whole as IsWhole}

-- the entry that a cell of this kind tells, with the key at its place and the entry that is stored whole under its number
abbrev pub entry_told : EntryKind → EntryCell → List ℕ → Entry → Entry
entry_told IsTuple cell key entry = record { source = cell.source; what = Tuple key cell.time cell.value }
entry_told IsMark cell key entry = record { source = cell.source; what = Mark key cell.time }
entry_told IsWater cell key entry = record { source = cell.source; what = Water cell.time }
entry_told IsIdle cell key entry = record { source = cell.source; what = Idle }
entry_told IsEnd cell key entry = record { source = cell.source; what = End }
entry_told IsWhole cell key entry = entry

-- what a cell of kind `Whole` would tell whose number stands for no entry; no log has one
abbrev pub no_entry : Entry
no_entry = record { source = 0; what = Idle }

-- the entry that a cell tells, under the keys and the entries that are stored whole
abbrev pub entry_of : List (List ℕ) → List Entry → EntryCell → Entry
entry_of keys whole cell =
    entry_told cell.kind cell (slice_index_or keys cell.place []) (slice_index_or whole cell.time no_entry)

-- among so many keys and entries that are stored whole there are those of which a cell of this kind tells
abbrev pub IsKindHeld : EntryKind → ℕ → ℕ → EntryCell → Type 0
IsKindHeld IsTuple keys whole cell = cell.place < keys
IsKindHeld IsMark keys whole cell = cell.place < keys
IsKindHeld IsWater keys whole cell = Unit {0}
IsKindHeld IsIdle keys whole cell = Unit {0}
IsKindHeld IsEnd keys whole cell = Unit {0}
IsKindHeld IsWhole keys whole cell = cell.time < whole

-- the same, by the kind that the cell has
abbrev pub IsEntryHeld : ℕ → ℕ → EntryCell → Type 0
IsEntryHeld keys whole cell = IsKindHeld cell.kind keys whole cell

-- a cell tells an entry by these keys alone
pub record IsCellOf (entry : Entry) (keys : List (List ℕ)) (cell : EntryCell) : Type 0 where
  pub told : (whole : List Entry) → entry_of keys whole cell ≡ entry
  pub held : (n : ℕ) → IsEntryHeld (length keys) n cell
