-- The entries that a log holds.
use Rattle.std.specs.Prelude.{◌++◌, List, [], ◌∷◌, Option, None, Some, Result, Ok, Err}
use Rattle.stream_base.specs.declared.entry.Entry.{Entry}
use Rattle.source_feed.specs.declared.entry_log.EntryLog.{EntryLog}
use Rattle.source_feed.specs.declared.entry_log.EntryLog.TheVariants.{Start, After'}

-- the entries, oldest first
abbrev pub entries_in : EntryLog → List Entry
entries_in Start = []
entries_in (After' m before entry) = entries_in before ++ entry.value ∷ []

-- the entry that a call of `next` gave, if it gave one
abbrev pub entries_of : {E : Type 0} → Result (Option Entry) E → List Entry
entries_of (Ok (Some entry)) = entry ∷ []
entries_of (Ok None) = []
entries_of (Err fault) = []
