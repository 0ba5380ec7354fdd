-- The entries that a log holds.
use Rattle.std.specs.Prelude.{◌++◌, List, [], ◌∷◌}
use Rattle.stream_base.specs.declared.entry.Entry.{Entry}
use Rattle.report_rows.specs.declared.entry_log.EntryLog.{EntryLog}
use Rattle.report_rows.specs.declared.entry_log.EntryLog.TheVariants.{Start, After'}

-- the entries, oldest first
abbrev pub entries_in : EntryLog → List Entry
entries_in Start = []
entries_in (After' m before entry) = entries_in before ++ entry.value ∷ []
