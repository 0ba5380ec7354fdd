-- Journals that are read from a text.
use Rattle.std.specs.Prelude.{◌≤◌, List, length}
use Rattle.stream_base.specs.declared.entry.Entry.{Entry}
use Rattle.stream_base.specs.declared.limits.TheConstants.{TIME_MAX}
use Rattle.stream_base.specs.Model.Journals.{AreEntriesWithin}

-- a journal's entries are within their limits, and no more than there are times
pub record IsReadable (journal : List Entry) : Type 0 where
  pub within : AreEntriesWithin journal
  pub few : length journal ≤ TIME_MAX
