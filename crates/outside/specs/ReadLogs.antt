-- What a log of reads holds.
use Rattle.std.specs.Prelude.{length}
use Rattle.outside.specs.Outside.{Reads}
use Rattle.outside.specs.NameLogs.{names_in}
use Rattle.outside.specs.declared.read_log.ReadLog.{ReadLog}

-- what was read of a source
abbrev pub reads_of : ReadLog → Reads
reads_of log = record {
  place = length (names_in log.before.value);
  given = log.given.bytes;
  ended = log.ended;
  faults = log.faults;
}
