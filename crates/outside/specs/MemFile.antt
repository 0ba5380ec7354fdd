-- A file in memory as contracts see it.
use Rattle.std.specs.Prelude.{string_bytes}
use Rattle.outside.specs.Memory.{MemFileState}
use Rattle.outside.specs.declared.mem_file.MemFile.{MemFile}

abbrev pub filed : MemFile → MemFileState
filed file = record { name = string_bytes file.name; bytes = file.bytes.items; failing = file.failing.items; refuse = file.refuse }
