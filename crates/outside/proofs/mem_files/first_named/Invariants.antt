-- None of the files so far has the name.
use Rattle.std.proofs.Common.{◌≡◌, map, drop}
use Rattle.std.specs.List.{find}
use Rattle.outside.specs.Memory.{is_named}
use Rattle.outside.specs.MemFile.{filed}
use Rattle.outside.proofs.mem_files.first_named.Given as goal

abbrev pub invariant-loop-file : goal.invariant-loop-file
invariant-loop-file l = find (is_named l.name) (map filed (drop l.file-index l.files)) ≡ find (is_named l.name) (map filed l.files)
