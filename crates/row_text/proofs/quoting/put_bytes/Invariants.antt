-- The bytes so far, with those that are left, are all.
use Rattle.std.proofs.Common.{◌≡◌, ◌++◌, drop}
use Rattle.std.specs.List.{flat_map}
use Rattle.row_text.specs.Lines.{json_byte}
use Rattle.row_text.proofs.quoting.put_bytes.Given as goal

abbrev pub invariant-loop-byte : goal.invariant-loop-byte
invariant-loop-byte l = l.out.items ++ flat_map json_byte (drop l.byte-index l.bytes) ≡ l.fn.out.items ++ flat_map json_byte l.bytes
