-- The bytes that were taken, and those that are left, are all.
use Rattle.std.proofs.Common.{◌≡◌, ◌++◌, drop}
use Rattle.report_rows.proofs.text.TextReader.take.Given as goal

abbrev pub invariant-loop-byte : goal.invariant-loop-byte
invariant-loop-byte l = l.self ++ drop l.byte-index l.bytes ≡ l.fn.self ++ l.bytes
