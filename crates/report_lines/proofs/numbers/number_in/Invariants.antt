-- The number of the digits so far, up to the greatest of 64 bits.
use Rattle.std.proofs.Common.{◌≡◌, min, take}
use Rattle.stream_base.specs.Model.Journals.{number_in}
use Rattle.report_lines.proofs.numbers.number_in.Given as goal

abbrev pub invariant-loop-digit : goal.invariant-loop-digit
invariant-loop-digit l = l.number ≡ min (number_in (take l.digit-index l.digits)) 18446744073709551615
