-- The number of the digits so far, up to the greatest of 128 bits.
use Rattle.std.proofs.Common.{◌≡◌, min, take}
use Rattle.stream_base.specs.Model.Journals.{number_in}
use Rattle.report_rows.proofs.numbers.wide_in.Given as goal

abbrev pub invariant-loop-digit : goal.invariant-loop-digit
invariant-loop-digit l = l.number ≡ min (number_in (take l.digit-index l.digits)) 340282366920938463463374607431768211455
