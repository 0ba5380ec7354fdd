-- A time is a watermark.
use Rattle.std.proofs.Common.{arith, inl}
use Rattle.key_tests.proofs.keys.due.Goals as goal

pub next_due-requires : goal.next_due-requires
next_due-requires g c = record { stands = c.requires; is_water = inl (omega (arith, c.ranges.water.fits)) }
