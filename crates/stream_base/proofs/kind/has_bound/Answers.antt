-- Behind the offset the remainder tells whether a bound lies between the two times.
use Rattle.std.proofs.Common.{arith}
use Rattle.stream_base.proofs.Remainders.{remainder_tells}
use Rattle.stream_base.proofs.kind.has_bound.Goals as goal

pub returns-else-low-offset : goal.returns-else-low-offset
returns-else-low-offset c =
    remainder_tells c.args.offset c.args.slide c.args.low c.args.high c.requires.slide (omega (arith, c.if-low-offset.false)) (omega (arith, c.if-high-offset.false))
