-- The last tuples are searched where they begin at or before the time, and else those before them.
use Rattle.std.proofs.Common.{arith}
use Rattle.count_shift.proofs.Upper.{upper_of_far, upper_of_near}
use Rattle.count_shift.proofs.ranks.upper.Goals as goal

pub returns-then-starts_by-clause-value : goal.returns-then-starts_by-clause-value
returns-then-starts_by-clause-value c =
    upper_of_near c.args.items.now c.split_at.result.1.now c.args.time c.saturating_sub-far.result c.upper_by_halves.result c.requires c.split_at.ensures.back (c.starts_by.ensures.yes c.if-starts_by.true) c.upper_by_halves.ensures.value

pub returns-else-starts_by-clause-value : goal.returns-else-starts_by-clause-value
returns-else-starts_by-clause-value c =
    upper_of_far c.args.items.now c.split_at.result.0.now c.split_at.result.1.now c.args.time c.saturating_sub-far.result c.upper_by_halves-else-starts_by.result c.requires (omega (arith, c.saturating_sub-far.ensures)) c.split_at.ensures.front c.split_at.ensures.back (c.starts_by.ensures.no c.if-starts_by.false) c.upper_by_halves-else-starts_by.ensures.value
