-- The start of the last interval is a time.
use Rattle.std.proofs.Common.{◌+◌, ◌-◌, arith}
use Rattle.time_lanes.proofs.ToldFacts.{at_most_times}
use Rattle.time_lanes.proofs.folds.may_share.Goals as goal

pub overflow_add-last : goal.overflow_add-last
overflow_add-last g c =
    omega (arith, c.requires.early (c.args.complete.count - 1) (omega arith), at_most_times (c.args.complete.first + (c.args.complete.count - 1)) c.args.span.now.slide c.args.span.now.within.moves)
