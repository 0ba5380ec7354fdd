-- A range is at most all pairs, and each takes one step.
use Rattle.std.proofs.Common.{◌≤◌, ◌+◌, length, arith}
use Rattle.agg_laws.specs.Pairs.{within}
use Rattle.pair_row.proofs.Places.{length-within}
use Rattle.pair_row.proofs.pair_row.PairRow.fold_onto.Goals as goal

pub returns-clause-work : goal.returns-clause-work
returns-clause-work g c =
    let pairs = c.args.self.now.pairs in
    let one_each : c.fold_pairs.new.steps ≤ c.args.steps.now + length (within c.args.low c.args.high pairs) = grind arith in
    record { cost = omega (arith, one_each, length-within c.args.low c.args.high pairs); one_each = one_each }
