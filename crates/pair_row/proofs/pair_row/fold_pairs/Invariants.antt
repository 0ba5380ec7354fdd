-- The sum so far is that of the pairs so far behind the first sum, and each took one step.
use Rattle.std.proofs.Common.{◌≡◌, ◌≤◌, ◌+◌, take}
use Rattle.std.specs.Prelude.{fold}
use Rattle.agg_laws.specs.Pairs.{values_of}
use Rattle.pair_row.proofs.pair_row.fold_pairs.Given as goal

abbrev pub invariant-loop-pair : goal.invariant-loop-pair
invariant-loop-pair g l =
    (l.sum ≡ fold g.M.Monoid.op l.initial.sum (values_of (take l.pair-index l.pairs))) × (l.steps ≤ l.initial.steps + l.pair-index)
