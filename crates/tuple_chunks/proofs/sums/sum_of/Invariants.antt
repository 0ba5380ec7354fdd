-- The sum of the tuples so far, each but the first of which took a step.
use Rattle.std.proofs.Common.{◌≤◌, ◌+◌, ◌-◌, take}
use Rattle.tuple_chunks.specs.Sums.{IsSum}
use Rattle.tuple_chunks.proofs.sums.sum_of.Given as goal

abbrev pub invariant-loop-x : goal.invariant-loop-x
invariant-loop-x g l = record {
  sum : IsSum l.sum (take l.x-index l.tuples);
  cost : l.steps ≤ l.initial.steps + (l.x-index - 1);
}
