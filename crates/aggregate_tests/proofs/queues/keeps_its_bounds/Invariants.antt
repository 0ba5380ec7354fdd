-- There is room for all that are still to be pushed.
use Rattle.std.proofs.Common.{◌≤◌, ◌+◌}
use Rattle.aggregate_tests.proofs.queues.keeps_its_bounds.Given as goal

abbrev pub invariant-loop-call : goal.invariant-loop-call
invariant-loop-call g l = 10000 ≤ l.queue.spare + l.pushed
