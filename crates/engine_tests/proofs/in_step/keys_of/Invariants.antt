-- There are as many keys as numbers so far.
use Rattle.std.proofs.Common.{◌≡◌, length}
use Rattle.engine_tests.proofs.in_step.keys_of.Given as goal

abbrev pub invariant-loop-number : goal.invariant-loop-number
invariant-loop-number l = length l.keys.items ≡ l.number
