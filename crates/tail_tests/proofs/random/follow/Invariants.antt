-- The follower keeps the number of its sources.
use Rattle.std.specs.Prelude.{◌≡◌}
use Rattle.tail_windows.specs.Following.{number_of_sources}
use Rattle.tail_tests.proofs.random.follow.Given as goal

abbrev pub invariant-loop-number : goal.invariant-loop-number
invariant-loop-number g l = number_of_sources l.tails ≡ 2
