-- The follower keeps the number of its sources.
use Rattle.std.specs.Prelude.{◌≡◌}
use Rattle.tail_windows.specs.Following.{number_of_sources}
use Rattle.tail_tests.proofs.rows.follow.Given as goal

abbrev pub invariant-loop-k : goal.invariant-loop-k
invariant-loop-k g l = number_of_sources l.tails ≡ 1
