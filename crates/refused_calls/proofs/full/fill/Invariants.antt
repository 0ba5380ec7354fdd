-- The shard has the sources that it had.
use Rattle.std.proofs.Common.{◌≡◌}
use Rattle.refused_calls.proofs.full.fill.Given as goal

abbrev pub invariant-loop-number : goal.invariant-loop-number
invariant-loop-number l = (l.shard).sources ≡ (l.initial.shard).sources
