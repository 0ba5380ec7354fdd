use Rattle.std.specs.Prelude.{◌≡◌}
use Rattle.engine_tests.proofs.settled.counts_slices.Given as goal

-- the shard is of one source
abbrev pub invariant-entries : goal.invariant-entries
invariant-entries g l = l.shard.sources ≡ 1
