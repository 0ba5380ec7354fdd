use Rattle.std.specs.Prelude.{◌≡◌}
use Rattle.shard_tests.proofs.shards.keeps_slices.Given as goal

-- the shard keeps the number of its sources
abbrev pub invariant-loop-k : goal.invariant-loop-k
invariant-loop-k g l = l.shard.sources ≡ 1
