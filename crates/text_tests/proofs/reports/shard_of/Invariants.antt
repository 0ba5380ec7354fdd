use Rattle.std.specs.Prelude.{◌≡◌}
use Rattle.text_tests.proofs.reports.shard_of.Given as goal

-- the shard has the one source
abbrev pub invariant-loop-what : goal.invariant-loop-what
invariant-loop-what g l = l.shard.sources ≡ 1
