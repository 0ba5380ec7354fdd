-- The shard is of one source.
use Rattle.std.specs.Prelude.{◌≡◌}
use Rattle.tail_text_tests.proofs.texts.shard_of.Given as goal

abbrev pub invariant-loop-what : goal.invariant-loop-what
invariant-loop-what g l = l.shard.sources ≡ 1
