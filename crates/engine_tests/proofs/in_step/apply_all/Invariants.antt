use Rattle.std.specs.Prelude.{◌≡◌}
use Rattle.engine_tests.proofs.in_step.apply_all.Given as goal

-- both shards are of two sources
abbrev pub invariant-entries : goal.invariant-entries
invariant-entries g l = (l.plain.sources ≡ 2) × (l.sliced.sources ≡ 2)
