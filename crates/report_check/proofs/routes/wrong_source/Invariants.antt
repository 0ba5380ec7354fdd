-- The sources so far are right.
use Rattle.std.proofs.Common.{ℕ, ◌<◌}
use Rattle.report_check.specs.Findings.{HoldsRouted, lists_of}
use Rattle.report_check.proofs.routes.wrong_source.Given as goal

abbrev pub invariant-loop-source : goal.invariant-loop-source
invariant-loop-source l = (s : ℕ) → s < l.source → HoldsRouted l.shard.of (lists_of l.sources) l.shard.number l.journal s
