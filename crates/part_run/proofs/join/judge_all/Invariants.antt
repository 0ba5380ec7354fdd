-- The first texts are reports of their shards.
use Rattle.std.proofs.Common.{length}
use Rattle.report_check.specs.Findings.{lists_of}
use Rattle.part_run.specs.Joining.{AreShardReports}
use Rattle.part_run.proofs.join.judge_all.Given as goal

abbrev pub invariant-loop-i : goal.invariant-loop-i
invariant-loop-i l = AreShardReports l.second (length (lists_of l.texts)) (lists_of l.texts) l.i
