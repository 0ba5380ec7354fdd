-- What is pending, and then the lines of the shards that are left, is what is left of all.
use Rattle.std.proofs.Common.{◌++◌, drop}
use Rattle.part_laws.specs.Joined.{shards_from}
use Rattle.report_check.specs.Findings.{lists_of}
use Rattle.report_join.specs.ShardReports.{form_told}
use Rattle.emission_text.specs.Sending.{AppendsPrefix}
use Rattle.part_run.proofs.join.put_shards.Given as goal

abbrev pub invariant-loop-k : goal.invariant-loop-k
invariant-loop-k g l =
    AppendsPrefix g.K.Sink.taken g.K.Sink.faults (l.fn.out ++ shards_from (form_told l.second) 0 (lists_of l.texts)) (l.out ++ shards_from (form_told l.second) l.k (drop l.k (lists_of l.texts))) l.fn.sink l.sink
