-- The shards so far are right.
use Rattle.std.proofs.Common.{ℕ, ◌<◌, [], get_or}
use Rattle.report_check.specs.Findings.{IsRight, lists_of}
use Rattle.report_check.proofs.routes.first_wrong.Given as goal

abbrev pub invariant-loop-place : goal.invariant-loop-place
invariant-loop-place l = (k : ℕ) → k < l.place → IsRight l.shards (lists_of l.sources) k (get_or l.journals k [])
