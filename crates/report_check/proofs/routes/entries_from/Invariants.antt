-- The entries so far, and those that are left.
use Rattle.std.proofs.Common.{◌≡◌, ◌++◌, drop}
use Rattle.stream_base.specs.Model.Routes.{entries_from}
use Rattle.report_check.proofs.routes.entries_from.Given as goal

abbrev pub invariant-loop-entry : goal.invariant-loop-entry
invariant-loop-entry l = l.out.items ++ entries_from l.source (drop l.entry-index l.journal) ≡ entries_from l.source l.journal
