-- The entries so far, and those that are left.
use Rattle.std.proofs.Common.{◌≡◌, ◌++◌, drop}
use Rattle.stream_base.specs.Model.Routes.{routed}
use Rattle.report_check.proofs.routes.routed.Given as goal

abbrev pub invariant-loop-entry : goal.invariant-loop-entry
invariant-loop-entry l = l.out.items ++ routed l.shard.of l.shard.number (drop l.entry-index l.entries) ≡ routed l.shard.of l.shard.number l.entries
