-- The first children have the parent.
use Rattle.std.proofs.Common.{◌≤◌, ◌+◌}
use Rattle.fiba_nodes.specs.Rows.{listed}
use Rattle.fiba_nodes.proofs.Links.{Adopting}
use Rattle.fiba_nodes.proofs.writing.adopt_all.Given as goal

abbrev pub invariant-loop-i : goal.invariant-loop-i
invariant-loop-i g l = Adopting l.fn.nodes l.nodes (listed l.open.slots) l.open.last l.at l.i × (l.fn.probes ≤ l.probes) × (l.probes ≤ l.fn.probes + l.i)
