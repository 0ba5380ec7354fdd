-- What is summed and what is left come to the whole row.
use Rattle.std.proofs.Common.{◌≤◌, ◌+◌, ◌*◌, drop}
use Rattle.fiba_nodes.specs.Rows.{listed}
use Rattle.fiba_nodes.specs.Trees.{plain}
use Rattle.fiba_nodes.specs.Sums.{IsSummed}
use Rattle.fiba_nodes.proofs.totals.total_of.Given as goal

abbrev pub invariant-loop-i : goal.invariant-loop-i
invariant-loop-i g l =
    IsSummed g.M.Monoid.is_value g.M.Monoid.empty g.M.Monoid.op (plain l.nodes) l.height l.place.left l.place.right (listed l.slots) l.last l.left (drop l.i (listed l.slots)) l.sum × (l.fn.probes ≤ l.probes) × (l.probes ≤ l.fn.probes + l.i) × (l.steps ≤ l.fn.steps + 2 * l.i)
