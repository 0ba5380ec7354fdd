-- The items and children so far are strung together.
use Rattle.std.proofs.Common.{◌≤◌, ◌+◌, ◌*◌}
use Rattle.fiba_nodes.specs.Rows.{listed}
use Rattle.fiba_nodes.specs.Trees.{pairs_at, plain}
use Rattle.fiba_nodes.specs.Places.{IsStrung}
use Rattle.fiba_nodes.proofs.spans.fold_between.Given as goal

abbrev pub invariant-loop-k : goal.invariant-loop-k
invariant-loop-k g l =
    IsStrung g.M.Monoid.op (pairs_at (plain l.nodes) l.height) (listed l.open.slots) l.open.last l.i l.k l.fn.sum l.sum l.fn.steps l.steps × (l.fn.probes ≤ l.probes) × (l.steps + 2 * (l.i + 1) ≤ l.fn.steps + 1 + 2 * l.k)
