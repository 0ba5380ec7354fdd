-- The keys that came stand before the place.
use Rattle.std.proofs.Common.{◌≤◌, ◌+◌}
use Rattle.tree_times.proofs.Ranks.{AreBefore}
use Rattle.tree_times.proofs.filling.fill.Given as goal

abbrev pub invariant-loop-i : goal.invariant-loop-i
invariant-loop-i g l = AreBefore l.keys.order l.i l.tree.table.pairs × (l.keys.count ≤ l.tree.table.spare + l.i)
