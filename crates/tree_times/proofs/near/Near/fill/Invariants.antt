-- The keys that came stand below the next ones, and there is room for those to come.
use Rattle.std.proofs.Common.{◌≤◌, ◌+◌, ◌*◌, ◌-◌}
use Rattle.tree_times.proofs.Lates.{HaveCome}
use Rattle.tree_times.proofs.near.Near.fill.Given as goal

abbrev pub invariant-loop-i : goal.invariant-loop-i
invariant-loop-i g l = HaveCome l.self.distance l.i (g.T.AggTree.table l.tree).pairs × (l.self.count + 2 * l.self.late ≤ (g.T.AggTree.table l.tree).spare + l.i + (l.i - l.self.count))
