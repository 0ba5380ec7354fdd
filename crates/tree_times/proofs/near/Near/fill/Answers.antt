-- An odd key comes behind all odd ones before it, and an even one behind all others.
use Rattle.std.proofs.Common.{◌≤◌, ◌+◌, ◌*◌, ◌-◌, arith}
use Rattle.tree_times.proofs.Lates.{HaveComeLate, late_come, later, next_come, no_next}
use Rattle.tree_times.proofs.near.Near.fill.Goals as goal
use Rattle.tree_times.proofs.near.Near.fill.Goals.{then-i-self, else-i-self}

pub insert-requires-in-loop-i : goal.insert-requires-in-loop-i
insert-requires-in-loop-i g c =
    let late : HaveComeLate c.args.self.distance c.loop-i.i (g.T.AggTree.table c.if-i-self.tree).pairs = elim c.if-i-self.branch [ then-i-self w ↦ rw w.tree-is (rw w.insert.ensures.inserts.inserted (late_come c.args.self.distance c.loop-i.i w.lift.result (g.T.AggTree.table c.loop-i.tree).pairs c.loop-i.invariant.0 (omega arith))) | else-i-self w ↦ rw w.tree-is (later c.args.self.distance c.loop-i.i (g.T.AggTree.table c.loop-i.tree).pairs c.loop-i.invariant.0) ] in
    let room : c.args.self.count + 2 * c.args.self.late + 1 ≤ (g.T.AggTree.table c.if-i-self.tree).spare + (c.loop-i.i + 1) + (c.loop-i.i + 1 - c.args.self.count) = elim c.if-i-self.branch [ then-i-self w ↦ rw w.tree-is (omega (arith, c.loop-i.invariant.1, w.insert.ensures.inserts.spare)) | else-i-self w ↦ rw w.tree-is (omega (arith, c.loop-i.invariant.1)) ] in
    record { absent = no_next c.args.self.distance c.loop-i.i (g.T.AggTree.table c.if-i-self.tree).pairs late; room = omega (arith, room) }

pub loop-i-preserved : goal.loop-i-preserved
loop-i-preserved g c =
    let late : HaveComeLate c.args.self.distance c.loop-i.i (g.T.AggTree.table c.if-i-self.tree).pairs = elim c.if-i-self.branch [ then-i-self w ↦ rw w.tree-is (rw w.insert.ensures.inserts.inserted (late_come c.args.self.distance c.loop-i.i w.lift.result (g.T.AggTree.table c.loop-i.tree).pairs c.loop-i.invariant.0 (omega arith))) | else-i-self w ↦ rw w.tree-is (later c.args.self.distance c.loop-i.i (g.T.AggTree.table c.loop-i.tree).pairs c.loop-i.invariant.0) ] in
    let room : c.args.self.count + 2 * c.args.self.late + 1 ≤ (g.T.AggTree.table c.if-i-self.tree).spare + (c.loop-i.i + 1) + (c.loop-i.i + 1 - c.args.self.count) = elim c.if-i-self.branch [ then-i-self w ↦ rw w.tree-is (omega (arith, c.loop-i.invariant.1, w.insert.ensures.inserts.spare)) | else-i-self w ↦ rw w.tree-is (omega (arith, c.loop-i.invariant.1)) ] in
    (rw c.insert-in-loop-i.ensures.inserts.inserted (next_come c.args.self.distance c.loop-i.i c.lift-in-loop-i.result (g.T.AggTree.table c.if-i-self.tree).pairs late), omega (arith, room, c.insert-in-loop-i.ensures.inserts.spare))
