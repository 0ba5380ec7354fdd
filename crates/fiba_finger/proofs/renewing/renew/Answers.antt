-- The node keeps its number of items, and is written in its place.
use Rattle.std.proofs.Common.{◌≤◌, ◌-◌, suc, true, length, arith, sym, ap, ◌∙◌}
use Rattle.std.specs.Option.{option_map}
use Rattle.fiba_nodes.specs.Rows.{listed}
use Rattle.fiba_nodes.specs.Stores.{look}
use Rattle.fiba_nodes.proofs.Opened.{is_there}
use Rattle.fiba_nodes.proofs.Fullness.{held_some}
use Rattle.fiba_finger.proofs.Edges.{left_at}
use Rattle.fiba_finger.proofs.Raising.{begins, can_here, left_is, rewritten}
use Rattle.fiba_finger.proofs.renewing.renew.Goals as goal

pub peek-requires : goal.peek-requires
peek-requires g c =
    let m = g.M.Monoid in
    is_there m.is_value m.empty m.op c.args.nodes.now (suc c.args.from.below) (left_at true (c.args.root.height - 1 - c.args.from.below)) true c.args.from.at (omega arith) (can_here m.is_value m.empty m.op c.args.nodes.now c.args.root c.args.from.at c.args.from.below c.args.change c.requires.can).sound

pub apply_low-applied-requires : goal.apply_low-applied-requires
apply_low-applied-requires g c =
    let m = g.M.Monoid in
    let left = c.right_place-place.ensures.left ∙ left_is c.args.root.height c.args.from.below c.requires.can.edge.within in
    rw (left, c.right_place-place.ensures.right) (can_here m.is_value m.empty m.op c.args.nodes.now c.args.root c.args.from.at c.args.from.below c.args.change c.requires.can)

pub returns-clause-raised : goal.returns-clause-raised
returns-clause-raised g c =
    let m = g.M.Monoid in
    let slots = listed c.apply_low-applied.result.open.slots in
    let last = c.apply_low-applied.result.open.last in
    let old = c.args.nodes.now in
    let now = c.apply_low-applied.new.nodes in
    let left = c.right_place-place.ensures.left ∙ left_is c.args.root.height c.args.from.below c.requires.can.edge.within in
    let there = held_some (look old c.args.from.at) (is_there m.is_value m.empty m.op old (suc c.args.from.below) (left_at true (c.args.root.height - 1 - c.args.from.below)) true c.args.from.at (omega arith) (can_here m.is_value m.empty m.op old c.args.root c.args.from.at c.args.from.below c.args.change c.requires.can).sound) in
    let some : 1 ≤ length slots = omega (arith, there, (c.apply_low-applied.ensures.paid.kept c.requires.set).1) in
    let raising = begins m.is_value m.empty m.op old c.args.root c.args.from.at c.args.from.below c.args.change c.requires.can now c.right_place-place.result.left c.right_place-place.result.right c.peek.result.now c.apply_low-applied.result.taken slots last c.right_place-place.ensures.left c.right_place-place.ensures.right c.peek.ensures.found c.apply_low-applied.ensures.applied some in
    rewritten m.is_value m.empty m.op old now c.args.root c.args.from.at c.args.from.below c.args.change c.peek.result.now.up slots last raising c.write.new.nodes c.right_place-place.result.left c.right_place-place.result.right left c.right_place-place.ensures.right c.write.ensures.written c.write.ensures.moves c.write.ensures.spare
    (c.write.ensures.up ∙ sym (ap (option_map (λ n. n.up)) c.peek.ensures.found))
