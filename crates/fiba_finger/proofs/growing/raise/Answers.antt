-- Each node that is opened stands on the edge, under the one that is opened next.
use Rattle.std.proofs.Common.{◌≡◌, ◌<◌, ◌+◌, ◌-◌, suc, true, IsSome, length, arith, refl, sym, subst, ◌∙◌}
use Rattle.fiba_nodes.specs.Rows.{listed}
use Rattle.fiba_nodes.specs.Stores.{full_nodes, held, look}
use Rattle.fiba_nodes.proofs.Opened.{is_there}
use Rattle.fiba_finger.proofs.Edges.{left_at}
use Rattle.fiba_nodes.specs.Changes.{IsPaid}
use Rattle.fiba_nodes.proofs.Fullness.{held_few}
use Rattle.fiba_nodes.proofs.Paying.{paid_splits}
use Rattle.fiba_finger.proofs.Raising.{above, above_stays, begins, can_above, can_here, ends, goes_on, left_is, nested, parent_is, pays, planted, room, room_top}
use Rattle.fiba_finger.proofs.growing.raise.Goals as goal

pub peek-requires : goal.peek-requires
peek-requires g c =
    let m = g.M.Monoid in
    is_there m.is_value m.empty m.op c.args.nodes.now (suc c.args.from.below) (left_at true (c.args.root.height - 1 - c.args.from.below)) true c.args.from.at (omega arith) (can_here m.is_value m.empty m.op c.args.nodes.now c.args.root c.args.from.at c.args.from.below c.args.change c.requires.can).sound

pub apply_low-applied-requires : goal.apply_low-applied-requires
apply_low-applied-requires g c =
    let m = g.M.Monoid in
    let left = c.right_place-place.ensures.left ∙ left_is c.args.root.height c.args.from.below c.requires.can.edge.within in
    rw (left, c.right_place-place.ensures.right) (can_here m.is_value m.empty m.op c.args.nodes.now c.args.root c.args.from.at c.args.from.below c.args.change c.requires.can)

pub loop-below-init : goal.loop-below-init
loop-below-init g c =
    let m = g.M.Monoid in
    (begins m.is_value m.empty m.op c.args.nodes.now c.args.root c.args.from.at c.args.from.below c.args.change c.requires.can c.apply_low-applied.new.nodes c.right_place-place.result.left c.right_place-place.result.right c.peek.result.now c.apply_low-applied.result.taken (listed c.apply_low-applied.result.open.slots) c.apply_low-applied.result.open.last c.right_place-place.ensures.left c.right_place-place.ensures.right c.peek.ensures.found c.apply_low-applied.ensures.applied (c.apply_low-applied.ensures.some (omega (arith, c.requires.grows))), omega (arith, c.saturating_sub-inner.ensures, c.spare.ensures, c.spare-spare.ensures, c.apply_low-applied.ensures.spare), omega (arith, c.peek.ensures.looks.rises, c.apply_low-applied.ensures.looks.rises), c.apply_low-applied.ensures.cost, omega (arith, c.saturating_sub-inner.ensures, c.spare.ensures, c.spare-spare.ensures, c.apply_low-applied.ensures.grows (omega (arith, c.requires.grows))), omega (arith, c.peek.ensures.looks.within, c.apply_low-applied.ensures.looks.within), subst (λ o. IsPaid c.args.change (full_nodes c.args.nodes.now) (full_nodes c.apply_low-applied.new.nodes) c.args.nodes.now.spare c.apply_low-applied.new.nodes.spare (held o) (length (listed c.apply_low-applied.result.open.slots))) (sym c.apply_low-applied.ensures.applied.stays) c.apply_low-applied.ensures.paid)

pub returns-then-len-lt4-clause-raised : goal.returns-then-len-lt4-clause-raised
returns-then-len-lt4-clause-raised g c =
    let m = g.M.Monoid in
    let inner : c.loop-below.below + 1 < c.args.root.height = omega (arith, c.loop-below-test.true) in
    ends m.is_value m.empty m.op c.args.nodes.now c.loop-below.nodes c.args.root c.loop-below.at c.loop-below.below c.args.change c.loop-below.up (listed c.loop-below.open.slots) c.loop-below.open.last c.loop-below.invariant.0 inner c.write.new.nodes c.right_place-edge.result.left c.right_place-edge.result.right c.right_place-edge.ensures.left c.right_place-edge.ensures.right c.write.ensures.written c.write.ensures.moves c.write.ensures.spare c.write.ensures.up

pub unwrap-parent-requires : goal.unwrap-parent-requires
unwrap-parent-requires g c =
    let m = g.M.Monoid in
    let inner : c.loop-below.below + 1 < c.args.root.height = omega (arith, c.loop-below-test.true) in
    subst (λ o. IsSome o) (sym (parent_is m.is_value m.empty m.op c.args.nodes.now c.loop-below.nodes c.args.root c.loop-below.at c.loop-below.below c.args.change c.loop-below.up (listed c.loop-below.open.slots) c.loop-below.open.last c.loop-below.invariant.0 inner)) refl

pub peek-node-requires : goal.peek-node-requires
peek-node-requires g c =
    let m = g.M.Monoid in
    let inner : c.loop-below.below + 1 < c.args.root.height = omega (arith, c.loop-below-test.true) in
    let same : c.unwrap-parent.result ≡ above m.is_value m.empty m.op c.args.nodes.now c.loop-below.nodes c.args.root c.loop-below.at c.loop-below.below c.args.change c.loop-below.up (listed c.loop-below.open.slots) c.loop-below.open.last c.loop-below.invariant.0 inner = let e = sym c.unwrap-parent.ensures ∙ parent_is m.is_value m.empty m.op c.args.nodes.now c.loop-below.nodes c.args.root c.loop-below.at c.loop-below.below c.args.change c.loop-below.up (listed c.loop-below.open.slots) c.loop-below.open.last c.loop-below.invariant.0 inner in cc in
    let p = above m.is_value m.empty m.op c.args.nodes.now c.loop-below.nodes c.args.root c.loop-below.at c.loop-below.below c.args.change c.loop-below.up (listed c.loop-below.open.slots) c.loop-below.open.last c.loop-below.invariant.0 inner in
    let old = is_there m.is_value m.empty m.op c.args.nodes.now (suc (c.loop-below.below + 1)) (left_at true (c.args.root.height - 1 - (c.loop-below.below + 1))) true p (omega arith) (can_here m.is_value m.empty m.op c.args.nodes.now c.args.root p (c.loop-below.below + 1) c.args.change (can_above m.is_value m.empty m.op c.args.nodes.now c.loop-below.nodes c.args.root c.loop-below.at c.loop-below.below c.args.change c.loop-below.up (listed c.loop-below.open.slots) c.loop-below.open.last c.loop-below.invariant.0 inner)).sound in
    subst (λ k. IsSome (look c.loop-below.nodes k)) (sym same) (subst (λ o. IsSome o) (sym (above_stays m.is_value m.empty m.op c.args.nodes.now c.loop-below.nodes c.args.root c.loop-below.at c.loop-below.below c.args.change c.loop-below.up (listed c.loop-below.open.slots) c.loop-below.open.last c.loop-below.invariant.0 inner)) old)

pub settle-open-requires-clause-nested : goal.settle-open-requires-clause-nested
settle-open-requires-clause-nested g c =
    let m = g.M.Monoid in
    let inner : c.loop-below.below + 1 < c.args.root.height = omega (arith, c.loop-below-test.true) in
    let same : c.unwrap-parent.result ≡ above m.is_value m.empty m.op c.args.nodes.now c.loop-below.nodes c.args.root c.loop-below.at c.loop-below.below c.args.change c.loop-below.up (listed c.loop-below.open.slots) c.loop-below.open.last c.loop-below.invariant.0 inner = let e = sym c.unwrap-parent.ensures ∙ parent_is m.is_value m.empty m.op c.args.nodes.now c.loop-below.nodes c.args.root c.loop-below.at c.loop-below.below c.args.change c.loop-below.up (listed c.loop-below.open.slots) c.loop-below.open.last c.loop-below.invariant.0 inner in cc in
    nested m.is_value m.empty m.op c.args.nodes.now c.loop-below.nodes c.args.root c.loop-below.at c.loop-below.below c.args.change c.loop-below.up (listed c.loop-below.open.slots) c.loop-below.open.last c.loop-below.invariant.0 inner c.unwrap-parent.result same c.peek-node.result.now c.peek-node.ensures.found (listed c.opened-row.result.slots) c.opened-row.result.last c.opened-row.ensures.slots c.opened-row.ensures.last c.len-in-loop-below.result c.right_place-place-in-loop-below.result.left c.right_place-place-in-loop-below.result.right c.len-in-loop-below.ensures.len c.right_place-place-in-loop-below.ensures.left c.right_place-place-in-loop-below.ensures.right

pub settle-open-requires-clause-room : goal.settle-open-requires-clause-room
settle-open-requires-clause-room g c =
    let m = g.M.Monoid in
    let inner : c.loop-below.below + 1 < c.args.root.height = omega (arith, c.loop-below-test.true) in
    let same : c.unwrap-parent.result ≡ above m.is_value m.empty m.op c.args.nodes.now c.loop-below.nodes c.args.root c.loop-below.at c.loop-below.below c.args.change c.loop-below.up (listed c.loop-below.open.slots) c.loop-below.open.last c.loop-below.invariant.0 inner = let e = sym c.unwrap-parent.ensures ∙ parent_is m.is_value m.empty m.op c.args.nodes.now c.loop-below.nodes c.args.root c.loop-below.at c.loop-below.below c.args.change c.loop-below.up (listed c.loop-below.open.slots) c.loop-below.open.last c.loop-below.invariant.0 inner in cc in
    room m.is_value m.empty m.op c.args.nodes.now c.loop-below.nodes c.args.root c.loop-below.at c.loop-below.below c.args.change c.loop-below.up (listed c.loop-below.open.slots) c.loop-below.open.last c.loop-below.invariant.0 inner c.unwrap-parent.result same c.peek-node.result.now c.peek-node.ensures.found (listed c.opened-row.result.slots) c.opened-row.result.last c.opened-row.ensures.slots c.opened-row.ensures.last

pub loop-below-preserved : goal.loop-below-preserved
loop-below-preserved g c =
    let m = g.M.Monoid in
    let inner : c.loop-below.below + 1 < c.args.root.height = omega (arith, c.loop-below-test.true) in
    let same : c.unwrap-parent.result ≡ above m.is_value m.empty m.op c.args.nodes.now c.loop-below.nodes c.args.root c.loop-below.at c.loop-below.below c.args.change c.loop-below.up (listed c.loop-below.open.slots) c.loop-below.open.last c.loop-below.invariant.0 inner = let e = sym c.unwrap-parent.ensures ∙ parent_is m.is_value m.empty m.op c.args.nodes.now c.loop-below.nodes c.args.root c.loop-below.at c.loop-below.below c.args.change c.loop-below.up (listed c.loop-below.open.slots) c.loop-below.open.last c.loop-below.invariant.0 inner in cc in
    (goes_on m.is_value m.empty m.op c.args.nodes.now c.loop-below.nodes c.args.root c.loop-below.at c.loop-below.below c.args.change c.loop-below.up (listed c.loop-below.open.slots) c.loop-below.open.last c.loop-below.invariant.0 inner c.unwrap-parent.result same c.peek-node.result.now c.peek-node.ensures.found (listed c.opened-row.result.slots) c.opened-row.result.last c.opened-row.ensures.slots c.opened-row.ensures.last c.settle-open.new.nodes c.len-in-loop-below.result c.right_place-place-in-loop-below.result.left c.right_place-place-in-loop-below.result.right (listed c.settle-open.result.slots) c.settle-open.result.last c.len-in-loop-below.ensures.len c.right_place-place-in-loop-below.ensures.left c.right_place-place-in-loop-below.ensures.right c.settle-open.ensures.settled (c.settle-open.ensures.kept c.loop-below.invariant.0.some), c.loop-below.invariant.1, omega (arith, c.loop-below.invariant.2, c.peek-node.ensures.looks.rises, c.settle-open.ensures.looks.rises), omega (arith, c.loop-below.invariant.3, c.settle-open.ensures.cost), (let few = c.loop-below.invariant.0.applied.few in let taken = c.settle-open.ensures.taken c.loop-below.invariant.0.some in omega (arith, few, taken, c.loop-below.invariant.4, c.requires.grows, c.len.ensures.len, c.if-len-lt4.false, c.loop-below.auto.below)), omega (arith, c.loop-below.invariant.5, c.peek-node.ensures.looks.within, c.settle-open.ensures.looks.within), pays m.is_value m.empty m.op c.args.nodes.now c.loop-below.nodes c.args.root c.loop-below.at c.loop-below.below c.args.change c.loop-below.up (listed c.loop-below.open.slots) c.loop-below.open.last c.loop-below.invariant.0 inner c.unwrap-parent.result same c.peek-node.result.now c.peek-node.ensures.found (listed c.opened-row.result.slots) c.opened-row.result.last c.opened-row.ensures.slots c.opened-row.ensures.last c.settle-open.new.nodes c.len-in-loop-below.result c.right_place-place-in-loop-below.result.left c.right_place-place-in-loop-below.result.right (listed c.settle-open.result.slots) c.settle-open.result.last c.len-in-loop-below.ensures.len c.right_place-place-in-loop-below.ensures.left c.right_place-place-in-loop-below.ensures.right c.settle-open.ensures.settled c.settle-open.ensures.kept c.loop-below.invariant.6 c.settle-open.ensures.full c.settle-open.ensures.even c.settle-open.ensures.taken)

pub plant-grown-requires-clause-room : goal.plant-grown-requires-clause-room
plant-grown-requires-clause-room g c =
    let m = g.M.Monoid in
    room_top m.is_value m.empty m.op c.args.nodes.now c.loop-below.nodes c.args.root c.loop-below.at c.loop-below.below c.args.change c.loop-below.up (listed c.loop-below.open.slots) c.loop-below.open.last c.loop-below.invariant.0 (c.args.root.height - 1) refl (omega (arith, c.loop-below-test.false, c.loop-below.auto.below-end))

pub returns-clause-raised : goal.returns-clause-raised
returns-clause-raised g c =
    let m = g.M.Monoid in
    planted m.is_value m.empty m.op c.args.nodes.now c.loop-below.nodes c.args.root c.loop-below.at c.loop-below.below c.args.change c.loop-below.up (listed c.loop-below.open.slots) c.loop-below.open.last c.loop-below.invariant.0 (c.args.root.height - 1) refl (omega (arith, c.loop-below-test.false, c.loop-below.auto.below-end)) c.plant-grown.new.nodes c.plant-grown.result c.right_place.result.left c.right_place.result.right c.right_place.ensures.left c.right_place.ensures.right c.plant-grown.ensures.planted (omega (arith, c.plant-grown.ensures.height c.loop-below.invariant.0.some))

pub returns-then-len-lt4-clause-full : goal.returns-then-len-lt4-clause-full
returns-then-len-lt4-clause-full g c =
    let m = g.M.Monoid in
    let paid = paid_splits c.args.change (full_nodes c.args.nodes.now) (full_nodes c.loop-below.nodes) (full_nodes c.write.new.nodes) c.args.nodes.now.spare c.loop-below.nodes.spare c.write.new.nodes.spare (held (look c.loop-below.nodes c.loop-below.at)) (length (listed c.loop-below.open.slots)) (held (look c.loop-below.nodes c.loop-below.at)) (length (listed c.loop-below.open.slots)) (held (look c.loop-below.nodes c.loop-below.at)) c.loop-below.invariant.6 refl (held_few (look c.loop-below.nodes c.loop-below.at)) (c.saturating_sub-inner.result + (c.loop-below.below - c.args.from.below)) (omega (arith, c.requires.grows)) c.loop-below.invariant.4 c.write.ensures.full in
    omega (arith, paid)

pub returns-clause-full : goal.returns-clause-full
returns-clause-full g c =
    let m = g.M.Monoid in
    let paid = paid_splits c.args.change (full_nodes c.args.nodes.now) (full_nodes c.loop-below.nodes) (full_nodes c.plant-grown.new.nodes) c.args.nodes.now.spare c.loop-below.nodes.spare c.plant-grown.new.nodes.spare (held (look c.loop-below.nodes c.loop-below.at)) (length (listed c.loop-below.open.slots)) (held (look c.loop-below.nodes c.loop-below.at)) (length (listed c.loop-below.open.slots)) (held (look c.loop-below.nodes c.loop-below.at)) c.loop-below.invariant.6 refl (held_few (look c.loop-below.nodes c.loop-below.at)) (c.saturating_sub-inner.result + (c.loop-below.below - c.args.from.below)) (omega (arith, c.requires.grows)) c.loop-below.invariant.4 c.plant-grown.ensures.full in
    let high = c.plant-grown.ensures.height c.loop-below.invariant.0.some in
    omega (arith, paid, high, c.loop-below-test.false, c.loop-below.auto.below-end)
