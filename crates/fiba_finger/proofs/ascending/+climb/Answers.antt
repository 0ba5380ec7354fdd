-- The parent's last item tells whether the key lies in the tree of the node.
use Rattle.std.proofs.Common.{◌≡◌, ◌<◌, ◌-◌, ◌+◌, ◌∙◌, suc, true, IsSome, length, subst, sym, arith, refl}
use Rattle.fiba_nodes.specs.Rows.{slots_of}
use Rattle.fiba_nodes.specs.Stores.{look}
use Rattle.fiba_nodes.proofs.Opened.{is_there}
use Rattle.fiba_finger.proofs.Edges.{left_at}
use Rattle.fiba_finger.proofs.Climbing.{climbed_below, climbed_root, here, parent_here, parent_of, reached_parent, up_of}
use Rattle.fiba_finger.proofs.ascending.+climb.Goals as goal

pub returns-then-from-root-clause-climbed : goal.returns-then-from-root-clause-climbed
returns-then-from-root-clause-climbed g t c =
    let m = g.M.Monoid in
    climbed_root m.is_value m.empty m.op c.args.nodes.now c.args.root c.args.key c.args.from.at c.args.from.below c.requires.tree c.requires.rising c.requires.reached c.if-from-root.true

pub peek-requires : goal.peek-requires
peek-requires g t c =
    let m = g.M.Monoid in
    is_there m.is_value m.empty m.op c.args.nodes.now (suc c.args.from.below) (left_at true (c.args.root.height - 1 - c.args.from.below)) true c.args.from.at (omega arith) (here m.is_value m.empty m.op c.args.nodes.now c.args.root c.args.key c.args.from.at c.args.from.below c.requires.tree c.requires.rising c.requires.reached)

pub unwrap-parent-requires : goal.unwrap-parent-requires
unwrap-parent-requires g t c =
    let m = g.M.Monoid in
    let inner : c.args.from.below + 1 < c.args.root.height = omega (arith, c.requires.reached.edge.within, c.if-from-root.false) in
    let up = up_of m.is_value m.empty m.op c.args.nodes.now c.args.root c.args.key c.args.from.at c.args.from.below c.requires.tree c.requires.rising c.requires.reached inner c.peek.result.now c.peek.ensures.found in
    subst (λ o. IsSome o) (sym up) refl

pub peek-requires-2 : goal.peek-requires-2
peek-requires-2 g t c =
    let m = g.M.Monoid in
    let inner : c.args.from.below + 1 < c.args.root.height = omega (arith, c.requires.reached.edge.within, c.if-from-root.false) in
    let up = up_of m.is_value m.empty m.op c.args.nodes.now c.args.root c.args.key c.args.from.at c.args.from.below c.requires.tree c.requires.rising c.requires.reached inner c.peek.result.now c.peek.ensures.found in
    let same : c.unwrap-parent.result ≡ parent_of m.is_value m.empty m.op c.args.nodes.now c.args.root c.args.key c.args.from.at c.args.from.below c.requires.tree c.requires.rising c.requires.reached = let e = sym c.unwrap-parent.ensures ∙ up in cc in
    subst (λ k. IsSome (look c.args.nodes.now k)) (sym same) (is_there m.is_value m.empty m.op c.args.nodes.now (suc (c.args.from.below + 1)) (left_at true (c.args.root.height - 1 - (c.args.from.below + 1))) true (parent_of m.is_value m.empty m.op c.args.nodes.now c.args.root c.args.key c.args.from.at c.args.from.below c.requires.tree c.requires.rising c.requires.reached) (omega arith) (parent_here m.is_value m.empty m.op c.args.nodes.now c.args.root c.args.key c.args.from.at c.args.from.below c.requires.tree c.requires.rising c.requires.reached inner))

pub returns-then-last_slot-key-clause-climbed : goal.returns-then-last_slot-key-clause-climbed
returns-then-last_slot-key-clause-climbed g t c =
    let m = g.M.Monoid in
    let inner : c.args.from.below + 1 < c.args.root.height = omega (arith, c.requires.reached.edge.within, c.if-from-root.false) in
    let up = up_of m.is_value m.empty m.op c.args.nodes.now c.args.root c.args.key c.args.from.at c.args.from.below c.requires.tree c.requires.rising c.requires.reached inner c.peek.result.now c.peek.ensures.found in
    let same : c.unwrap-parent.result ≡ parent_of m.is_value m.empty m.op c.args.nodes.now c.args.root c.args.key c.args.from.at c.args.from.below c.requires.tree c.requires.rising c.requires.reached = let e = sym c.unwrap-parent.ensures ∙ up in cc in
    let slots = slots_of c.peek-2.result.now in
    climbed_below m.is_value m.empty m.op c.args.nodes.now c.args.root c.args.key c.args.from.at c.args.from.below c.requires.tree c.requires.rising c.requires.reached inner c.unwrap-parent.result same c.peek-2.result.now c.peek-2.ensures.found slots 0 refl (length slots - 1) (omega arith) (omega arith) c.last_slot.result c.last_slot.ensures c.if-last_slot-key.true

pub climb-requires : goal.climb-requires
climb-requires g t c =
    let m = g.M.Monoid in
    let inner : c.args.from.below + 1 < c.args.root.height = omega (arith, c.requires.reached.edge.within, c.if-from-root.false) in
    let up = up_of m.is_value m.empty m.op c.args.nodes.now c.args.root c.args.key c.args.from.at c.args.from.below c.requires.tree c.requires.rising c.requires.reached inner c.peek.result.now c.peek.ensures.found in
    let same : c.unwrap-parent.result ≡ parent_of m.is_value m.empty m.op c.args.nodes.now c.args.root c.args.key c.args.from.at c.args.from.below c.requires.tree c.requires.rising c.requires.reached = let e = sym c.unwrap-parent.ensures ∙ up in cc in
    let slots = slots_of c.peek-2.result.now in
    let next = reached_parent m.is_value m.empty m.op c.args.nodes.now c.args.root c.args.key c.args.from.at c.args.from.below c.requires.tree c.requires.rising c.requires.reached inner c.unwrap-parent.result same c.peek-2.result.now c.peek-2.ensures.found slots 0 refl (length slots - 1) (omega arith) (omega arith) c.last_slot.result c.last_slot.ensures c.if-last_slot-key.false in
    λ κs w. (omega arith, (w, record { tree = c.requires.tree; rising = c.requires.rising; reached = next }))
