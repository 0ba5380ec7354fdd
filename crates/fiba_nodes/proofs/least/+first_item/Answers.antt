-- The first item of a leaf is the first of all; else that of the first child is.
use Rattle.std.proofs.Common.{◌≡◌, ◌-◌, false, suc, Some, refl, sym, subst, arith}
use Rattle.std.specs.Prelude.{slice_get}
use Rattle.fiba_nodes.specs.Rows.{last_of, listed}
use Rattle.fiba_nodes.specs.Trees.{IsAt, pair_of, pairs_at, plain}
use Rattle.fiba_nodes.proofs.Opened.{is_there, no_pairs}
use Rattle.fiba_nodes.proofs.Sound.{node_of}
use Rattle.fiba_nodes.proofs.Below.{node_is}
use Rattle.fiba_nodes.proofs.Tops.{least_below, least_here, least_kid, pairs_eq}
use Rattle.fiba_nodes.proofs.least.+first_item.Goals as goal

pub get-requires : goal.get-requires
get-requires g t c =
    let m = g.M.Monoid in
    is_there m.is_value m.empty m.op c.args.nodes.now (suc c.args.below) c.args.place.left c.args.place.right c.args.at (omega arith) c.requires

pub returns-then-below-eq0 : goal.returns-then-below-eq0
returns-then-below-eq0 g t c =
    let m = g.M.Monoid in
    let s = plain c.args.nodes.now in
    let slots = listed c.slots.result in
    let last = last_of c.get.result in
    let read = node_is c.args.nodes.now c.args.at c.get.result slots last c.get.ensures.found c.slots.ensures.slots refl in
    pairs_eq m.is_value m.empty m.op s c.args.below c.args.at slots last c.get.result.agg c.get.result.leaf read (least_here (pairs_at s c.args.below) slots last c.get-slot.result c.get-slot.ensures (no_pairs s c.args.below c.get-slot.result.kid c.if-below-eq0.true))

pub first_item-requires : goal.first_item-requires
first_item-requires g t c =
    let m = g.M.Monoid in
    let s = plain c.args.nodes.now in
    let slots = listed c.slots.result in
    let last = last_of c.get.result in
    let read = node_is c.args.nodes.now c.args.at c.get.result slots last c.get.ensures.found c.slots.ensures.slots refl in
    let node = node_of m.is_value m.empty m.op s c.args.below c.args.place.left c.args.place.right c.args.at (record { slots = slots; last = last; agg = c.get.result.agg; leaf = c.get.result.leaf }) read c.requires in
    let kid : IsAt m.is_value m.empty m.op s c.args.below c.args.place.left false c.get-slot.result.kid = least_kid (λ l r k. IsAt m.is_value m.empty m.op s c.args.below l r k) c.args.place.left c.args.place.right slots last c.get-slot.result c.get-slot.ensures node.kids in
    let lower : c.args.below ≡ suc (c.args.below - 1) = omega arith in
    λ κs w. (omega arith, (w, rw c.front.ensures (subst (λ h. IsAt m.is_value m.empty m.op s h c.args.place.left false c.get-slot.result.kid) lower kid)))

pub returns : goal.returns
returns g t c =
    let m = g.M.Monoid in
    let s = plain c.args.nodes.now in
    let slots = listed c.slots.result in
    let last = last_of c.get.result in
    let read = node_is c.args.nodes.now c.args.at c.get.result slots last c.get.ensures.found c.slots.ensures.slots refl in
    let lower : c.args.below ≡ suc (c.args.below - 1) = omega arith in
    pairs_eq m.is_value m.empty m.op s c.args.below c.args.at slots last c.get.result.agg c.get.result.leaf read (least_below (pairs_at s c.args.below) slots last c.get-slot.result (pair_of c.first_item.result) c.get-slot.ensures (subst (λ h. slice_get (pairs_at s h c.get-slot.result.kid) 0 ≡ Some (pair_of c.first_item.result)) (sym lower) c.first_item.ensures))
