-- A leaf changes by itself.
use Rattle.std.proofs.Common.{◌≡◌, suc, length, arith}
use Rattle.fiba_nodes.specs.Rows.{listed}
use Rattle.std.proofs.lemmas.List.{length-map}
use Rattle.fiba_nodes.specs.Stores.{full_nodes, held, look}
use Rattle.fiba_nodes.specs.Trees.{pair_of}
use Rattle.fiba_nodes.specs.Changes.{leaf_pairs}
use Rattle.fiba_nodes.proofs.Fullness.{held_is}
use Rattle.fiba_nodes.proofs.Paying.{paid_leaf}
use Rattle.fiba_nodes.proofs.Opened.{is_there}
use Rattle.fiba_nodes.proofs.Below.{applied_leaf, inner, node_is}
use Rattle.fiba_nodes.proofs.applying.apply_low.Goals as goal

pub peek-requires : goal.peek-requires
peek-requires g c =
    let m = g.M.Monoid in
    is_there m.is_value m.empty m.op c.args.nodes.now (suc c.args.below) c.args.place.left c.args.place.right c.args.at (omega arith) c.requires.sound

pub leaf_applied-requires-clause-items : goal.leaf_applied-requires-clause-items
leaf_applied-requires-clause-items g c =
    let m = g.M.Monoid in
    let slots = listed c.opened-open.result.slots in
    let last = c.opened-open.result.last in
    let read = node_is c.args.nodes.now c.args.at c.peek.result.now slots last c.peek.ensures.found c.opened-open.ensures.slots c.opened-open.ensures.last in
    (inner m.is_value m.empty m.op c.args.nodes.now c.args.at c.args.below c.args.place.left c.args.place.right c.args.change slots last c.peek.result.now.agg c.peek.result.now.leaf c.requires read).items

pub returns-clause-applied : goal.returns-clause-applied
returns-clause-applied g c =
    let m = g.M.Monoid in
    let slots = listed c.opened-open.result.slots in
    let last = c.opened-open.result.last in
    let read = node_is c.args.nodes.now c.args.at c.peek.result.now slots last c.peek.ensures.found c.opened-open.ensures.slots c.opened-open.ensures.last in
    applied_leaf m.is_value m.empty m.op c.args.nodes.now c.args.at c.args.below c.args.place.left c.args.place.right c.args.change slots last c.peek.result.now.agg c.peek.result.now.leaf c.requires read c.leaf_applied.result.taken (listed c.leaf_applied.result.open.slots) c.leaf_applied.result.open.last (omega arith) c.opened-open.ensures.few c.leaf_applied.ensures.items c.leaf_applied.ensures.applies

pub returns-clause-paid : goal.returns-clause-paid
returns-clause-paid g c =
    let m = g.M.Monoid in
    let slots = listed c.opened-open.result.slots in
    let last = c.opened-open.result.last in
    let own : held (look c.args.nodes.now c.args.at) ≡ length slots = held_is (look c.args.nodes.now c.args.at) c.peek.result.now slots c.peek.ensures.found c.opened-open.ensures.slots in
    let row = listed c.leaf_applied.result.open.slots in
    let a = length-map slots (λ s. pair_of s.item) in
    let b = length-map row (λ s. pair_of s.item) in
    paid_leaf c.args.change c.leaf_applied.result.taken (leaf_pairs slots) (leaf_pairs row) (full_nodes c.args.nodes.now) c.args.nodes.now.spare (held (look c.args.nodes.now c.args.at)) (length row) c.leaf_applied.ensures.applies (omega arith) (omega arith)
