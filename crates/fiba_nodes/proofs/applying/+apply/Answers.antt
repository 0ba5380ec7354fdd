-- A leaf changes by itself; elsewhere one child changes, and then it settles.
use Rattle.std.proofs.Common.{◌≡◌, ◌+◌, ◌-◌, suc, length, sym, ap, ◌∙◌, arith}
use Rattle.fiba_nodes.specs.declared.change.Change.TheVariants.{First}
use Rattle.fiba_nodes.specs.Rows.{listed}
use Rattle.std.proofs.lemmas.List.{length-map}
use Rattle.fiba_nodes.specs.Stores.{full_nodes, held, look}
use Rattle.fiba_nodes.specs.Trees.{pair_of}
use Rattle.fiba_nodes.specs.Kids.{kid_of}
use Rattle.fiba_nodes.specs.Changes.{leaf_pairs}
use Rattle.fiba_nodes.proofs.Fullness.{held_few, held_is, held_some}
use Rattle.fiba_nodes.proofs.Changing.{kid-with_item}
use Rattle.fiba_nodes.proofs.Kids.{length-with_item}
use Rattle.fiba_nodes.proofs.Paying.{paid_below, paid_leaf, paid_out, paid_same}
use Rattle.fiba_nodes.proofs.Opened.{is_there}
use Rattle.fiba_nodes.proofs.Below.{applied_item, applied_leaf, descended_at, inner, item_nested_at, kid_can_at, kid_nested_at, kid_room_at, node_is, place_within, removed_at}
use Rattle.fiba_nodes.proofs.applying.+apply.Goals as goal

pub peek-requires : goal.peek-requires
peek-requires g t c =
    let m = g.M.Monoid in
    is_there m.is_value m.empty m.op c.args.nodes.now (suc c.args.below) c.args.place.left c.args.place.right c.args.at (omega arith) c.requires.sound

pub leaf_applied-requires-clause-items : goal.leaf_applied-requires-clause-items
leaf_applied-requires-clause-items g t c =
    let m = g.M.Monoid in
    let slots = listed c.opened-open.result.slots in
    let last = c.opened-open.result.last in
    let read = node_is c.args.nodes.now c.args.at c.peek.result.now slots last c.peek.ensures.found c.opened-open.ensures.slots c.opened-open.ensures.last in
    (inner m.is_value m.empty m.op c.args.nodes.now c.args.at c.args.below c.args.place.left c.args.place.right c.args.change slots last c.peek.result.now.agg c.peek.result.now.leaf c.requires read).items

pub returns-then-below-eq0-clause-applied : goal.returns-then-below-eq0-clause-applied
returns-then-below-eq0-clause-applied g t c =
    let m = g.M.Monoid in
    let slots = listed c.opened-open.result.slots in
    let last = c.opened-open.result.last in
    let read = node_is c.args.nodes.now c.args.at c.peek.result.now slots last c.peek.ensures.found c.opened-open.ensures.slots c.opened-open.ensures.last in
    applied_leaf m.is_value m.empty m.op c.args.nodes.now c.args.at c.args.below c.args.place.left c.args.place.right c.args.change slots last c.peek.result.now.agg c.peek.result.now.leaf c.requires read c.leaf_applied.result.taken (listed c.leaf_applied.result.open.slots) c.leaf_applied.result.open.last c.if-below-eq0.true c.opened-open.ensures.few c.leaf_applied.ensures.items c.leaf_applied.ensures.applies

pub apply-kid-requires : goal.apply-kid-requires
apply-kid-requires g t c =
    let m = g.M.Monoid in
    let slots = listed c.opened-open.result.slots in
    let last = c.opened-open.result.last in
    let read = node_is c.args.nodes.now c.args.at c.peek.result.now slots last c.peek.ensures.found c.opened-open.ensures.slots c.opened-open.ensures.last in
    let fits = c.opened-open.ensures.few in
    let lower : c.args.below ≡ suc (c.args.below - 1) = omega arith in
    let kid = kid_can_at m.is_value m.empty m.op c.args.nodes.now c.args.at c.args.below (c.args.below - 1) c.args.place.left c.args.place.right c.args.change slots last c.peek.result.now.agg c.peek.result.now.leaf lower c.requires read fits c.rank-i.result c.args.change (omega arith) c.requires.value in
    λ κs w. (omega arith, (w.0, (w.1, rw (c.kid.ensures, c.place-inner.ensures.left, c.place-inner.ensures.right) kid)))

pub settle-open-requires-clause-nested : goal.settle-open-requires-clause-nested
settle-open-requires-clause-nested g t c =
    let m = g.M.Monoid in
    let slots = listed c.opened-open.result.slots in
    let last = c.opened-open.result.last in
    let read = node_is c.args.nodes.now c.args.at c.peek.result.now slots last c.peek.ensures.found c.opened-open.ensures.slots c.opened-open.ensures.last in
    let fits = c.opened-open.ensures.few in
    let lower : c.args.below ≡ suc (c.args.below - 1) = omega arith in
    let done = rw (c.kid.ensures, c.place-inner.ensures.left, c.place-inner.ensures.right) at c.apply-kid.ensures.applied in
    kid_nested_at m.is_value m.empty m.op c.args.nodes.now c.args.at c.args.below (c.args.below - 1) c.args.place.left c.args.place.right c.args.change slots last c.peek.result.now.agg c.peek.result.now.leaf lower c.requires read fits c.rank-i.result c.apply-kid.new.nodes c.args.change c.apply-kid.result.taken (listed c.apply-kid.result.open.slots) c.apply-kid.result.open.last (omega arith) done c.rank-i.ensures.within

pub settle-open-requires-clause-room : goal.settle-open-requires-clause-room
settle-open-requires-clause-room g t c =
    let m = g.M.Monoid in
    let slots = listed c.opened-open.result.slots in
    let last = c.opened-open.result.last in
    let read = node_is c.args.nodes.now c.args.at c.peek.result.now slots last c.peek.ensures.found c.opened-open.ensures.slots c.opened-open.ensures.last in
    let fits = c.opened-open.ensures.few in
    let lower : c.args.below ≡ suc (c.args.below - 1) = omega arith in
    let done = rw (c.kid.ensures, c.place-inner.ensures.left, c.place-inner.ensures.right) at c.apply-kid.ensures.applied in
    kid_room_at m.is_value m.empty m.op c.args.nodes.now c.args.at c.args.below (c.args.below - 1) c.args.place.left c.args.place.right c.args.change slots last c.peek.result.now.agg c.peek.result.now.leaf lower c.requires read fits c.rank-i.result c.apply-kid.new.nodes c.args.change c.apply-kid.result.taken (listed c.apply-kid.result.open.slots) c.apply-kid.result.open.last (omega arith) c.requires.value done

pub returns-in_default-clause-applied : goal.returns-in_default-clause-applied
returns-in_default-clause-applied g t c =
    let m = g.M.Monoid in
    let slots = listed c.opened-open.result.slots in
    let last = c.opened-open.result.last in
    let read = node_is c.args.nodes.now c.args.at c.peek.result.now slots last c.peek.ensures.found c.opened-open.ensures.slots c.opened-open.ensures.last in
    let fits = c.opened-open.ensures.few in
    let lower : c.args.below ≡ suc (c.args.below - 1) = omega arith in
    let done = rw (c.kid.ensures, c.place-inner.ensures.left, c.place-inner.ensures.right) at c.apply-kid.ensures.applied in
    descended_at m.is_value m.empty m.op c.args.nodes.now c.args.at c.args.below (c.args.below - 1) c.args.place.left c.args.place.right c.args.change slots last c.peek.result.now.agg c.peek.result.now.leaf lower c.requires read fits c.rank-i.result c.apply-kid.new.nodes c.settle-open.new.nodes c.apply-kid.result.taken (listed c.apply-kid.result.open.slots) c.apply-kid.result.open.last (listed c.settle-open.result.slots) c.settle-open.result.last c.rank-i.ensures c.in_default.ensures.none done c.settle-open.ensures.settled

pub returns-in-Some-item-clause-applied : goal.returns-in-Some-item-clause-applied
returns-in-Some-item-clause-applied g t c =
    let m = g.M.Monoid in
    let slots = listed c.opened-open.result.slots in
    let last = c.opened-open.result.last in
    let read = node_is c.args.nodes.now c.args.at c.peek.result.now slots last c.peek.ensures.found c.opened-open.ensures.slots c.opened-open.ensures.last in
    rw (c.with_item.ensures.slots, c.with_item.ensures.last) (applied_item m.is_value m.empty m.op c.args.nodes.now c.args.at c.args.below c.args.place.left c.args.place.right c.args.change slots last c.peek.result.now.agg c.peek.result.now.leaf c.requires read c.rank-i.result c.in-Some-item.item c.in-Some.old c.opened-open.ensures.few c.in-Some.ensures.there c.in-Some.ensures.some (sym c.in-Some-item.ensures))

pub apply-kid-requires-2 : goal.apply-kid-requires-2
apply-kid-requires-2 g t c =
    let m = g.M.Monoid in
    let slots = listed c.opened-open.result.slots in
    let last = c.opened-open.result.last in
    let read = node_is c.args.nodes.now c.args.at c.peek.result.now slots last c.peek.ensures.found c.opened-open.ensures.slots c.opened-open.ensures.last in
    let fits = c.opened-open.ensures.few in
    let lower : c.args.below ≡ suc (c.args.below - 1) = omega arith in
    let kid = kid_can_at m.is_value m.empty m.op c.args.nodes.now c.args.at c.args.below (c.args.below - 1) c.args.place.left c.args.place.right c.args.change slots last c.peek.result.now.agg c.peek.result.now.leaf lower c.requires read fits (c.rank-i.result + 1) First (omega arith) tt in
    λ κs w. (omega arith, (w.0, (w.1, rw (c.kid-next.ensures, c.place-inner-2.ensures.left, c.place-inner-2.ensures.right) kid)))

pub settle-open-requires-2-clause-nested : goal.settle-open-requires-2-clause-nested
settle-open-requires-2-clause-nested g t c =
    let m = g.M.Monoid in
    let slots = listed c.opened-open.result.slots in
    let last = c.opened-open.result.last in
    let read = node_is c.args.nodes.now c.args.at c.peek.result.now slots last c.peek.ensures.found c.opened-open.ensures.slots c.opened-open.ensures.last in
    let fits = c.opened-open.ensures.few in
    let lower : c.args.below ≡ suc (c.args.below - 1) = omega arith in
    let done = rw (c.kid-next.ensures, c.place-inner-2.ensures.left, c.place-inner-2.ensures.right) at c.apply-kid-2.ensures.applied in
    rw (c.with_item-2.ensures.slots, c.with_item-2.ensures.last) (item_nested_at m.is_value m.empty m.op c.args.nodes.now c.args.at c.args.below (c.args.below - 1) c.args.place.left c.args.place.right c.args.change slots last c.peek.result.now.agg c.peek.result.now.leaf lower c.requires read fits c.rank-i.result (c.rank-i.result + 1) (omega arith) c.apply-kid-2.new.nodes c.apply-kid-2.result.taken c.unwrap.result c.unwrap.ensures (listed c.apply-kid-2.result.open.slots) c.apply-kid-2.result.open.last done (place_within c.in-Some.ensures.there))

pub settle-open-requires-2-clause-room : goal.settle-open-requires-2-clause-room
settle-open-requires-2-clause-room g t c =
    let m = g.M.Monoid in
    let slots = listed c.opened-open.result.slots in
    let last = c.opened-open.result.last in
    let read = node_is c.args.nodes.now c.args.at c.peek.result.now slots last c.peek.ensures.found c.opened-open.ensures.slots c.opened-open.ensures.last in
    let fits = c.opened-open.ensures.few in
    let lower : c.args.below ≡ suc (c.args.below - 1) = omega arith in
    let done = rw (c.kid-next.ensures, c.place-inner-2.ensures.left, c.place-inner-2.ensures.right) at c.apply-kid-2.ensures.applied in
    kid_room_at m.is_value m.empty m.op c.args.nodes.now c.args.at c.args.below (c.args.below - 1) c.args.place.left c.args.place.right c.args.change slots last c.peek.result.now.agg c.peek.result.now.leaf lower c.requires read fits (c.rank-i.result + 1) c.apply-kid-2.new.nodes First c.apply-kid-2.result.taken (listed c.apply-kid-2.result.open.slots) c.apply-kid-2.result.open.last (omega arith) tt done

pub returns-clause-applied : goal.returns-clause-applied
returns-clause-applied g t c =
    let m = g.M.Monoid in
    let slots = listed c.opened-open.result.slots in
    let last = c.opened-open.result.last in
    let read = node_is c.args.nodes.now c.args.at c.peek.result.now slots last c.peek.ensures.found c.opened-open.ensures.slots c.opened-open.ensures.last in
    let fits = c.opened-open.ensures.few in
    let lower : c.args.below ≡ suc (c.args.below - 1) = omega arith in
    let done = rw (c.kid-next.ensures, c.place-inner-2.ensures.left, c.place-inner-2.ensures.right) at c.apply-kid-2.ensures.applied in
    let settled = rw (c.with_item-2.ensures.slots, c.with_item-2.ensures.last) at c.settle-open-2.ensures.settled in
    removed_at m.is_value m.empty m.op c.args.nodes.now c.args.at c.args.below (c.args.below - 1) c.args.place.left c.args.place.right c.args.change slots last c.peek.result.now.agg c.peek.result.now.leaf lower c.requires read fits c.rank-i.result (c.rank-i.result + 1) (omega arith) c.apply-kid-2.new.nodes c.apply-kid-2.result.taken c.unwrap.result c.unwrap.ensures (listed c.apply-kid-2.result.open.slots) c.apply-kid-2.result.open.last done c.settle-open-2.new.nodes c.in-Some.old (listed c.settle-open-2.result.slots) c.settle-open-2.result.last c.in-Some.ensures.there c.in-Some.ensures.some c.in-Some.ensures.other (sym c.in_default-item.ensures) settled

pub returns-then-below-eq0-clause-paid : goal.returns-then-below-eq0-clause-paid
returns-then-below-eq0-clause-paid g t c =
    let m = g.M.Monoid in
    let slots = listed c.opened-open.result.slots in
    let last = c.opened-open.result.last in
    let own : held (look c.args.nodes.now c.args.at) ≡ length slots = held_is (look c.args.nodes.now c.args.at) c.peek.result.now slots c.peek.ensures.found c.opened-open.ensures.slots in
    let row = listed c.leaf_applied.result.open.slots in
    let a = length-map slots (λ s. pair_of s.item) in
    let b = length-map row (λ s. pair_of s.item) in
    paid_leaf c.args.change c.leaf_applied.result.taken (leaf_pairs slots) (leaf_pairs row) (full_nodes c.args.nodes.now) c.args.nodes.now.spare (held (look c.args.nodes.now c.args.at)) (length row) c.leaf_applied.ensures.applies (omega arith) (omega arith)

pub returns-in_default-clause-paid : goal.returns-in_default-clause-paid
returns-in_default-clause-paid g t c =
    let m = g.M.Monoid in
    let slots = listed c.opened-open.result.slots in
    let last = c.opened-open.result.last in
    let read = node_is c.args.nodes.now c.args.at c.peek.result.now slots last c.peek.ensures.found c.opened-open.ensures.slots c.opened-open.ensures.last in
    let fits = c.opened-open.ensures.few in
    let lower : c.args.below ≡ suc (c.args.below - 1) = omega arith in
    let own : held (look c.args.nodes.now c.args.at) ≡ length slots = held_is (look c.args.nodes.now c.args.at) c.peek.result.now slots c.peek.ensures.found c.opened-open.ensures.slots in
    let kid = kid_can_at m.is_value m.empty m.op c.args.nodes.now c.args.at c.args.below (c.args.below - 1) c.args.place.left c.args.place.right c.args.change slots last c.peek.result.now.agg c.peek.result.now.leaf lower c.requires read fits c.rank-i.result c.args.change (omega arith) c.requires.value in
    let done = rw (c.kid.ensures, c.place-inner.ensures.left, c.place-inner.ensures.right) at c.apply-kid.ensures.applied in
    let there = is_there m.is_value m.empty m.op c.args.nodes.now (suc (c.args.below - 1)) _ _ (kid_of slots last c.rank-i.result) (omega arith) kid.sound in
    let same : held (look c.args.nodes.now c.kid.result) ≡ held (look c.args.nodes.now (kid_of slots last c.rank-i.result)) = ap (λ k. held (look c.args.nodes.now k)) c.kid.ensures in
    let was : held (look c.apply-kid.new.nodes (kid_of slots last c.rank-i.result)) ≡ held (look c.args.nodes.now c.kid.result) = ap held done.stays ∙ sym same in
    let some = held_some (look c.args.nodes.now (kid_of slots last c.rank-i.result)) there in
    let s = c.settle-open.ensures in
    let fit = s.settled.fits in
    let p = paid_below c.args.change (full_nodes c.args.nodes.now) (full_nodes c.apply-kid.new.nodes) (full_nodes c.settle-open.new.nodes) c.args.nodes.now.spare c.apply-kid.new.nodes.spare c.settle-open.new.nodes.spare (held (look c.args.nodes.now c.kid.result)) (length (listed c.apply-kid.result.open.slots)) (length slots) (length (listed c.settle-open.result.slots)) (held (look c.apply-kid.new.nodes (kid_of slots last c.rank-i.result))) c.apply-kid.ensures.paid was (held_few (look c.args.nodes.now c.kid.result)) (omega arith) c.apply-kid.ensures.some s.full s.even fit s.kept s.taken in
    rw own p

pub returns-in-Some-item-clause-paid : goal.returns-in-Some-item-clause-paid
returns-in-Some-item-clause-paid g t c =
    let m = g.M.Monoid in
    let slots = listed c.opened-open.result.slots in
    let last = c.opened-open.result.last in
    let own : held (look c.args.nodes.now c.args.at) ≡ length slots = held_is (look c.args.nodes.now c.args.at) c.peek.result.now slots c.peek.ensures.found c.opened-open.ensures.slots in
    let e = ap length c.with_item.ensures.slots in
    let l = length-with_item slots c.rank-i.result c.in-Some-item.item in
    paid_same c.args.change (full_nodes c.args.nodes.now) c.args.nodes.now.spare (held (look c.args.nodes.now c.args.at)) (length (listed c.with_item.result.slots)) (omega arith)

pub returns-clause-paid : goal.returns-clause-paid
returns-clause-paid g t c =
    let m = g.M.Monoid in
    let slots = listed c.opened-open.result.slots in
    let last = c.opened-open.result.last in
    let read = node_is c.args.nodes.now c.args.at c.peek.result.now slots last c.peek.ensures.found c.opened-open.ensures.slots c.opened-open.ensures.last in
    let fits = c.opened-open.ensures.few in
    let lower : c.args.below ≡ suc (c.args.below - 1) = omega arith in
    let own : held (look c.args.nodes.now c.args.at) ≡ length slots = held_is (look c.args.nodes.now c.args.at) c.peek.result.now slots c.peek.ensures.found c.opened-open.ensures.slots in
    let done = rw (c.kid-next.ensures, c.place-inner-2.ensures.left, c.place-inner-2.ensures.right) at c.apply-kid-2.ensures.applied in
    let same : held (look c.args.nodes.now c.kid-next.result) ≡ held (look c.args.nodes.now (kid_of slots last (c.rank-i.result + 1))) = ap (λ k. held (look c.args.nodes.now k)) c.kid-next.ensures in
    let s = rw c.with_item-2.ensures.last at c.settle-open-2.ensures.full in
    let fit = c.settle-open-2.ensures.settled.fits in
    let row = listed c.with_item-2.result.slots in
    let e = ap length c.with_item-2.ensures.slots in
    let l = length-with_item slots c.rank-i.result c.unwrap.result in
    let k : kid_of row last (c.rank-i.result + 1) ≡ kid_of slots last (c.rank-i.result + 1) = ap (λ xs. kid_of xs last (c.rank-i.result + 1)) c.with_item-2.ensures.slots ∙ kid-with_item slots last c.rank-i.result c.unwrap.result (c.rank-i.result + 1) in
    let was : held (look c.apply-kid-2.new.nodes (kid_of row last (c.rank-i.result + 1))) ≡ held (look c.args.nodes.now c.kid-next.result) = ap (λ k. held (look c.apply-kid-2.new.nodes k)) k ∙ ap held done.stays ∙ sym same in
    let p = paid_out c.args.change (full_nodes c.args.nodes.now) (full_nodes c.apply-kid-2.new.nodes) (full_nodes c.settle-open-2.new.nodes) c.args.nodes.now.spare c.apply-kid-2.new.nodes.spare c.settle-open-2.new.nodes.spare (held (look c.args.nodes.now c.kid-next.result)) (length (listed c.apply-kid-2.result.open.slots)) (length slots) (length (listed c.settle-open-2.result.slots)) (held (look c.apply-kid-2.new.nodes (kid_of row last (c.rank-i.result + 1)))) (sym c.in_default-item.ensures) c.apply-kid-2.ensures.paid was (held_few (look c.args.nodes.now c.kid-next.result)) s (omega arith) in
    rw own p
