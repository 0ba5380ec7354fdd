-- The previous child is sound, so its items and children come before those of the opened child.
use Rattle.std.proofs.Common.{◌≡◌, false, ◌-◌, ◌++◌, ◌∷◌, suc, Some, IsSome, sym, subst, arith}
use Rattle.fiba_nodes.specs.Rows.{listed, slots_of, last_of}
use Rattle.fiba_nodes.specs.Stores.{Puts, look}
use Rattle.fiba_nodes.specs.Kids.{kid_of, left_of}
use Rattle.fiba_nodes.proofs.Opened.{is_there}
use Rattle.fiba_nodes.proofs.Fullness.{full_puts}
use Rattle.fiba_nodes.proofs.Nesting.{previous_there, filled_previous, row_previous}
use Rattle.fiba_nodes.proofs.settling.with_previous.Goals as goal

pub peek-node-requires : goal.peek-node-requires
peek-node-requires g c =
    let m = g.M.Monoid in
    let nest = c.args.nest.now in
    let slots = listed nest.row.slots in
    let at = nest.at - 1 in
    subst (λ q. IsSome (look c.args.nodes.now q)) (sym c.kid.ensures) (is_there m.is_value m.empty m.op c.args.nodes.now (suc c.args.height) (left_of c.args.place.left slots at) false (kid_of slots nest.row.last at) (omega arith) (previous_there m.is_value m.empty m.op c.args.nodes.now c.args.height c.args.place.left c.args.place.right slots nest.row.last nest.at at (listed nest.child.slots) nest.child.last c.peek.result.now (omega arith) c.requires.empty.nested c.peek.ensures))

pub returns : goal.returns
returns g c =
    let m = g.M.Monoid in
    let nest = c.args.nest.now in
    let slots = listed nest.row.slots in
    let child = listed nest.child.slots in
    let at = nest.at - 1 in
    let found : look c.args.nodes.now (kid_of slots nest.row.last at) ≡ Some c.peek-node.result.now = subst (λ q. look c.args.nodes.now q ≡ Some c.peek-node.result.now) c.kid.ensures c.peek-node.ensures.found in
    let freed = subst (λ q. Puts c.args.nodes.now c.free.new.self q _) c.kid-2.ensures c.free.ensures.freed in
    let filled = filled_previous m.is_value m.empty m.op c.args.nodes.now c.args.height c.args.place.left c.args.place.right slots nest.row.last nest.at at child nest.child.last c.peek.result.now (omega arith) c.requires.empty.nested c.peek.ensures c.requires.empty.none c.free.new.self c.peek-node.result.now found freed c.free.ensures.spare in
    let row : listed c.joined.result ≡ slots_of c.peek-node.result.now ++ record { kid = last_of c.peek-node.result.now; item = c.peek.result.now.item } ∷ child = row_previous (listed c.joined.result) (listed c.pushed-front.result) (listed c.slots.result) (slots_of c.peek-node.result.now) child c.last-kid.result (last_of c.peek-node.result.now) c.peek.result.now.item c.joined.ensures c.pushed-front.ensures c.slots.ensures.slots c.last-kid.ensures in
    let gone = full_puts c.args.nodes.now c.free.new.self (kid_of slots nest.row.last nest.at) _ freed in
    record {
      filled = rw (c.thinned.ensures.slots, c.thinned.ensures.last, row) filled;
      spare = omega (arith, c.free.ensures.spare);
      full = omega arith;
      rises = omega (arith, c.peek-node.ensures.looks.rises);
      within = omega (arith, c.peek-node.ensures.looks.within);
    }
