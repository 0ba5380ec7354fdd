-- The next child is sound, so its items and children come behind those of the opened child.
use Rattle.std.proofs.Common.{◌≡◌, false, ◌++◌, ◌∷◌, suc, Some, IsSome, sym, ap, subst, ◌∙◌, arith}
use Rattle.fiba_nodes.specs.Rows.{listed, slots_of}
use Rattle.fiba_nodes.specs.Stores.{Puts, fullness, held, look}
use Rattle.fiba_nodes.specs.Kids.{kid_of, right_of, thinned, thinned_last}
use Rattle.fiba_nodes.proofs.Lists.{pushed_joined}
use Rattle.fiba_nodes.proofs.Opened.{is_there}
use Rattle.fiba_nodes.proofs.Fullness.{full_puts}
use Rattle.fiba_nodes.proofs.Nesting.{next_there, next_apart, filled_next}
use Rattle.fiba_nodes.proofs.settling.with_next.Goals as goal

pub peek-node-requires : goal.peek-node-requires
peek-node-requires g c =
    let m = g.M.Monoid in
    let nest = c.args.nest.now in
    let slots = listed nest.row.slots in
    let k : c.kid-next.result ≡ kid_of slots nest.row.last (suc nest.at) = c.kid-next.ensures ∙ ap (kid_of slots nest.row.last) (omega arith) in
    subst (λ q. IsSome (look c.args.nodes.now q)) (sym k) (is_there m.is_value m.empty m.op c.args.nodes.now (suc c.args.height) false (right_of c.args.place.right (thinned slots nest.at) nest.at) (kid_of slots nest.row.last (suc nest.at)) (omega arith) (next_there m.is_value m.empty m.op c.args.nodes.now c.args.height c.args.place.left c.args.place.right slots nest.row.last nest.at (listed nest.child.slots) nest.child.last c.peek.result.now c.requires.empty.nested c.peek.ensures))

pub returns : goal.returns
returns g c =
    let m = g.M.Monoid in
    let nest = c.args.nest.now in
    let slots = listed nest.row.slots in
    let child = listed nest.child.slots in
    let k : c.kid-next.result ≡ kid_of slots nest.row.last (suc nest.at) = c.kid-next.ensures ∙ ap (kid_of slots nest.row.last) (omega arith) in
    let found : look c.args.nodes.now (kid_of slots nest.row.last (suc nest.at)) ≡ Some c.peek-node.result.now = subst (λ q. look c.args.nodes.now q ≡ Some c.peek-node.result.now) k c.peek-node.ensures.found in
    let freed = subst (λ q. Puts c.args.nodes.now c.free.new.self q _) k c.free.ensures.freed in
    let filled = filled_next m.is_value m.empty m.op c.args.nodes.now c.free.new.self c.args.height c.args.place.left c.args.place.right slots nest.row.last nest.at child nest.child.last c.peek.result.now c.peek-node.result.now c.requires.empty.nested c.peek.ensures c.requires.inner c.requires.empty.none found freed c.free.ensures.spare in
    let row : listed c.joined.result ≡ child ++ record { kid = nest.child.last; item = c.peek.result.now.item } ∷ slots_of c.peek-node.result.now = pushed_joined (listed c.joined.result) (listed c.pushed-front.result) child (listed c.slots-behind.result) (slots_of c.peek-node.result.now) (record { kid = nest.child.last; item = c.peek.result.now.item }) c.joined.ensures c.pushed-front.ensures c.slots-behind.ensures.slots in
    let apart = next_apart m.is_value m.empty m.op c.args.nodes.now c.free.new.self c.args.height c.args.place.left c.args.place.right slots nest.row.last nest.at child nest.child.last c.peek.result.now c.peek-node.result.now c.requires.empty.nested c.peek.ensures c.requires.inner c.requires.empty.none found freed in
    let same : fullness (held (look c.free.new.self (kid_of (thinned slots nest.at) (thinned_last slots nest.row.last nest.at) nest.at))) ≡ fullness (held (look c.args.nodes.now (kid_of slots nest.row.last nest.at))) = ap (λ o. fullness (held o)) apart in
    let gone = full_puts c.args.nodes.now c.free.new.self (kid_of slots nest.row.last (suc nest.at)) _ freed in
    record {
      filled = rw (c.thinned.ensures.slots, c.thinned.ensures.last, c.last-last.ensures, row) filled;
      spare = omega (arith, c.free.ensures.spare);
      full = rw (c.thinned.ensures.slots, c.thinned.ensures.last) (omega arith);
      rises = omega (arith, c.peek-node.ensures.looks.rises);
      within = omega (arith, c.peek-node.ensures.looks.within);
    }
