-- The first child is sound, and the edge goes on there.
use Rattle.std.proofs.Common.{◌≡◌, ◌-◌, false, suc, sym, ap, subst, ◌∙◌, arith}
use Rattle.std.specs.Option.{option_map}
use Rattle.fiba_nodes.specs.Rows.{plain_node}
use Rattle.fiba_nodes.specs.Trees.{IsAt, plain}
use Rattle.fiba_nodes.proofs.Opened.{is_there}
use Rattle.fiba_nodes.proofs.Sound.{node_of}
use Rattle.fiba_finger.specs.Edges.{left_edge}
use Rattle.fiba_finger.proofs.Lefts.{left_last, left_suc}
use Rattle.fiba_finger.proofs.edge.+leftmost.Goals as goal

pub returns-then-below-eq0-clause-leaf : goal.returns-then-below-eq0-clause-leaf
returns-then-below-eq0-clause-leaf g t c = left_last (plain c.args.nodes.now) c.args.below c.args.at c.if-below-eq0.true

pub peek-requires : goal.peek-requires
peek-requires g t c =
    let m = g.M.Monoid in
    is_there m.is_value m.empty m.op c.args.nodes.now (suc c.args.below) c.args.place.left c.args.place.right c.args.at (omega arith) c.requires

pub leftmost-requires : goal.leftmost-requires
leftmost-requires g t c =
    let m = g.M.Monoid in
    let s = plain c.args.nodes.now in
    let node = node_of m.is_value m.empty m.op s c.args.below c.args.place.left c.args.place.right c.args.at (plain_node c.peek.result.now) (ap (option_map plain_node) c.peek.ensures.found) c.requires in
    let kid : IsAt m.is_value m.empty m.op s c.args.below c.args.place.left false c.first_kid-kid.result = rw c.first_kid-kid.ensures node.kids.0 in
    let lower : c.args.below ≡ suc (c.args.below - 1) = omega arith in
    λ κs w. (omega arith, (w, rw c.front.ensures (subst (λ h. IsAt m.is_value m.empty m.op s h c.args.place.left false c.first_kid-kid.result) lower kid)))

pub returns-clause-leaf : goal.returns-clause-leaf
returns-clause-leaf g t c =
    let s = plain c.args.nodes.now in
    let lower : suc (c.args.below - 1) ≡ c.args.below = omega arith in
    c.leftmost.ensures.leaf ∙ ap (left_edge s (c.args.below - 1)) c.first_kid-kid.ensures ∙ sym (left_suc s (c.args.below - 1) c.args.at (plain_node c.peek.result.now) (ap (option_map plain_node) c.peek.ensures.found)) ∙ ap (λ d. left_edge s d c.args.at) lower
