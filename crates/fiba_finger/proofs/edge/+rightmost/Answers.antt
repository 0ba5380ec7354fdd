-- The last child is sound, and the edge goes on there.
use Rattle.std.proofs.Common.{◌≡◌, ◌-◌, true, false, suc, sym, ap, subst, ◌∙◌, arith}
use Rattle.std.specs.Option.{option_map}
use Rattle.fiba_nodes.specs.Rows.{plain_node}
use Rattle.fiba_nodes.specs.Trees.{IsAt, plain}
use Rattle.fiba_nodes.proofs.Opened.{is_there}
use Rattle.fiba_finger.specs.Edges.{edge}
use Rattle.fiba_finger.proofs.Edges.{edge_last, edge_suc, kid_sound}
use Rattle.fiba_finger.proofs.edge.+rightmost.Goals as goal

pub returns-then-below-eq0-clause-leaf : goal.returns-then-below-eq0-clause-leaf
returns-then-below-eq0-clause-leaf g t c = edge_last (plain c.args.nodes.now) c.args.below c.args.at c.if-below-eq0.true

pub peek-requires : goal.peek-requires
peek-requires g t c =
    let m = g.M.Monoid in
    is_there m.is_value m.empty m.op c.args.nodes.now (suc c.args.below) c.args.left true c.args.at (omega arith) c.requires

pub rightmost-requires : goal.rightmost-requires
rightmost-requires g t c =
    let m = g.M.Monoid in
    let lower : c.args.below ≡ suc (c.args.below - 1) = omega arith in
    let kid = kid_sound m.is_value m.empty m.op (plain c.args.nodes.now) c.args.below c.args.left c.args.at (plain_node c.peek.result.now) (ap (option_map plain_node) c.peek.ensures.found) c.requires in
    λ κs w. (omega arith, (w, rw c.last-last.ensures (subst (λ h. IsAt m.is_value m.empty m.op (plain c.args.nodes.now) h false true (plain_node c.peek.result.now).last) lower kid)))

pub returns-clause-leaf : goal.returns-clause-leaf
returns-clause-leaf g t c =
    let lower : suc (c.args.below - 1) ≡ c.args.below = omega arith in
    c.rightmost.ensures.leaf ∙ ap (edge (plain c.args.nodes.now) (c.args.below - 1)) c.last-last.ensures ∙ sym (edge_suc (plain c.args.nodes.now) (c.args.below - 1) c.args.at (plain_node c.peek.result.now) (ap (option_map plain_node) c.peek.ensures.found)) ∙ ap (λ d. edge (plain c.args.nodes.now) d c.args.at) lower
