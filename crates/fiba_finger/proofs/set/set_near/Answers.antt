-- The node that was reached still stands on the edge, which goes on below it to the finger.
use Rattle.std.proofs.Common.{◌-◌, suc, true, sym, ap, subst, ◌∙◌, arith}
use Rattle.fiba_nodes.specs.Trees.{IsAt, plain}
use Rattle.fiba_finger.specs.Edges.{edge}
use Rattle.fiba_finger.proofs.Edges.{edge_parts, edge_sound, left_at}
use Rattle.fiba_finger.proofs.Raising.{left_is}
use Rattle.fiba_finger.proofs.set.set_near.Goals as goal

pub rightmost-requires : goal.rightmost-requires
rightmost-requires g c =
    let m = g.M.Monoid in
    let new = c.renew.new.nodes in
    let root = c.args.root in
    let below = c.climb-near.result.below in
    let at = c.climb-near.result.at in
    let r = c.renew.ensures.raised in
    let d = root.height - 1 - below in
    let k = edge_sound m.is_value m.empty m.op (plain new) root.height d root.at (suc below) true (omega (arith, r.edge.within)) r.changed.tree.sound in
    let sound : IsAt m.is_value m.empty m.op (plain new) (suc below) (left_at true d) true at = subst (λ n. IsAt m.is_value m.empty m.op (plain new) (suc below) (left_at true d) true n) r.edge.stands k in
    subst (λ b. IsAt m.is_value m.empty m.op (plain new) (suc below) b true at) (sym (left_is root.height below r.edge.within)) sound

pub returns-clause-finger : goal.returns-clause-finger
returns-clause-finger g c b e =
    let new = c.renew.new.nodes in
    let root = c.args.root in
    let below = c.climb-near.result.below in
    let r = c.renew.ensures.raised in
    let d = root.height - 1 - below in
    c.rightmost.ensures.leaf ∙ ap (edge (plain new) below) (sym r.edge.stands) ∙ sym (edge_parts (plain new) b d below root.at (omega (arith, r.edge.within, e)))
