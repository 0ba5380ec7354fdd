-- The node that was written last stands on the edge, which goes on below it to the finger.
use Rattle.std.proofs.Common.{◌≡◌, ◌-◌, suc, true, sym, ap, subst, ◌∙◌, arith}
use Rattle.fiba_nodes.specs.Trees.{IsAt, plain}
use Rattle.fiba_finger.specs.Edges.{edge, left_edge}
use Rattle.fiba_finger.proofs.Edges.{edge_parts, edge_sound, left_at}
use Rattle.fiba_finger.proofs.Raising.{left_is}
use Rattle.fiba_finger.proofs.Sprouting.{sprout_taken}
use Rattle.fiba_finger.proofs.put.put_near.Goals as goal

pub rightmost-requires : goal.rightmost-requires
rightmost-requires g c =
    let m = g.M.Monoid in
    let new = c.raise-raised.new.nodes in
    let root = c.raise-raised.result.root in
    let below = c.raise-raised.result.top.below in
    let r = c.raise-raised.ensures.raised in
    let d = root.height - 1 - below in
    let k = edge_sound m.is_value m.empty m.op (plain new) root.height d root.at (suc below) true (omega (arith, r.edge.within)) r.changed.tree.sound in
    let at : IsAt m.is_value m.empty m.op (plain new) (suc below) (left_at true d) true c.raise-raised.result.top.at = subst (λ n. IsAt m.is_value m.empty m.op (plain new) (suc below) (left_at true d) true n) r.edge.stands k in
    subst (λ b. IsAt m.is_value m.empty m.op (plain new) (suc below) b true c.raise-raised.result.top.at) (sym (left_is root.height below r.edge.within)) at

pub returns-clause-finger : goal.returns-clause-finger
returns-clause-finger g c b e =
    let new = c.raise-raised.new.nodes in
    let root = c.raise-raised.result.root in
    let below = c.raise-raised.result.top.below in
    let r = c.raise-raised.ensures.raised in
    let d = root.height - 1 - below in
    c.rightmost.ensures.leaf ∙ ap (edge (plain new) below) (sym r.edge.stands) ∙ sym (edge_parts (plain new) b d below root.at (omega (arith, r.edge.within, e)))

pub returns-then-root-eq0-clause-taken : goal.returns-then-root-eq0-clause-taken
returns-then-root-eq0-clause-taken g c =
    let m = g.M.Monoid in
    let changed = rw (c.right_place-place.ensures.left, c.right_place-place.ensures.right) at c.change_root.ensures.changed in
    sprout_taken m.is_value m.empty m.op c.args.nodes.now c.change_root.new.nodes c.args.root c.change_root.result.root c.args.item c.change_root.result.taken c.if-root-eq0.true changed

pub front_after-requires : goal.front_after-requires
front_after-requires g c =
    let r = c.raise-raised.ensures.raised in
    let high : c.args.root.height ≡ suc (c.args.root.height - 1) = omega arith in
    record {
      tree = r.changed.tree;
      within = r.edge.within;
      stays = λ lt b e. c.requires.front (c.args.root.height - 1) high ∙ sym (r.front lt).1 ∙ ap (λ n. left_edge (plain c.raise-raised.new.nodes) n c.raise-raised.result.root.at) (omega (arith, (r.front lt).0, e));
    }
