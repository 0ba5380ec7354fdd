-- The first leaf has the first item.
use Rattle.std.proofs.Common.{◌≡◌, ◌-◌, Some, suc, true, sym, ap, subst, arith}
use Rattle.std.specs.Prelude.{slice_get}
use Rattle.fiba_nodes.specs.Trees.{IsAt, pair_of, pairs_at, plain, vacancy}
use Rattle.fiba_nodes.specs.Roots.{CanChange}
use Rattle.fiba_nodes.specs.declared.change.Change.TheVariants.{Remove}
use Rattle.fiba_nodes.proofs.Opened.{is_some}
use Rattle.fiba_finger.proofs.Lefts.{IsLeast, least_of, left_least}
use Rattle.fiba_finger.proofs.take.take.Goals as goal

pub peek-requires : goal.peek-requires
peek-requires g c =
    let m = g.M.Monoid in
    let nodes = c.args.nodes.now in
    let root = c.args.root in
    let high : root.height ≡ suc (root.height - 1) = omega arith in
    let sound : IsAt m.is_value m.empty m.op (plain nodes) (suc (root.height - 1)) true true root.at = subst (λ h. IsAt m.is_value m.empty m.op (plain nodes) h true true root.at) high c.requires.can.tree.sound in
    let here : IsLeast (plain nodes) c.args.front (pairs_at (plain nodes) (suc (root.height - 1)) root.at) = subst (λ k. IsLeast (plain nodes) k (pairs_at (plain nodes) (suc (root.height - 1)) root.at)) (sym (c.requires.front (root.height - 1) high)) (left_least m.is_value m.empty m.op (plain nodes) (root.height - 1) true true root.at sound) in
    is_some nodes c.args.front (ap vacancy here.is)

pub take_first-requires : goal.take_first-requires
take_first-requires g c =
    let m = g.M.Monoid in
    let nodes = c.args.nodes.now in
    let root = c.args.root in
    let high : root.height ≡ suc (root.height - 1) = omega arith in
    let sound : IsAt m.is_value m.empty m.op (plain nodes) (suc (root.height - 1)) true true root.at = subst (λ h. IsAt m.is_value m.empty m.op (plain nodes) h true true root.at) high c.requires.can.tree.sound in
    let here : IsLeast (plain nodes) c.args.front (pairs_at (plain nodes) (suc (root.height - 1)) root.at) = subst (λ k. IsLeast (plain nodes) k (pairs_at (plain nodes) (suc (root.height - 1)) root.at)) (sym (c.requires.front (root.height - 1) high)) (left_least m.is_value m.empty m.op (plain nodes) (root.height - 1) true true root.at sound) in
    let first : slice_get (pairs_at (plain nodes) (suc (root.height - 1)) root.at) 0 ≡ Some (pair_of c.peek.result.now.first) = least_of nodes c.args.front (pairs_at (plain nodes) (suc (root.height - 1)) root.at) c.peek.result.now here c.peek.ensures.found in
    record {
      can = subst (λ k. CanChange m.is_value m.empty m.op nodes root true true (Remove k)) (omega arith) c.requires.can;
      some = omega arith;
      first = subst (λ h. slice_get (pairs_at (plain nodes) h root.at) 0 ≡ Some (pair_of c.peek.result.now.first)) (sym high) first;
    }
