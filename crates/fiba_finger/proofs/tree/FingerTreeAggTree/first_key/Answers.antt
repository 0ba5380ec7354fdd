-- A tree of height 0 is empty; another one has a first pair.
use Rattle.std.proofs.Common.{◌≡◌, ◌-◌, [], Some, true, suc, refl, sym, ap, subst, ◌∙◌, arith}
use Rattle.agg_laws.specs.Pairs.{AreRising}
use Rattle.std.specs.Prelude.{slice_get}
use Rattle.fiba_nodes.specs.Trees.{IsAt, pair_of, pairs_at, plain, vacancy}
use Rattle.fiba_nodes.proofs.Tops.{key_of_first}
use Rattle.fiba_nodes.proofs.Opened.{is_some, no_pairs}
use Rattle.fiba_finger.proofs.Lefts.{IsLeast, least_of, left_least}
use Rattle.fiba_finger.proofs.tree.FingerTreeAggTree.first_key.Goals as goal

pub returns-then-self-eq0 : goal.returns-then-self-eq0
returns-then-self-eq0 g c =
    let e : c.args.self.now.table.pairs ≡ [] = sym (ap (λ v. v.table.pairs) c.self.view_is) ∙ no_pairs (plain c.self.inside.nodes) c.self.inside.root.height c.self.inside.root.at c.if-self-eq0.true in
    record {
      least = rw e refl;
      none = (λ x. e, λ x. refl);
      rising = subst AreRising (ap (λ v. v.table.pairs) c.self.view_is) c.self.invariant.arena.rising;
    }

pub peek-requires : goal.peek-requires
peek-requires g c =
    let m = g.M.Monoid in
    let nodes = c.self.inside.nodes in
    let root = c.self.inside.root in
    let high : root.height ≡ suc (root.height - 1) = omega arith in
    let sound : IsAt m.is_value m.empty m.op (plain nodes) (suc (root.height - 1)) true true root.at = subst (λ h. IsAt m.is_value m.empty m.op (plain nodes) h true true root.at) high c.self.invariant.arena.tree.sound in
    let here : IsLeast (plain nodes) c.self.inside.front (pairs_at (plain nodes) (suc (root.height - 1)) root.at) = subst (λ k. IsLeast (plain nodes) k (pairs_at (plain nodes) (suc (root.height - 1)) root.at)) (sym (c.self.invariant.first (root.height - 1) high)) (left_least m.is_value m.empty m.op (plain nodes) (root.height - 1) true true root.at sound) in
    is_some nodes c.self.inside.front (ap vacancy here.is)

pub returns : goal.returns
returns g c =
    let m = g.M.Monoid in
    let nodes = c.self.inside.nodes in
    let root = c.self.inside.root in
    let high : root.height ≡ suc (root.height - 1) = omega arith in
    let sound : IsAt m.is_value m.empty m.op (plain nodes) (suc (root.height - 1)) true true root.at = subst (λ h. IsAt m.is_value m.empty m.op (plain nodes) h true true root.at) high c.self.invariant.arena.tree.sound in
    let here : IsLeast (plain nodes) c.self.inside.front (pairs_at (plain nodes) (suc (root.height - 1)) root.at) = subst (λ k. IsLeast (plain nodes) k (pairs_at (plain nodes) (suc (root.height - 1)) root.at)) (sym (c.self.invariant.first (root.height - 1) high)) (left_least m.is_value m.empty m.op (plain nodes) (root.height - 1) true true root.at sound) in
    let first : slice_get (pairs_at (plain nodes) (suc (root.height - 1)) root.at) 0 ≡ Some (pair_of c.peek.result.now.first) = least_of nodes c.self.inside.front (pairs_at (plain nodes) (suc (root.height - 1)) root.at) c.peek.result.now here c.peek.ensures.found in
    let same : pairs_at (plain nodes) (suc (root.height - 1)) root.at ≡ c.args.self.now.table.pairs = ap (λ h. pairs_at (plain nodes) h root.at) (sym high) ∙ ap (λ v. v.table.pairs) c.self.view_is in
    let key = key_of_first c.args.self.now.table.pairs c.peek.result.now.first (subst (λ ps. slice_get ps 0 ≡ Some (pair_of c.peek.result.now.first)) same first) in
    record {
      least = key.0;
      none = (λ x. cc, λ e. absurd (key.1 e));
      rising = subst AreRising (ap (λ v. v.table.pairs) c.self.view_is) c.self.invariant.arena.rising;
    }
