-- A tree of height 0 is empty; another one has a first pair.
use Rattle.std.proofs.Common.{subst, ◌≡◌, [], refl, sym, ap, ◌∙◌}
use Rattle.agg_laws.specs.Pairs.{AreRising}
use Rattle.fiba_nodes.specs.Trees.{plain}
use Rattle.fiba_nodes.proofs.Opened.{no_pairs}
use Rattle.fiba_arena.proofs.tree.ArenaTreeAggTree.first_key.Goals as goal

pub returns-then-self-eq0 : goal.returns-then-self-eq0
returns-then-self-eq0 g c =
    let e : c.args.self.now.table.pairs ≡ [] = sym (ap (λ v. v.table.pairs) c.self.view_is) ∙ no_pairs (plain c.self.inside.nodes) c.self.inside.root.height c.self.inside.root.at c.if-self-eq0.true in
    record {
      least = rw e refl;
      none = (λ x. e, λ x. refl);
      rising = subst AreRising (ap (λ v. v.table.pairs) c.self.view_is) c.self.invariant.rising;
    }
