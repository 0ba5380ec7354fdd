-- The change puts an item in the place of another, since some pair has the key.
use Rattle.std.proofs.Common.{false, ap, ◌∙◌, arith}
use Rattle.agg_laws.specs.Pairs.{has_key, replaced}
use Rattle.fiba_nodes.proofs.Tops.{arena_replaced}
use Rattle.fiba_arena.proofs.tree.ArenaTreeAggTree.set.Goals as goal

pub invariant_of-self : goal.invariant_of-self
invariant_of-self g c =
    let m = g.M.Monoid in
    let view = ap (λ v. v.table.pairs) c.self.view_is in
    let changed = rw c.inner-place.ensures at c.change_root-changed.ensures.changed in
    (arena_replaced m.is_value m.empty m.op false false c.self.inside.nodes c.change_root-changed.new.nodes c.self.inside.root c.change_root-changed.result.root c.self.inside.count c.self.inside.limit c.self.invariant (omega (arith, c.self.ranges)) (record { key = c.args.key; value = c.args.value }) c.change_root-changed.result.taken (ap (has_key c.args.key) view ∙ c.requires) changed).0

pub returns-clause-replaces : goal.returns-clause-replaces
returns-clause-replaces g c =
    let m = g.M.Monoid in
    let view = ap (λ v. v.table.pairs) c.self.view_is in
    let changed = rw c.inner-place.ensures at c.change_root-changed.ensures.changed in
    let spare = ap (λ v. v.table.spare) c.self.view_is in
    let a = invariant_of-self g c in
    record {
      replaced = (arena_replaced m.is_value m.empty m.op false false c.self.inside.nodes c.change_root-changed.new.nodes c.self.inside.root c.change_root-changed.result.root c.self.inside.count c.self.inside.limit c.self.invariant (omega (arith, c.self.ranges)) (record { key = c.args.key; value = c.args.value }) c.change_root-changed.result.taken (ap (has_key c.args.key) view ∙ c.requires) changed).1 ∙ ap (replaced c.args.key c.args.value) view;
      rising = a.rising;
      spare = omega (arith, spare);
    }

pub returns-clause-reach : goal.returns-clause-reach
returns-clause-reach g c =
    let height = ap (λ v. v.height) c.self.view_is in
    let a = invariant_of-self g c in
    record { within = omega (arith, height, c.change_root-changed.ensures.changed.higher); bounded = a.tall }

pub returns-clause-near : goal.returns-clause-near
returns-clause-near g c =
    let height = ap (λ v. v.height) c.self.view_is in
    let looks = c.change_root-changed.ensures.looks in
    record {
      levels = c.self.inside.root.height;
      near = tt;
      within = omega (arith, height);
      work = record { rises = looks.rises; cost = omega (arith, c.change_root-changed.ensures.cost) };
    }
