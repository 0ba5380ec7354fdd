-- The change puts an item in the place of another, since some pair has the key.
use Rattle.std.proofs.Common.{true, ap, ◌∙◌, arith}
use Rattle.agg_laws.specs.Pairs.{distance, has_key, replaced}
use Rattle.fiba_nodes.specs.Trees.{plain}
use Rattle.fiba_nodes.proofs.Tops.{arena_replaced}
use Rattle.fiba_finger.proofs.Climbing.{some_level}
use Rattle.fiba_finger.proofs.tree.FingerTreeAggTree.set.Goals as goal

pub set_near-set-requires-clause-some : goal.set_near-set-requires-clause-some
set_near-set-requires-clause-some g c =
    let view = ap (λ v. v.table.pairs) c.self.view_is in
    let root = c.self.inside.root in
    some_level (plain c.self.inside.nodes) root.height root.at c.args.key (ap (has_key c.args.key) view ∙ c.requires)

pub invariant_of-self : goal.invariant_of-self
invariant_of-self g c =
    let m = g.M.Monoid in
    let view = ap (λ v. v.table.pairs) c.self.view_is in
    let put = c.set_near-set.ensures.put in
    record {
      arena = (arena_replaced m.is_value m.empty m.op true true c.self.inside.nodes c.set_near-set.new.nodes c.self.inside.root c.self.inside.root c.self.inside.count c.self.inside.limit c.self.invariant.arena (omega (arith, c.self.ranges)) (record { key = c.args.key; value = c.args.value }) put.taken (ap (has_key c.args.key) view ∙ c.requires) put.changed).0;
      first = c.set_near-set.ensures.front;
      last = c.set_near-set.ensures.finger;
    }

pub returns-clause-replaces : goal.returns-clause-replaces
returns-clause-replaces g c =
    let m = g.M.Monoid in
    let view = ap (λ v. v.table.pairs) c.self.view_is in
    let spare = ap (λ v. v.table.spare) c.self.view_is in
    let put = c.set_near-set.ensures.put in
    let a = invariant_of-self g c in
    record {
      replaced = (arena_replaced m.is_value m.empty m.op true true c.self.inside.nodes c.set_near-set.new.nodes c.self.inside.root c.self.inside.root c.self.inside.count c.self.inside.limit c.self.invariant.arena (omega (arith, c.self.ranges)) (record { key = c.args.key; value = c.args.value }) put.taken (ap (has_key c.args.key) view ∙ c.requires) put.changed).1 ∙ ap (replaced c.args.key c.args.value) view;
      rising = a.arena.rising;
      spare = omega (arith, spare);
    }

pub returns-clause-reach : goal.returns-clause-reach
returns-clause-reach g c =
    let height = ap (λ v. v.height) c.self.view_is in
    let a = invariant_of-self g c in
    record { within = omega (arith, height); bounded = a.arena.tall }

pub returns-clause-near : goal.returns-clause-near
returns-clause-near g c =
    let pairs = ap (λ v. v.table.pairs) c.self.view_is in
    let height = ap (λ v. v.height) c.self.view_is in
    let work = c.set_near-set.ensures.work in
    let near = c.set_near-set.ensures.near in
    let behind = ap (distance c.args.key) pairs in
    record {
      levels = c.set_near-set.result.climbs;
      near = omega (arith, near, behind);
      within = omega (arith, height, c.set_near-set.ensures.climbs);
      work = record { rises = work.rises; cost = omega (arith, work.cost) };
    }

pub returns-clause-climbs : goal.returns-clause-climbs
returns-clause-climbs g c =
    let pairs = ap (λ v. v.table.pairs) c.self.view_is in
    let height = ap (λ v. v.height) c.self.view_is in
    let behind = ap (distance c.args.key) pairs in
    record {
      climbs = c.set_near-set.result.climbs;
      near = omega (arith, c.set_near-set.ensures.near, behind);
      within = omega (arith, height, c.set_near-set.ensures.climbs);
      cost = c.set_near-set.ensures.work.cost;
    }
