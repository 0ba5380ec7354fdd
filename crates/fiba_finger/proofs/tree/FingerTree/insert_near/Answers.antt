-- The change is an insertion, since no pair has the key.
use Rattle.std.proofs.Common.{true, ap, ◌∙◌, arith}
use Rattle.agg_laws.specs.Pairs.{has_key, inserted}
use Rattle.fiba_nodes.proofs.Tops.{arena_inserted}
use Rattle.fiba_finger.proofs.tree.FingerTree.insert_near.Goals as goal

pub invariant_of-self : goal.invariant_of-self
invariant_of-self g c =
    let m = g.M.Monoid in
    let view = ap (λ v. v.table.pairs) c.self.view_is in
    let spare = ap (λ v. v.table.spare) c.self.view_is in
    let put = c.put_near-put.ensures.put in
    record {
      arena = (arena_inserted m.is_value m.empty m.op true true c.self.inside.nodes c.put_near-put.new.nodes c.self.inside.root c.put_near-put.result.root c.self.inside.count c.self.inside.limit c.self.invariant.arena (omega (arith, c.self.ranges)) (record { key = c.args.key; value = c.args.value }) put.taken (ap (has_key c.args.key) view ∙ c.requires.absent) (omega (arith, spare, c.requires.room)) put.changed).0;
      first = c.put_near-put.ensures.front;
      last = c.put_near-put.ensures.finger;
    }

pub returns-clause-inserts : goal.returns-clause-inserts
returns-clause-inserts g c =
    let m = g.M.Monoid in
    let view = ap (λ v. v.table.pairs) c.self.view_is in
    let spare = ap (λ v. v.table.spare) c.self.view_is in
    let put = c.put_near-put.ensures.put in
    let a = invariant_of-self g c in
    record {
      inserted = (arena_inserted m.is_value m.empty m.op true true c.self.inside.nodes c.put_near-put.new.nodes c.self.inside.root c.put_near-put.result.root c.self.inside.count c.self.inside.limit c.self.invariant.arena (omega (arith, c.self.ranges)) (record { key = c.args.key; value = c.args.value }) put.taken (ap (has_key c.args.key) view ∙ c.requires.absent) (omega (arith, spare, c.requires.room)) put.changed).1 ∙ ap (inserted c.args.key c.args.value) view;
      rising = a.arena.rising;
      spare = omega (arith, spare, c.requires.room);
    }

pub returns-clause-split : goal.returns-clause-split
returns-clause-split g c =
    let put = c.put_near-put.ensures.put in
    let height = ap (λ v. v.height) c.self.view_is in
    let nodes = ap (λ v. v.nodes) c.self.view_is in
    omega (arith, put.changed.room, c.put_near-put.ensures.taken, height, nodes)

pub returns-clause-reach : goal.returns-clause-reach
returns-clause-reach g c =
    let height = ap (λ v. v.height) c.self.view_is in
    let a = invariant_of-self g c in
    record { within = omega (arith, height, c.put_near-put.ensures.put.changed.higher); bounded = a.arena.tall }
