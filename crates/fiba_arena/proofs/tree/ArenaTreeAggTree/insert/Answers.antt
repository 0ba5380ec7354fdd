-- The change is an insertion, since no pair has the key.
use Rattle.std.proofs.Common.{false, ap, ◌∙◌, arith}
use Rattle.agg_laws.specs.Pairs.{has_key, inserted}
use Rattle.fiba_nodes.proofs.Tops.{arena_inserted}
use Rattle.fiba_arena.proofs.tree.ArenaTreeAggTree.insert.Goals as goal

pub invariant_of-self : goal.invariant_of-self
invariant_of-self g c =
    let m = g.M.Monoid in
    let view = ap (λ v. v.table.pairs) c.self.view_is in
    let spare = ap (λ v. v.table.spare) c.self.view_is in
    let changed = rw c.inner-place.ensures at c.change_root-changed.ensures.changed in
    (arena_inserted m.is_value m.empty m.op false false c.self.inside.nodes c.change_root-changed.new.nodes c.self.inside.root c.change_root-changed.result.root c.self.inside.count c.self.inside.limit c.self.invariant (omega (arith, c.self.ranges)) (record { key = c.args.key; value = c.args.value }) c.change_root-changed.result.taken (ap (has_key c.args.key) view ∙ c.requires.absent) (omega (arith, spare, c.requires.room)) changed).0

pub returns-clause-inserts : goal.returns-clause-inserts
returns-clause-inserts g c =
    let m = g.M.Monoid in
    let view = ap (λ v. v.table.pairs) c.self.view_is in
    let spare = ap (λ v. v.table.spare) c.self.view_is in
    let changed = rw c.inner-place.ensures at c.change_root-changed.ensures.changed in
    let a = invariant_of-self g c in
    record {
      inserted = (arena_inserted m.is_value m.empty m.op false false c.self.inside.nodes c.change_root-changed.new.nodes c.self.inside.root c.change_root-changed.result.root c.self.inside.count c.self.inside.limit c.self.invariant (omega (arith, c.self.ranges)) (record { key = c.args.key; value = c.args.value }) c.change_root-changed.result.taken (ap (has_key c.args.key) view ∙ c.requires.absent) (omega (arith, spare, c.requires.room)) changed).1 ∙ ap (inserted c.args.key c.args.value) view;
      rising = a.rising;
      spare = omega (arith, spare, c.requires.room);
    }

pub returns-clause-reach : goal.returns-clause-reach
returns-clause-reach g c =
    let height = ap (λ v. v.height) c.self.view_is in
    let a = invariant_of-self g c in
    record { within = omega (arith, height, c.change_root-changed.ensures.changed.higher); bounded = a.tall }
