-- The change takes out the pair with the key, if there is one.
use Rattle.std.proofs.Common.{rules, false, ◌≡◌, ◌-◌, None, Some, length, sym, ap, ◌∙◌, arith}
use Rattle.std.specs.Option.{option_map}
use Rattle.agg_laws.specs.Pairs.{has_key, value_at, without}
use Rattle.fiba_nodes.specs.Changes.{pairs_of}
use Rattle.fiba_nodes.proofs.Tops.{arena_removed, removed_of}
use Rattle.fiba_arena.proofs.tree.ArenaTreeAggTree.remove.Goals as goal

pub invariant_of-self : goal.invariant_of-self
invariant_of-self g c =
    let m = g.M.Monoid in
    let changed = rw c.inner-place.ensures at c.change_root-changed.ensures.changed in
    let none : c.change_root-changed.result.taken ≡ None = c.in_err-item.was in
    let zero : length (pairs_of c.change_root-changed.result.taken) ≡ 0 = ap (λ o. length (pairs_of o)) none in
    arena_removed m.is_value m.empty m.op false false c.self.inside.nodes c.change_root-changed.new.nodes c.self.inside.root c.change_root-changed.result.root c.self.inside.count c.self.inside.limit c.self.invariant (omega (arith, c.self.ranges)) c.args.key c.change_root-changed.result.taken c.self.inside.count (omega (arith, zero)) changed

pub invariant_of-self-2 : goal.invariant_of-self-2
invariant_of-self-2 g c =
    let m = g.M.Monoid in
    let changed = rw c.inner-place.ensures at c.change_root-changed.ensures.changed in
    let some : c.change_root-changed.result.taken ≡ Some c.in_ok-item.item = c.in_ok-item.was in
    let done = removed_of m.is_value m.empty m.op false false c.self.inside.nodes c.change_root-changed.new.nodes c.self.inside.root c.change_root-changed.result.root c.self.inside.count c.self.inside.limit c.self.invariant (omega (arith, c.self.ranges)) c.args.key c.change_root-changed.result.taken changed in
    let one : length (pairs_of c.change_root-changed.result.taken) ≡ 1 = ap (λ o. length (pairs_of o)) some in
    arena_removed m.is_value m.empty m.op false false c.self.inside.nodes c.change_root-changed.new.nodes c.self.inside.root c.change_root-changed.result.root c.self.inside.count c.self.inside.limit c.self.invariant (omega (arith, c.self.ranges)) c.args.key c.change_root-changed.result.taken (c.self.inside.count - 1) (omega (arith, one, done.fewer, c.self.invariant.counted)) changed

pub returns-in_err-item-clause-removes : goal.returns-in_err-item-clause-removes
returns-in_err-item-clause-removes g c =
    let m = g.M.Monoid in
    let view = ap (λ v. v.table.pairs) c.self.view_is in
    let changed = rw c.inner-place.ensures at c.change_root-changed.ensures.changed in
    let none : c.change_root-changed.result.taken ≡ None = c.in_err-item.was in
    let answer : c.from_residual.result ≡ None = c.from_residual.ensures in
    let done = removed_of m.is_value m.empty m.op false false c.self.inside.nodes c.change_root-changed.new.nodes c.self.inside.root c.change_root-changed.result.root c.self.inside.count c.self.inside.limit c.self.invariant (omega (arith, c.self.ranges)) c.args.key c.change_root-changed.result.taken changed in
    let spare = ap (λ v. v.table.spare) c.self.view_is in
    let a = invariant_of-self g c in
    record {
      value = answer ∙ sym (ap (option_map (λ x. x.value)) none) ∙ done.value ∙ ap (value_at c.args.key) view;
      none = (λ e. sym (ap (has_key c.args.key) view) ∙ done.none.0 none, λ e. answer);
      rest = done.rest ∙ ap (without c.args.key) view;
      rising = a.rising;
      spare = omega (arith, spare);
    }

pub returns-clause-removes : goal.returns-clause-removes
returns-clause-removes g c =
    let m = g.M.Monoid in
    let view = ap (λ v. v.table.pairs) c.self.view_is in
    let changed = rw c.inner-place.ensures at c.change_root-changed.ensures.changed in
    let some : c.change_root-changed.result.taken ≡ Some c.in_ok-item.item = c.in_ok-item.was in
    let done = removed_of m.is_value m.empty m.op false false c.self.inside.nodes c.change_root-changed.new.nodes c.self.inside.root c.change_root-changed.result.root c.self.inside.count c.self.inside.limit c.self.invariant (omega (arith, c.self.ranges)) c.args.key c.change_root-changed.result.taken changed in
    let spare = ap (λ v. v.table.spare) c.self.view_is in
    let a = invariant_of-self-2 g c in
    record {
      value = sym (ap (option_map (λ x. x.value)) some) ∙ done.value ∙ ap (value_at c.args.key) view;
      none = search rules;
      rest = done.rest ∙ ap (without c.args.key) view;
      rising = a.rising;
      spare = omega (arith, spare);
    }

pub returns-in_err-item-clause-reach : goal.returns-in_err-item-clause-reach
returns-in_err-item-clause-reach g c =
    let height = ap (λ v. v.height) c.self.view_is in
    let a = invariant_of-self g c in
    record { within = omega (arith, height, c.change_root-changed.ensures.changed.higher); bounded = a.tall }

pub returns-clause-reach : goal.returns-clause-reach
returns-clause-reach g c =
    let height = ap (λ v. v.height) c.self.view_is in
    let a = invariant_of-self-2 g c in
    record { within = omega (arith, height, c.change_root-changed.ensures.changed.higher); bounded = a.tall }
