-- What lies between the two keys is the range.
use Rattle.std.proofs.Common.{length, sym, ap, ◌∙◌, arith}
use Rattle.agg_laws.specs.Laws.{total}
use Rattle.agg_laws.specs.Pairs.{values_of, within}
use Rattle.agg_laws.proofs.RisingPairs.{within-empty}
use Rattle.fiba_nodes.specs.Arena.{pairs_in}
use Rattle.fiba_nodes.proofs.Tops.{is_range}
use Rattle.fiba_arena.proofs.tree.ArenaTreeAggTree.fold_range.Goals as goal

pub returns-then-high-low-clause-value : goal.returns-then-high-low-clause-value
returns-then-high-low-clause-value g c =
    c.unit.ensures ∙ ap (λ ps. total g.M.Monoid.empty g.M.Monoid.op (values_of ps)) (sym (within-empty c.args.low c.args.high c.args.self.now.table.pairs c.if-high-low.true))

pub returns-clause-value : goal.returns-clause-value
returns-clause-value g c =
    let m = g.M.Monoid in
    let view = ap (λ v. v.table.pairs) c.self.view_is in
    let f = c.fold_span.ensures.folded in
    let r = is_range m.op c.args.low c.args.high (pairs_in c.self.inside.nodes c.self.inside.root) c.unit-sum.result c.fold_span.result c.args.steps.now c.fold_span.new.steps c.self.invariant.rising f in
    f.value ∙ rw (c.unit-sum.ensures, r) (ap (λ ps. total m.empty m.op (values_of (within c.args.low c.args.high ps))) view)

pub returns-clause-one_each : goal.returns-clause-one_each
returns-clause-one_each g c =
    let m = g.M.Monoid in
    let view = ap (λ v. v.table.pairs) c.self.view_is in
    let f = c.fold_span.ensures.folded in
    let r = is_range m.op c.args.low c.args.high (pairs_in c.self.inside.nodes c.self.inside.root) c.unit-sum.result c.fold_span.result c.args.steps.now c.fold_span.new.steps c.self.invariant.rising f in
    let e = ap length r ∙ ap (λ ps. length (within c.args.low c.args.high ps)) view in
    omega (arith, e, f.one_each)
