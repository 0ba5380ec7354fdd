-- The pair stands in the row where the key belongs there, and else in the tree.
use Rattle.std.proofs.Common.{◌≤◌, ◌<◌, ◌∙◌, ◌++◌, ap, sym, subst, arith, length, inl, inr}
use Rattle.std.specs.Prelude.{nat_lt}
use Rattle.std.proofs.lemmas.Bool.Decides.{nat_tests}
use Rattle.stream_base.proofs.Filters.{cases_of}
use Rattle.agg_laws.specs.Pairs.{inserted}
use Rattle.partials.specs.Apart.{AreBelow, AreFrom}
use Rattle.partials.proofs.RowFacts.{below_inserted, early_inserted, from_both, from_inserted, from_next, full_row, near_inserted}
use Rattle.partials.proofs.partials.Partials.insert.Goals as goal

pub invariant_of-self : goal.invariant_of-self
invariant_of-self g c =
    let edge = c.make_way-self-inside.result in
    let near = c.make_way-self-inside.new.near.pairs in
    let begins : edge ≤ c.args.low = c.make_way-self-inside.ensures.edge c.args.low (c.is_near.ensures.edge c.if-is_near.true) (c.is_near.ensures.first c.if-is_near.true) in
    record {
      below = c.make_way-self-inside.ensures.below;
      from = subst (AreFrom edge) (sym c.insert.ensures.inserts.inserted) (from_inserted edge c.args.low c.args.partial near begins c.make_way-self-inside.ensures.from);
      few = omega (arith, c.insert.ensures.count, c.make_way-self-inside.ensures.few);
    }

pub invariant_of-self-else-is_near : goal.invariant_of-self-else-is_near
invariant_of-self-else-is_near g c =
    let s = c.self.inside in
    record {
      below = subst (λ k. AreBelow k (g.T.AggTree.table c.insert-else-is_near.new.self).pairs) (sym c.max-self-inside.ensures) (subst (AreBelow _) (sym c.insert-else-is_near.ensures.inserts.inserted) (below_inserted s.edge c.args.low c.args.partial (g.T.AggTree.table s.tree).pairs c.self.invariant.below));
      from = subst (λ k. AreFrom k s.near.pairs) (sym c.max-self-inside.ensures) (from_both s.edge c.args.low s.near.pairs c.self.invariant.from (c.is_near.ensures.before c.if-is_near.false));
      few = c.self.invariant.few;
    }

pub returns-then-is_near-clause-inserted : goal.returns-then-is_near-clause-inserted
returns-then-is_near-clause-inserted g c =
    let xs = (g.T.AggTree.table c.make_way-self-inside.new.tree).pairs in
    let near = c.make_way-self-inside.new.near.pairs in
    let begins : c.make_way-self-inside.result ≤ c.args.low = c.make_way-self-inside.ensures.edge c.args.low (c.is_near.ensures.edge c.if-is_near.true) (c.is_near.ensures.first c.if-is_near.true) in
    rw (← c.self.view_is)
    (ap (λ l. xs ++ l) c.insert.ensures.inserts.inserted
    ∙ sym (near_inserted c.make_way-self-inside.result c.args.low c.args.partial xs near begins c.make_way-self-inside.ensures.below)
    ∙ ap (inserted c.args.low c.args.partial) c.make_way-self-inside.ensures.pairs)

pub returns-else-is_near-clause-inserted : goal.returns-else-is_near-clause-inserted
returns-else-is_near-clause-inserted g c =
    let s = c.self.inside in
    rw (← c.self.view_is)
    (ap (λ l. l ++ s.near.pairs) c.insert-else-is_near.ensures.inserts.inserted
    ∙ sym (early_inserted c.args.low c.args.partial (g.T.AggTree.table s.tree).pairs s.near.pairs (from_next c.args.low s.near.pairs (c.is_near.ensures.before c.if-is_near.false))))

pub returns-then-is_near-clause-row : goal.returns-then-is_near-clause-row
returns-then-is_near-clause-row g c = λ time from few. elim (cases_of (nat_lt (length c.self.inside.near.pairs) 256)) [
  | inl free ↦ let l : length c.self.inside.near.pairs < 256 = grind (arith, nat_tests) in omega (arith, from, ap (λ v. v.edge) c.self.view_is, c.make_way-self-inside.ensures.stays l)
  | inr full ↦
      let l : 256 ≤ length c.self.inside.near.pairs = grind (arith, nat_tests) in
      full_row c.make_way-self-inside.result time (g.T.AggTree.table c.make_way-self-inside.new.tree).pairs c.insert.new.self.pairs (invariant_of-self g c).from (omega (arith, c.insert.ensures.count, c.make_way-self-inside.ensures.full l)) few
]

pub returns-else-is_near-clause-row : goal.returns-else-is_near-clause-row
returns-else-is_near-clause-row g c = λ time from few. elim (cases_of (nat_lt (length c.self.inside.near.pairs) 256)) [
  | inl free ↦ let l : length c.self.inside.near.pairs < 256 = grind (arith, nat_tests) in omega (arith, from, ap (λ v. v.edge) c.self.view_is, c.max-self-inside.ensures, c.is_near.ensures.early c.if-is_near.false l)
  | inr full ↦
      let l : 256 ≤ length c.self.inside.near.pairs = grind (arith, nat_tests) in
      full_row c.max-self-inside.result time (g.T.AggTree.table c.insert-else-is_near.new.self).pairs c.self.inside.near.pairs (invariant_of-self-else-is_near g c).from l few
]
