-- The list falls apart around the pair whose value another one is combined with.
use Rattle.std.proofs.Common.{◌≡◌, ◌∙◌, Some, get_or, subst, sym, ap, rules}
use Rattle.agg_laws.specs.Pairs.{AreRising, StandsAt, replaced, value_at}
use Rattle.agg_laws.proofs.RisingPairs.{rising-replaced}
use Rattle.pair_row.proofs.Places.{found_replaced, found_value}
use Rattle.pair_row.proofs.pair_row.PairRow.extend.Goals as goal

same_value : {M : Type 0} (x y : M) → Some x ≡ Some y → x ≡ y
same_value x y e = cc

pub invariant_of-self : goal.invariant_of-self
invariant_of-self g c =
    let pairs = c.self.inside.pairs.items in
    let at = c.in-Some.at in
    let stands : StandsAt c.args.key at pairs = subst (StandsAt c.args.key at) c.as_slice-pairs.ensures c.in-Some.ensures.found in
    let read : c.index-pairs-at.result ≡ get_or pairs at c.index-pairs-at.result = subst (λ ps. c.index-pairs-at.result ≡ get_or ps at c.index-pairs-at.result) c.as_slice-pairs.ensures c.index-pairs-at.is in
    subst AreRising (found_replaced c.args.key at pairs c.index-pairs-at.result c.self.invariant stands read c.combine-sum.result ∙ sym c.set.ensures.items) (rising-replaced c.args.key c.combine-sum.result pairs c.self.invariant)

pub returns-in-Some : goal.returns-in-Some
returns-in-Some g c =
    let pairs = c.self.inside.pairs.items in
    let at = c.in-Some.at in
    let p = c.index-pairs-at.result in
    let stands : StandsAt c.args.key at pairs = subst (StandsAt c.args.key at) c.as_slice-pairs.ensures c.in-Some.ensures.found in
    let read : p ≡ get_or pairs at p = subst (λ ps. p ≡ get_or ps at p) c.as_slice-pairs.ensures c.index-pairs-at.is in
    let found : value_at c.args.key c.args.self.now.pairs ≡ Some p.1 = rw (← c.self.view_is) (found_value c.args.key at pairs p c.self.invariant stands read) in
    record {
      extended = λ value e.
          let own : p.1 ≡ value = same_value p.1 value (sym found ∙ e) in
          let sum : c.combine-sum.result ≡ g.M.Monoid.op value c.args.more.now = c.combine-sum.ensures.value ∙ ap (λ q. g.M.Monoid.op q.1 c.args.more.now) (sym c.index-pairs-at.is) ∙ ap (λ v. g.M.Monoid.op v c.args.more.now) own in
          rw (← c.self.view_is) (c.set.ensures.items ∙ sym (found_replaced c.args.key at pairs p c.self.invariant stands read c.combine-sum.result) ∙ ap (λ v. replaced c.args.key v pairs) sum);
      count = search rules;
      spare = search rules;
      cost = search rules;
    }
