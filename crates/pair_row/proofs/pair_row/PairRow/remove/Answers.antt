-- The list falls apart around the pair that is taken out.
use Rattle.std.proofs.Common.{◌≡◌, None, false, subst, sym, ◌∙◌, arith, rules}
use Rattle.agg_laws.specs.Pairs.{AreRising, StandsAt, has_key}
use Rattle.pair_row.proofs.Places.{found_key, found_value, found_without}
use Rattle.agg_laws.proofs.RisingPairs.{rising-without, value_at-absent, without-absent}
use Rattle.pair_row.proofs.pair_row.PairRow.remove.Goals as goal

pub invariant_of-self : goal.invariant_of-self
invariant_of-self g c =
    let pairs = c.self.inside.pairs.items in
    let stands : StandsAt c.args.key c.in_ok-at.at pairs = subst (StandsAt c.args.key c.in_ok-at.at) c.as_slice.ensures c.in_ok-at.ensures.found in
    let rest = found_without c.args.key c.in_ok-at.at pairs c.remove.result c.self.invariant stands c.remove.ensures.value in
    subst AreRising (rest ∙ sym c.remove.ensures.items) (rising-without c.args.key pairs c.self.invariant)

pub returns-clause-removes : goal.returns-clause-removes
returns-clause-removes g c =
    let pairs = c.self.inside.pairs.items in
    let stands : StandsAt c.args.key c.in_ok-at.at pairs = subst (StandsAt c.args.key c.in_ok-at.at) c.as_slice.ensures c.in_ok-at.ensures.found in
    let rest = found_without c.args.key c.in_ok-at.at pairs c.remove.result c.self.invariant stands c.remove.ensures.value in
    let there = found_key c.args.key c.in_ok-at.at pairs c.remove.result c.self.invariant stands c.remove.ensures.value in
    record {
      value = rw (← c.self.view_is) (sym (found_value c.args.key c.in_ok-at.at pairs c.remove.result c.self.invariant stands c.remove.ensures.value));
      none = rw (← c.self.view_is) (λ e. absurd cc, λ h. absurd cc);
      rest = rw (← c.self.view_is) (c.remove.ensures.items ∙ sym rest);
      rising = invariant_of-self g c;
      spare = search rules;
    }

pub returns-in_err-at-clause-removes : goal.returns-in_err-at-clause-removes
returns-in_err-at-clause-removes g c =
    let absent : has_key c.args.key c.args.self.now.pairs ≡ false = search rules in
    let none : c.from_residual.result ≡ None = search rules in
    record {
      value = none ∙ sym (value_at-absent c.args.key c.args.self.now.pairs absent);
      none = search rules;
      rest = sym (without-absent c.args.key c.args.self.now.pairs absent);
      rising = search rules;
      spare = omega arith;
    }
