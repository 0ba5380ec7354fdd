-- The list falls apart around the pair that gets another value.
use Rattle.std.proofs.Common.{◌∙◌, get_or, subst, sym, rules}
use Rattle.agg_laws.specs.Pairs.{AreRising, StandsAt}
use Rattle.pair_row.proofs.Places.{found_replaced, read_at}
use Rattle.agg_laws.proofs.RisingPairs.{rising-replaced}
use Rattle.pair_row.proofs.pair_row.PairRow.set.Goals as goal

pub invariant_of-self : goal.invariant_of-self
invariant_of-self g c =
    let pairs = c.self.inside.pairs.items in
    let at = c.in-Some.at in
    let stands : StandsAt c.args.key at pairs = subst (StandsAt c.args.key at) c.as_slice.ensures c.in-Some.ensures.found in
    let changed = found_replaced c.args.key at pairs (get_or pairs at (c.args.key, c.args.value)) c.self.invariant stands (read_at pairs at (c.args.key, c.args.value) stands.within) c.args.value in
    subst AreRising (changed ∙ sym c.set.ensures.items) (rising-replaced c.args.key c.args.value pairs c.self.invariant)

pub returns-in-Some-clause-replaces : goal.returns-in-Some-clause-replaces
returns-in-Some-clause-replaces g c =
    let pairs = c.self.inside.pairs.items in
    let at = c.in-Some.at in
    let stands : StandsAt c.args.key at pairs = subst (StandsAt c.args.key at) c.as_slice.ensures c.in-Some.ensures.found in
    let changed = found_replaced c.args.key at pairs (get_or pairs at (c.args.key, c.args.value)) c.self.invariant stands (read_at pairs at (c.args.key, c.args.value) stands.within) c.args.value in
    record {
      replaced = rw (← c.self.view_is) (c.set.ensures.items ∙ sym changed);
      rising = invariant_of-self g c;
      spare = search rules;
    }
