-- The new pair stands between the pairs below it and those from it on, so the keys still rise.
use Rattle.std.proofs.Common.{◌≡◌, false, subst, sym, rules}
use Rattle.agg_laws.specs.Pairs.{AreRising, has_key, inserted}
use Rattle.agg_laws.proofs.RisingPairs.{rising-inserted}
use Rattle.pair_row.proofs.pair_row.PairRow.insert.Goals as goal

pub invariant_of-self : goal.invariant_of-self
invariant_of-self g c =
    let pairs = c.self.inside.pairs.items in
    let placed : c.insert.new.self.items ≡ inserted c.args.key c.args.value pairs = search rules in
    let absent : has_key c.args.key pairs ≡ false = search rules in
    subst AreRising (sym placed) (rising-inserted c.args.key c.args.value pairs c.self.invariant absent)

pub returns-clause-inserts : goal.returns-clause-inserts
returns-clause-inserts g c = record {
  inserted = search rules;
  rising = invariant_of-self g c;
  spare = search rules;
}
