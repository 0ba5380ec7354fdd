-- The pair with the key is the one that stands at its place, and where there is none, no value.
use Rattle.std.proofs.Common.{◌≡◌, None, Some, false, ap, sym, ◌∙◌, rules, get_or}
use Rattle.agg_laws.specs.Pairs.{StandsAt, has_key}
use Rattle.pair_row.proofs.Places.{found_value}
use Rattle.agg_laws.proofs.RisingPairs.{value_at-absent}
use Rattle.pair_row.proofs.pair_row.PairRow.get.Goals as goal

pub returns-in_err-at : goal.returns-in_err-at
returns-in_err-at g c =
    let absent : has_key c.args.key c.args.self.now.pairs ≡ false = search rules in
    let none : c.from_residual.result ≡ None = search rules in
    none ∙ sym (value_at-absent c.args.key c.args.self.now.pairs absent)

pub returns : goal.returns
returns g c =
    let pairs = c.self.inside.pairs.items in
    let p = c.index-pairs-at.result in
    let stands : StandsAt c.args.key c.in_ok-at.at pairs = search rules in
    let read : p ≡ get_or pairs c.in_ok-at.at p = search rules in
    rw (← c.self.view_is) (ap (λ q. Some q.1) (sym c.index-pairs-at.is) ∙ sym (found_value c.args.key c.in_ok-at.at pairs p c.self.invariant stands read))
