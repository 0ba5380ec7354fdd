-- A pair that was taken out isn't there, and one that was put in is.
use Rattle.std.proofs.Common.{rules, ◌==◌, ◌≡◌, true, ap, ◌∙◌, arith}
use Rattle.std.proofs.lemmas.Bool.Decides.{nat_tests}
use Rattle.agg_laws.specs.Pairs.{has_key, pairs_below, pairs_from}
use Rattle.aggregate_tests.proofs.Absent.{none_left, there}
use Rattle.aggregate_tests.proofs.trees.set_near.Goals as goal

pub insert-requires : goal.insert-requires
insert-requires g c =
    record {
      absent = ap (has_key c.args.key) (c.reserve.ensures.reserves.kept ∙ c.remove-former.ensures.removes.rest) ∙ none_left (λ p. p.0 == c.args.key) c.args.tree.now.table.pairs;
      room = search rules;
    }

pub set-requires : goal.set-requires
set-requires g c =
    let key = c.args.key in
    let pairs = c.reserve.new.self.table.pairs in
    let own : (key == key) ≡ true = grind (arith, nat_tests) in
    ap (has_key key) c.insert.ensures.inserts.inserted ∙ there (λ p. p.0 == key) (pairs_below key pairs) _ (pairs_from key pairs) own
