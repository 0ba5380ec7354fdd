-- A pair that was taken out isn't there.
use Rattle.std.proofs.Common.{rules, ◌==◌, ap, ◌∙◌}
use Rattle.agg_laws.specs.Pairs.{has_key}
use Rattle.aggregate_tests.proofs.Absent.{none_left}
use Rattle.aggregate_tests.proofs.trees.put.Goals as goal

pub insert-requires : goal.insert-requires
insert-requires g c =
    record {
      absent = ap (has_key c.args.key) (c.reserve.ensures.reserves.kept ∙ c.remove-former.ensures.removes.rest) ∙ none_left (λ p. p.0 == c.args.key) (g.T.AggTree.table c.args.tree.now).pairs;
      room = search rules;
    }
