-- A pair that was taken out isn't there.
use Rattle.std.proofs.Common.{rules, ◌==◌, ap, ◌∙◌}
use Rattle.agg_laws.specs.Pairs.{has_key}
use Rattle.aggregate_tests.proofs.Absent.{none_left}
use Rattle.aggregate_tests.proofs.trees.put_near.Goals as goal

pub insert_near-grown-requires : goal.insert_near-grown-requires
insert_near-grown-requires c d =
    record {
      absent = ap (has_key d.args.key) (d.reserve.ensures.reserves.kept ∙ d.remove-former.ensures.removes.rest) ∙ none_left (λ p. p.0 == d.args.key) d.args.tree.now.table.pairs;
      room = search rules;
    }
