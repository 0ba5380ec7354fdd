-- The range of one key has its pair alone.
use Rattle.std.proofs.Common.{◌∙◌, arith}
use Rattle.partials.proofs.OnePair.{one_at_most, read_one}
use Rattle.partials.proofs.partials.read_in.Goals as goal

pub returns : goal.returns
returns g c = record {
  value = λ b v e. c.fold_range.ensures.value ∙ read_one g.met.M.Monoid.laws c.args.low b (g.T.AggTree.table c.args.tree.now).pairs c.fold_range.ensures.rising v e;
  cost = omega (arith, c.fold_range.ensures.one_each, one_at_most c.args.low (g.T.AggTree.table c.args.tree.now).pairs c.fold_range.ensures.rising);
}
