-- Each tuple is combined behind those before it.
use Rattle.std.proofs.Common.{◌∙◌, sym}
use Rattle.plain_windows.proofs.Folds.{with_tuple, fold_end, fold_step, folded_all}
use Rattle.plain_windows.proofs.fold.folded.Goals as goal

pub loop-x-preserved : goal.loop-x-preserved
loop-x-preserved g c =
    fold_step with_tuple c.loop-x.bundle c.with_tuple-bundle.result c.args.tuples.now c.loop-x.x-index _ c.loop-x-test.true c.with_tuple-bundle.ensures
    ∙ c.loop-x.invariant

pub returns : goal.returns
returns g c = sym (fold_end with_tuple c.loop-x.bundle c.args.tuples.now c.loop-x.x-index c.loop-x-test.false) ∙ c.loop-x.invariant ∙ folded_all c.args.tuples.now
