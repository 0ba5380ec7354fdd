-- Each turn folds one sample more.
use Rattle.std.proofs.Common.{◌∙◌, sym, arith}
use Rattle.tail_windows.proofs.Folding.{with_sample, fold_end, fold_step, folded_all}
use Rattle.tail_windows.proofs.select.folded.Goals as goal

pub loop-s-preserved : goal.loop-s-preserved
loop-s-preserved g c = (
  fold_step with_sample c.loop-s.bundle c.with_sample-bundle.result c.args.samples.now c.loop-s.s-index _ c.loop-s-test.true c.with_sample-bundle.ensures.value ∙ c.loop-s.invariant.0,
  omega (arith, c.loop-s.invariant.1, c.with_sample-bundle.ensures.work),
)

pub returns-clause-bundle : goal.returns-clause-bundle
returns-clause-bundle g c = sym (fold_end with_sample c.loop-s.bundle c.args.samples.now c.loop-s.s-index c.loop-s-test.false) ∙ c.loop-s.invariant.0 ∙ folded_all c.args.samples.now
