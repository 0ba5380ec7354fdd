-- Each window adds its count.
use Rattle.std.proofs.Common.{◌∙◌, arith}
use Rattle.stream_base.specs.Laws.{completions}
use Rattle.plain_windows.proofs.Appending.{count_more}
use Rattle.plain_windows.proofs.completions.count_completions.Goals as goal

pub loop-def-preserved : goal.loop-def-preserved
loop-def-preserved c = record {
  few = omega (arith, c.count_window-count.ensures.few);
  all = λ key.
      count_more (completions key c.args.view.now c.args.new) c.loop-def.count c.count_window-count.result c.loop-def.def-index c.windows_of-windows.result.now _ c.loop-def-test.true (c.count_window-count.ensures.value c.loop-def.def-index key)
      ∙ c.loop-def.invariant.all key;
}
