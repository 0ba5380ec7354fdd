-- Each window adds its count.
use Rattle.std.proofs.Common.{◌∙◌, arith}
use Rattle.stream_base.specs.Model.Changes.{emissions}
use Rattle.plain_windows.proofs.Appending.{count_more}
use Rattle.plain_windows.proofs.changes.count_emissions.Goals as goal

pub loop-def-preserved : goal.loop-def-preserved
loop-def-preserved c = record {
  few = omega (arith, c.count_emitted-count.ensures.few);
  all = λ key.
      count_more (emissions key c.args.old.now c.args.new.now) c.loop-def.count c.count_emitted-count.result c.loop-def.def-index c.windows_of-windows.result.now _ c.loop-def-test.true (c.count_emitted-count.ensures.value c.loop-def.def-index key)
      ∙ c.loop-def.invariant.all key;
}
