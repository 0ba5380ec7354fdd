-- Each instance adds its count.
use Rattle.std.proofs.Common.{◌∙◌, ◌+◌, arith}
use Rattle.stream_base.specs.Model.Changes.{emission, standing_at}
use Rattle.plain_windows.specs.Extents.{instance_in}
use Rattle.plain_windows.specs.Walks.{left_of}
use Rattle.plain_windows.proofs.Appending.{count_done, count_one}
use Rattle.plain_windows.proofs.changes.count_emitted.Goals as goal

pub loop-extent-preserved : goal.loop-extent-preserved
loop-extent-preserved c =
    let d = c.args.window.now in
    let v = c.args.new.now in
    record {
      below = omega (arith, c.in-Some.ensures.onward, c.count_come-count.ensures.few);
      few = omega (arith, c.in-Some.ensures.onward, c.in-Some.ensures.low, c.count_come-count.ensures.few);
      all = λ window key.
          count_one (emission window key d.func (standing_at d c.args.old.now)) c.loop-extent.count c.count_come-count.result (instance_in v.kept c.in-Some.extent) (left_of d.kind v.kept v.marks (c.in-Some.extent.low + 1) v.water) (left_of d.kind v.kept v.marks c.loop-extent.from v.water) c.in-Some.ensures.first (c.count_come-count.ensures.value window key)
          ∙ c.loop-extent.invariant.all window key;
    }

pub returns-clause-value : goal.returns-clause-value
returns-clause-value c = λ window key.
    let d = c.args.window.now in
    let v = c.args.new.now in
    count_done (emission window key d.func (standing_at d c.args.old.now)) c.loop-extent.count (left_of d.kind v.kept v.marks c.loop-extent.from v.water) c.in_default.ensures ∙ c.loop-extent.invariant.all window key
