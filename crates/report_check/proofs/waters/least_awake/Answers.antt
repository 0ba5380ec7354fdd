-- One source more is asked.
use Rattle.std.proofs.Common.{◌≡◌, ◌∙◌, ◌-◌, ◌+◌, Some, cond, map, filter, sym, ap, rules}
use Rattle.std.specs.List.{range_with_len}
use Rattle.stream_base.specs.Model.Watermark.{is_awake, source_water}
use Rattle.report_check.specs.Waters.{least_with, lesser}
use Rattle.report_check.proofs.Ranges.{least_step}
use Rattle.report_check.proofs.waters.least_awake.Goals as goal

pub loop-source-preserved : goal.loop-source-preserved
loop-source-preserved c =
    let journal = c.args.journal.now in
    let s = c.loop-source.source in
    let least : c.if-is_awake.least ≡ cond (is_awake journal s) (Some (lesser c.loop-source.least (source_water s journal))) c.loop-source.least = search rules in
    ap (λ most. least_with most (map (λ source. source_water source journal) (filter (is_awake journal) (range_with_len (s + 1) (c.args.sources - (s + 1)))))) least
    ∙ sym (least_step (λ source. source_water source journal) (is_awake journal) s c.args.sources c.loop-source.least c.loop-source-test.true)
    ∙ c.loop-source.invariant
