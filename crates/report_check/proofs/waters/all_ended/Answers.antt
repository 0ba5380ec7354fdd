-- One source more has ended.
use Rattle.std.proofs.Common.{◌≡◌, true, rules}
use Rattle.stream_base.specs.Model.Watermark.{all_ended, has_ended}
use Rattle.report_check.proofs.Ranges.{all_step}
use Rattle.report_check.proofs.waters.all_ended.Goals as goal

pub loop-source-preserved : goal.loop-source-preserved
loop-source-preserved c =
    let is : has_ended c.loop-source.source c.args.journal.now ≡ true = search rules in
    all_step (λ source. has_ended source c.args.journal.now) c.loop-source.source c.args.sources (all_ended c.args.sources c.args.journal.now) c.loop-source-test.true is c.loop-source.invariant
