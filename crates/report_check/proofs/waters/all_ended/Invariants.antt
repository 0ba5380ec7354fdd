-- The sources so far have ended.
use Rattle.std.proofs.Common.{◌≡◌, ◌-◌}
use Rattle.std.specs.List.{list_all, range_with_len}
use Rattle.stream_base.specs.Model.Watermark.{all_ended, has_ended}
use Rattle.report_check.proofs.waters.all_ended.Given as goal

abbrev pub invariant-loop-source : goal.invariant-loop-source
invariant-loop-source l =
    list_all (λ source. has_ended source l.journal) (range_with_len l.source (l.sources - l.source)) ≡ all_ended l.sources l.journal
