-- The least so far, and then those that are left.
use Rattle.std.proofs.Common.{◌≡◌, ◌-◌, map, filter}
use Rattle.std.specs.List.{range_with_len}
use Rattle.stream_base.specs.Model.Watermark.{awake_waters, is_awake, least_or_zero, source_water}
use Rattle.report_check.specs.Waters.{least_with}
use Rattle.report_check.proofs.waters.least_awake.Given as goal

abbrev pub invariant-loop-source : goal.invariant-loop-source
invariant-loop-source l =
    least_with l.least (map (λ source. source_water source l.journal) (filter (is_awake l.journal) (range_with_len l.source (l.sources - l.source))))
    ≡ least_or_zero (awake_waters l.sources l.journal)
