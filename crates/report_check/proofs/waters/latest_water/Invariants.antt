-- The greatest so far, and then those that are left.
use Rattle.std.proofs.Common.{◌≡◌, ◌==◌, drop, max, cond}
use Rattle.std.specs.List.{fold}
use Rattle.stream_base.specs.Model.Watermark.{latest_water}
use Rattle.stream_base.specs.Model.What.{water_time}
use Rattle.report_check.proofs.waters.latest_water.Given as goal

abbrev pub invariant-loop-entry : goal.invariant-loop-entry
invariant-loop-entry l =
    fold (λ latest e. cond (e.source == l.source) (max latest (water_time e.what)) latest) l.latest (drop l.entry-index l.journal)
    ≡ latest_water l.source l.journal
