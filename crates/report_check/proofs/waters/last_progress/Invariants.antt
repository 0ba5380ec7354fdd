-- The last so far, and then those that are left.
use Rattle.std.proofs.Common.{◌≡◌, ◌==◌, drop, cond, Some}
use Rattle.std.specs.Prelude.{◌&&◌}
use Rattle.std.specs.List.{fold}
use Rattle.stream_base.specs.Model.Watermark.{last_progress}
use Rattle.stream_base.specs.Model.What.{is_progress}
use Rattle.report_check.proofs.waters.last_progress.Given as goal

abbrev pub invariant-loop-entry : goal.invariant-loop-entry
invariant-loop-entry l =
    fold (λ last e. cond (e.source == l.source && is_progress e.what) (Some e.what) last) l.last (drop l.entry-index l.journal)
    ≡ last_progress l.source l.journal
