-- What is found among the sources that are left is found among all.
use Rattle.std.proofs.Common.{◌≡◌, drop, not}
use Rattle.std.specs.Prelude.{◌==◌}
use Rattle.std.specs.List.{list_any}
use Rattle.report_rows.proofs.sources.lacks_any.Given as goal

abbrev pub invariant-loop-source : goal.invariant-loop-source
invariant-loop-source l =
    list_any (λ source. not (list_any (λ x. x == source) l.list)) (drop l.source-index l.sources)
    ≡ list_any (λ source. not (list_any (λ x. x == source) l.list)) l.sources
