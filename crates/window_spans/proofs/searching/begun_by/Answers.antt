-- The starts of the sessions rise, so the test of the search turns once.
use Rattle.std.proofs.Common.{rules}
use Rattle.std.specs.Prelude.{nat_le}
use Rattle.std.proofs.lemmas.List.Sorted.{IsPartitionPoint-from_clause, IsPartitionedBy-leb}
use Rattle.window_spans.specs.declared.span.Span.{Span}
use Rattle.window_spans.proofs.Searches.{place_from_point}
use Rattle.window_spans.proofs.searching.begun_by.Goals as goal

pub returns : goal.returns
returns c =
    let spans = c.args.spans.now in
    let time = c.args.time in
    let at = c.partition_point.result in
    let parted = IsPartitionedBy-leb (λ (s : Span). s.low) spans time c.requires in
    let point = IsPartitionPoint-from_clause (λ (s : Span). nat_le s.low time) spans at c.partition_point.ensures.partitioned parted (λ a r q k. search rules) in
    place_from_point (λ (s : Span). nat_le s.low time) spans at c.partition_point.ensures.bound point
