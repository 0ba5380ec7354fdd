-- The marks rise, so the test of the search turns once.
use Rattle.std.proofs.Common.{ℕ, rules}
use Rattle.std.specs.Prelude.{nat_lt}
use Rattle.std.proofs.lemmas.List.Sorted.{IsPartitionPoint-from_clause, IsPartitionedBy-ltb}
use Rattle.slice_lists.proofs.PlaceFacts.{place_from_point}
use Rattle.window_spans.proofs.edges.marks_before.Goals as goal

pub returns : goal.returns
returns c =
    let marks = c.args.marks.now in
    let time = c.args.time in
    let at = c.partition_point.result in
    let parted = IsPartitionedBy-ltb (λ (m : ℕ). m) marks time c.requires in
    let point = IsPartitionPoint-from_clause (λ (m : ℕ). nat_lt m time) marks at c.partition_point.ensures.partitioned parted (λ a r q k. search rules) in
    place_from_point (λ (m : ℕ). m) marks time at c.partition_point.ensures.bound point
