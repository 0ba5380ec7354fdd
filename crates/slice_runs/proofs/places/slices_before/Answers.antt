-- The first times of the slices don't fall, so the test of the search turns once.
use Rattle.std.proofs.Common.{rules}
use Rattle.std.specs.Prelude.{nat_lt}
use Rattle.std.proofs.lemmas.List.Sorted.{IsPartitionPoint-from_clause, IsPartitionedBy-ltb}
use Rattle.slice_lists.specs.declared.slice.Slice.{Slice}
use Rattle.slice_lists.proofs.PlaceFacts.{place_from_point}
use Rattle.slice_runs.proofs.places.slices_before.Goals as goal

pub returns : goal.returns
returns c =
    let kept = c.args.bounds.now in
    let time = c.args.time in
    let at = c.partition_point.result in
    let parted = IsPartitionedBy-ltb (λ (s : Slice). s.low) kept time c.requires in
    let point = IsPartitionPoint-from_clause (λ (s : Slice). nat_lt s.low time) kept at c.partition_point.ensures.partitioned parted (λ a r q k. search rules) in
    place_from_point (λ (s : Slice). s.low) kept time at c.partition_point.ensures.bound point
