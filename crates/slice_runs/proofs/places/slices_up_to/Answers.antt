-- The first times of the slices don't fall, so the test of the search turns once.
use Rattle.std.proofs.Common.{rules}
use Rattle.std.specs.Prelude.{nat_le}
use Rattle.std.proofs.lemmas.List.Sorted.{IsPartitionPoint-from_clause, IsPartitionedBy-leb}
use Rattle.slice_lists.specs.declared.slice.Slice.{Slice}
use Rattle.slice_runs.proofs.UpTo.{place_up_to}
use Rattle.slice_runs.proofs.places.slices_up_to.Goals as goal

pub returns-else-begin_by : goal.returns-else-begin_by
returns-else-begin_by c =
    let bounds = c.args.bounds.now in
    let time = c.args.time in
    let at = c.partition_point.result in
    let parted = IsPartitionedBy-leb (λ (s : Slice). s.low) bounds time c.requires in
    let point = IsPartitionPoint-from_clause (λ (s : Slice). nat_le s.low time) bounds at c.partition_point.ensures.partitioned parted (λ a r q k. search rules) in
    place_up_to (λ (s : Slice). s.low) bounds time at c.partition_point.ensures.bound point
