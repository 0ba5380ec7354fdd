-- The times of the tuples don't fall, so the test of the search turns once.
use Rattle.std.proofs.Common.{rules}
use Rattle.std.specs.Prelude.{nat_lt}
use Rattle.std.proofs.lemmas.List.Sorted.{IsPartitionPoint-from_clause, IsPartitionedBy-ltb}
use Rattle.stream_base.specs.declared.kept.Kept.{Kept}
use Rattle.slice_lists.proofs.PlaceFacts.{place_from_point}
use Rattle.tuple_chunks.proofs.places.tuples_before.Goals as goal

pub returns : goal.returns
returns c =
    let kept = c.args.tuples.now in
    let time = c.args.time in
    let at = c.partition_point.result in
    let parted = IsPartitionedBy-ltb (λ (x : Kept). x.time) kept time c.requires in
    let point = IsPartitionPoint-from_clause (λ (x : Kept). nat_lt x.time time) kept at c.partition_point.ensures.partitioned parted (λ a r q k. search rules) in
    place_from_point (λ (x : Kept). x.time) kept time at c.partition_point.ensures.bound point
