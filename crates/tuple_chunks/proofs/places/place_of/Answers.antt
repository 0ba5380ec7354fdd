-- So many tuples lie before the next time.
use Rattle.std.proofs.Common.{rules, sym}
use Rattle.std.specs.Prelude.{nat_le}
use Rattle.std.proofs.lemmas.List.Sorted.{IsPartitionPoint-from_clause, IsPartitionedBy-leb}
use Rattle.stream_base.specs.declared.kept.Kept.{Kept}
use Rattle.slice_lists.proofs.PlaceFacts.{place_is, some_tuple}
use Rattle.tuple_chunks.proofs.UpTo.{place_up_to}
use Rattle.tuple_chunks.proofs.places.place_of.Goals as goal

pub returns-else-are_by-clause-value : goal.returns-else-are_by-clause-value
returns-else-are_by-clause-value c =
    let kept = c.args.tuples.now in
    let time = c.args.time in
    let at = c.partition_point.result in
    let parted = IsPartitionedBy-leb (λ (x : Kept). x.time) kept time c.requires in
    let point = IsPartitionPoint-from_clause (λ (x : Kept). nat_le x.time time) kept at c.partition_point.ensures.partitioned parted (λ a r q k. search rules) in
    sym (place_is kept time at some_tuple (place_up_to (λ (x : Kept). x.time) kept time at c.partition_point.ensures.bound point))
