-- The test of the search turns behind the last tuple at or before the time.
use Rattle.std.proofs.Common.{rules}
use Rattle.std.specs.Prelude.{nat_le}
use Rattle.std.proofs.lemmas.List.Sorted.{IsPartitionPoint-from_clause, IsPartitionedBy-leb}
use Rattle.count_shift.proofs.Upper.{found_upper}
use Rattle.count_shift.proofs.ranks.upper_by_halves.Goals as goal

pub returns-clause-value : goal.returns-clause-value
returns-clause-value c =
    let items = c.args.items.now in
    let time = c.args.time in
    let at = c.partition_point.result in
    let parted = IsPartitionedBy-leb (λ x. x.time) items time c.requires in
    let point = IsPartitionPoint-from_clause (λ x. nat_le x.time time) items at c.partition_point.ensures.partitioned parted (λ a r q k. search rules) in
    found_upper items time at c.requires c.partition_point.ensures.bound point
