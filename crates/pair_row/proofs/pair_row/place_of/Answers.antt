-- The test of the binary search turns where the keys reach the wanted one.
use Rattle.std.proofs.Common.{rules}
use Rattle.std.specs.Prelude.{nat_lt}
use Rattle.std.proofs.lemmas.List.Sorted.{IsPartitionPoint-from_clause, IsPartitionedBy-ltb}
use Rattle.pair_row.proofs.Places.{keys_never_fall, place_before, place_behind}
use Rattle.pair_row.proofs.pair_row.place_of.Goals as goal

pub returns : goal.returns
returns g c =
    let pairs = c.args.pairs.now in
    let key = c.args.key in
    let at = c.partition_point.result in
    let parted = IsPartitionedBy-ltb (λ p. p.0) pairs key (keys_never_fall pairs c.requires) in
    let point = IsPartitionPoint-from_clause (λ p. nat_lt p.0 key) pairs at c.partition_point.ensures.partitioned parted (λ a r q k. search rules) in
    record {
      within = c.partition_point.ensures.bound;
      before = place_before key pairs at point;
      behind = place_behind key pairs at point;
    }
