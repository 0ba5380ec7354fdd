-- The last part, or the place where the test of the search turns.
use Rattle.std.proofs.Common.{arith, rules}
use Rattle.std.specs.Prelude.{nat_le}
use Rattle.std.proofs.lemmas.List.Sorted.{IsPartitionPoint-from_clause, IsPartitionedBy-leb}
use Rattle.stream_base.specs.Model.Windows.{last_time}
use Rattle.tuple_chunks.proofs.PartFacts.{ends_rise, entry_last, entry_point}
use Rattle.tuple_chunks.proofs.row.entry_of.Goals as goal

pub returns-then-last_time-time : goal.returns-then-last_time-time
returns-then-last_time-time g c =
    entry_last g.P.Part.tuples c.args.parts.now c.args.time c.index-parts-last.result c.requires.parts c.requires.some c.index-parts-last.is (omega (arith, c.last_time.ensures))

pub returns-else-last_time-time : goal.returns-else-last_time-time
returns-else-last_time-time g c =
    let f = g.P.Part.tuples in
    let parts = c.args.parts.now in
    let time = c.args.time in
    let at = c.partition_point.result in
    let parted = IsPartitionedBy-leb (λ p. last_time (f p)) parts time (ends_rise f parts c.requires.parts) in
    let point = IsPartitionPoint-from_clause (λ p. nat_le (last_time (f p)) time) parts at c.partition_point.ensures.partitioned parted (λ a r q k. search rules) in
    entry_point f parts time at c.index-parts-last.result c.requires.parts c.requires.some c.index-parts-last.is (omega (arith, c.last_time.ensures)) c.partition_point.ensures.bound point
