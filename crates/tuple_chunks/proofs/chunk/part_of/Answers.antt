-- The tuples stand between the places of both ends.
use Rattle.tuple_chunks.proofs.Ranges.{range_is}
use Rattle.tuple_chunks.proofs.chunk.part_of.Goals as goal

pub returns : goal.returns
returns c = range_is c.args.low c.args.high c.args.tuples.now c.tuples_before.result c.min-start.result c.tuples_before-end.result c.tuples_before.ensures c.tuples_before-end.ensures c.min-start.ensures
