-- The last tuple has the last time.
use Rattle.std.proofs.Common.{sym}
use Rattle.slice_lists.proofs.PlaceFacts.{last_is}
use Rattle.tuple_chunks.proofs.chunk.last_time.Goals as goal

pub returns-else-is_empty : goal.returns-else-is_empty
returns-else-is_empty c = sym (last_is c.args.tuples.now)
