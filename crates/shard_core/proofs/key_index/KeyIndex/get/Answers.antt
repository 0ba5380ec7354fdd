-- A place to which a hint leads is that of the key, and else it is found in order.
use Rattle.std.proofs.Common.{sym}
use Rattle.shard_core.proofs.key_index.KeyIndex.get.Goals as goal

pub returns-in-Some : goal.returns-in-Some
returns-in-Some c = sym (c.hinted.ensures c.in-Some.place c.in-Some.is)
