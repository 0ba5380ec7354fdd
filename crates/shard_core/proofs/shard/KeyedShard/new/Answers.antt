-- An empty journal has no key and no change.
use Rattle.shard_core.proofs.Shards.{empty_shard}
use Rattle.shard_core.proofs.shard.KeyedShard.new.Goals as goal

pub invariant_of-result : goal.invariant_of-result
invariant_of-result g c = (
  empty_shard g.K.KeyWindows.key_of g.K.KeyWindows.fits g.K.KeyWindows.next_position c.in_ok-past.past c.new-2.result c.new-3.result.log.items c.new-4.result.items c.in_ok-past.ensures.limits c.in_ok-past.ensures.journal c.new-2.ensures.index c.new-2.ensures.slots c.new-2.ensures.dues c.new-3.ensures.log c.new-4.ensures.items,
  c.new-3.ensures.settled,
)
