-- The engine can show all functions.
use Rattle.shard_core.proofs.slot.Slot.fresh.Goals as goal

pub fresh-requires : goal.fresh-requires
fresh-requires g c = g.met.K.AnyKey.serves_all c.args.defs.now
