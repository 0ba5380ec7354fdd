-- With the key's place the table is still that of the past.
use Rattle.shard_core.proofs.keys.KeyTable.prepare.Goals as goal

pub catch_up-requires-clause-current : goal.catch_up-requires-clause-current
catch_up-requires-clause-current g c = c.place_or_add.ensures.current c.requires

pub catch_up-requires-clause-place : goal.catch_up-requires-clause-place
catch_up-requires-clause-place g c = (c.args.key.now, c.in_ok-place.ensures.place)
