-- With room made it stands for the same lists.
use Rattle.std.proofs.Common.{rules}
use Rattle.shard_core.proofs.slot.Slot.mark.Goals as goal

pub mark-requires : goal.mark-requires
mark-requires g c =
    let old = c.requires.accepted.stands in
    record {
      stands = (old.0, old.1, c.reserve_mark.ensures.stays old.0 old.1 c.args.self.now.water old.2);
      in_time = search rules;
      ready = search rules;
      spare = search rules;
    }
