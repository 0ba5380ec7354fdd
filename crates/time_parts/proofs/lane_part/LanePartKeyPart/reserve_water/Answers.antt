-- The lane makes room for the slices that it takes up, and stays as it was.
use Rattle.std.proofs.Common.{rules}
use Rattle.key_parts.specs.Calls.{window_at}
use Rattle.time_parts.specs.Places.{stands_at}
use Rattle.time_parts.proofs.lane_part.LanePartKeyPart.reserve_water.Goals as goal

pub returns : goal.returns
returns g c =
    let w = window_at c.args.defs.now c.args.window in
    let is = stands_at c.args.defs.now c.args.window c.requires.under.key.2.stood.timed in
    record {
      stays = search rules;
      ready = c.reserve.ensures.room w is;
      room = c.reserve.ensures.number w is;
      credit = search rules;
      ahead = search rules;
    }
