-- The slices that leave begin before the next interval.
use Rattle.std.proofs.Common.{◌-◌, arith}
use Rattle.stream_base.specs.Kinds.{length_of, slide_of}
use Rattle.time_lanes.proofs.AdvanceFacts.{next_rises}
use Rattle.time_lanes.proofs.StayFacts.{knows_all_purged, knows_purged}
use Rattle.key_parts.specs.Calls.{window_kind}
use Rattle.time_parts.proofs.WindowFacts.{span_at}
use Rattle.time_parts.proofs.lane_part.LanePartKeyPart.drop_settled.Goals as goal

pub returns-clause-stands : goal.returns-clause-stands
returns-clause-stands g c = λ m n time before more after leaves by.
    let d = c.args.defs.now in
    let kind = window_kind d c.args.window in
    let rises = next_rises (length_of kind) (slide_of kind) (span_at d c.args.window leaves.stood.timed leaves.purge.held.may_leave.kinds) (c.args.water - d.lateness) m.water (omega (arith, leaves.water_is)) in
    record {
      timed = leaves.stood.timed;
      shown = leaves.stood.shown;
      knows = knows_purged kind m.water time before after c.args.self.now.lane leaves.purge.slices (omega (arith, by, rises)) leaves.stood.knows;
    }

pub returns-clause-ahead : goal.returns-clause-ahead
returns-clause-ahead g c = λ m n time before more after leaves ahead.
    knows_all_purged (window_kind c.args.defs.now c.args.window) c.args.water time before after c.args.self.now.lane leaves.purge.slices ahead
