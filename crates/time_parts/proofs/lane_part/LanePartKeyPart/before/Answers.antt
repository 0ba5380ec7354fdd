-- What stands of the complete intervals that hold the time, of which the store holds all tuples.
use Rattle.std.proofs.Common.{take, arith}
use Rattle.agg_store.specs.Stored.{tuples_of}
use Rattle.key_parts.specs.Calls.{window_at}
use Rattle.time_parts.specs.Places.{stands_at}
use Rattle.time_parts.proofs.LaneFacts.{told_of_all}
use Rattle.time_parts.proofs.WindowFacts.{apart_at}
use Rattle.time_parts.proofs.lane_part.LanePartKeyPart.before.Goals as goal

pub returns-clause-asked : goal.returns-clause-asked
returns-clause-asked g c = λ m n at.
    let d = c.args.defs.now in
    let s = (g.S.AggStore.stored c.args.store.now) in
    let t = at.stood.timed in
    let w = window_at d c.args.window in
    told_of_all m n c.args.water (tuples_of s) at.water_is at.held.tuples w c.args.time c.clear.new.self.items c.formers.new.into.items c.clear.ensures.items
    (c.formers.ensures.formers w (take n m.kept) (stands_at d c.args.window t)
    (apart_at d c.args.window m n t at.held.may_leave c.args.time (omega (arith, c.requires.accepted.accepted, at.water_is))))
