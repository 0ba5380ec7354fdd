-- One state more is caught up.
use Rattle.std.proofs.Common.{◌≡◌, ◌∙◌, ap, arith, length, subst}
use Rattle.stream_base.specs.Model.Watermark.{water_of}
use Rattle.shard_core.specs.Engines.{StandAt}
use Rattle.shard_core.specs.Placed.{place_in}
use Rattle.shard_core.proofs.Loops.{one_caught_up}
use Rattle.shard_core.proofs.keys.KeyTable.catch_up_all.Goals as goal

pub catch_up-requires-clause-place : goal.catch_up-requires-clause-place
catch_up-requires-clause-place g c =
    let p = c.requires.places c.loop-place.place-index (omega arith) in
    (p.0, ap (λ index. place_in index p.0) c.loop-place.invariant.index ∙ p.1)

pub loop-place-preserved : goal.loop-place-preserved
loop-place-preserved g c =
    let past = c.args.past.now in
    let h = c.loop-place.invariant in
    record {
      current = c.catch_up.ensures.current;
      index = c.catch_up.ensures.index ∙ h.index;
      dues = c.catch_up.ensures.dues ∙ h.dues;
      water = one_caught_up (water_of past.sources past.journal) c.loop-place.self.slots.items c.catch_up.new.self.slots.items c.args.places.now c.loop-place.place-index h.water c.catch_up.ensures.others c.catch_up.ensures.water;
    }

pub returns-clause-water : goal.returns-clause-water
returns-clause-water g c =
    let past = c.args.past.now in
    let all : c.loop-place.place-index ≡ length c.args.places.now = omega arith in
    subst (StandAt (water_of past.sources past.journal) c.loop-place.self.slots.items c.args.places.now) all c.loop-place.invariant.water
