-- The first item goes along the left edge, and the root is planted again where it has none left.
use Rattle.std.proofs.Common.{arith}
use Rattle.fiba_finger.proofs.Taking.{can_pull, taken_low, taken_whole}
use Rattle.fiba_finger.proofs.take.take_first.Goals as goal

pub pull-requires : goal.pull-requires
pull-requires g c =
    let m = g.M.Monoid in
    can_pull m.is_value m.empty m.op c.args.nodes.now c.args.root c.args.first c.requires.can c.requires.some

pub returns-in_default-clause-takes : goal.returns-in_default-clause-takes
returns-in_default-clause-takes g c =
    let m = g.M.Monoid in
    record {
      changed = taken_whole m.is_value m.empty m.op c.args.nodes.now c.args.root c.args.first c.requires.can c.requires.some c.requires.first c.pull.new.nodes c.in_default.ensures.pulls.whole;
      full = omega (arith, c.pull.ensures.full);
    }

pub plant-requires-clause-opened : goal.plant-requires-clause-opened
plant-requires-clause-opened g c =
    let d = c.in-Some.ensures.pulls.drained in
    rw (c.right_place.ensures.left, c.right_place.ensures.right) d.applied.opened

pub returns-clause-takes : goal.returns-clause-takes
returns-clause-takes g c =
    let m = g.M.Monoid in
    let planted = rw (c.right_place.ensures.left, c.right_place.ensures.right) at c.plant.ensures.planted in
    record {
      changed = taken_low m.is_value m.empty m.op c.args.nodes.now c.args.root c.args.first c.requires.can c.requires.some c.requires.first c.pull.new.nodes c.plant.new.nodes c.in-Some.last c.plant.result c.in-Some.ensures.pulls.drained planted;
      full = omega (arith, c.plant.ensures.full, c.in-Some.ensures.full, c.pull.ensures.full);
    }
