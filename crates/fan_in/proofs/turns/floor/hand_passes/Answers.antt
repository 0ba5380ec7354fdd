use Rattle.fan_in.proofs.Opening.{hand_more}
use Rattle.fan_in.proofs.turns.floor.hand_passes.Goals as goal

pub loop-i-preserved : goal.loop-i-preserved
loop-i-preserved c =
    let e = c.in_ok-pass.ensures in
    hand_more _ _ _ c.loop-i.zero _ c.in_ok-pass.pass _ _ c.index-rows-i.result c.push.new.self c.loop-i.invariant c.loop-i-test.true c.in_ok-push.ensures.items
    e.own e.number e.knows.0 (e.nothing_yet.0, e.nothing_yet.1) e.born e.one_less (e.same.0, e.same.1, e.same.3)
