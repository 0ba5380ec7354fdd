use Rattle.std.proofs.Common.{[], ◌∷◌, ap, ◌∙◌, reverse, arith}
use Rattle.std.proofs.lemmas.List.{reverse-append}
use Rattle.fan_in.proofs.Ending.{all_closed, ends_at, next_closed}
use Rattle.fan_in.proofs.turns.closing.close_all.Goals as goal

pub close_desk-requires-clause-rows : goal.close_desk-requires-clause-rows
close_desk-requires-clause-rows g c = ends_at _ _ _ _ _ _ _ _ _ _ _ _ c.loop-desk.invariant c.in-Some.ensures.items c.in-Some-pop.ensures.items

pub loop-desk-preserved : goal.loop-desk-preserved
loop-desk-preserved g c =
    let e = c.in_ok-shard-in-Some-pop.ensures in
    let shard = c.in_ok-shard-in-Some-pop.shard in
    next_closed _ _ _ _ _ _ _ _ _ _ _ _ c.loop-desk.invariant c.in-Some.ensures.items c.in-Some-pop.ensures.items shard c.close_desk.new.rows e.closed e.settled e.rows _
    (ap reverse c.in_ok-push-in-Some-pop.ensures.items ∙ reverse-append c.loop-desk.shards.items (shard ∷ []))

pub returns-clause-closed : goal.returns-clause-closed
returns-clause-closed g c = rw c.reverse.ensures.items (all_closed _ _ _ _ _ _ _ _ c.loop-desk.invariant (let e = c.in_default.ensures.cases in omega (arith, e.0, c.loop-desk.desks.ok.0)))
