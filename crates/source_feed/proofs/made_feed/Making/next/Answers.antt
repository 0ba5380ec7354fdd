-- Each answer is the one that the fields say.
use Rattle.std.proofs.Common.{◌<◌, ◌^◌, arith}
use Rattle.source_feed.specs.Pace.{waiting_of}
use Rattle.source_feed.proofs.MadeGiving.{gives_tuple, gives_waiting}
use Rattle.source_feed.proofs.made_feed.Making.next.Goals as goal

-- what waited
pub returns-in-Some-clause-gives : goal.returns-in-Some-clause-gives
returns-in-Some-clause-gives c =
    let a = c.self.inside in
    let small : a.generator.source < 2 ^ 16 = omega arith in
    rw (← c.self.view_is, c.entry.ensures)
    (gives_waiting a.generator (waiting_of a.waiting) (waiting_of c.next.new.self) c.in-Some.what a.ended c.in-Some.ensures.some small c.self.invariant.waiting c.self.invariant.waits)

-- the source's next tuple
pub returns-in-Some-take-clause-gives : goal.returns-in-Some-take-clause-gives
returns-in-Some-take-clause-gives c =
    let a = c.self.inside in
    let small : a.generator.source < 2 ^ 16 = omega arith in
    rw (← c.self.view_is, c.if-self.false, c.entry-in-Some-take.ensures)
    (gives_tuple a.generator c.take.new.self (waiting_of a.waiting) c.in-Some-take.tuple c.in-Some-take.waiting c.in_default.ensures.none small (rw c.in-Some-take.is at c.take.ensures))
