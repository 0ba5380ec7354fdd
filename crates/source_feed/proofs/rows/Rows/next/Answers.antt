-- Each answer is the one that the fields say.
use Rattle.std.proofs.Common.{◌<◌, ◌≤◌, ◌^◌, ◌∷◌, subst, sym, arith}
use Rattle.source_feed.specs.Pace.{waiting_of}
use Rattle.source_feed.specs.RecordsLeft.{records_left, text_left}
use Rattle.source_feed.specs.RowsView.{AreInner}
use Rattle.source_feed.proofs.Giving.{IsBounded, bounded_told, gives_end, gives_event, gives_fault, gives_waiting, inner_told, tuples_told}
use Rattle.source_feed.proofs.rows.Rows.next.Goals as goal

-- what waited
pub returns-in-Some-clause-gives : goal.returns-in-Some-clause-gives
returns-in-Some-clause-gives c =
    let a = c.self.inside in
    let small : a.pace.source < 2 ^ 16 = omega arith in
    rw (← c.self.view_is, c.entry.ensures)
    (gives_waiting a.pace (waiting_of a.waiting) (waiting_of c.next.new.self) a.number (records_left text_left a.reader) a.stage c.in-Some.what c.self.invariant.waits c.in-Some.ensures.some small c.self.invariant.waiting)

-- an event was read, and is remembered
pub invariant_of-self-in-Ok-Some : goal.invariant_of-self-in-Ok-Some
invariant_of-self-in-Ok-Some c =
    let a = c.self.inside in
    let told = c.take_in-first.ensures.told in
    let took = rw c.in-Ok-Some.field-0-is at c.in-Ok-Some.ensures in
    let bounded : IsBounded a.pace = record { greatest = c.self.invariant.greatest; water = c.self.invariant.water } in
    let after = bounded_told a.pace c.in-Ok-Some.what bounded took.event in
    let inner : AreInner (c.take_in-first.result ∷ waiting_of c.take_in-first.new.waiting) = subst AreInner (sym told) (inner_told a.pace c.in-Ok-Some.what bounded took.event) in
    let more = tuples_told a.pace c.in-Ok-Some.what in
    let before : a.pace.tuples ≤ a.number = rw c.in-Open.is at c.self.invariant.tuples in
    let further : a.number < c.next_event.new.number = took.on.further in
    rw (c.in-Open.is, c.take_in-first.ensures.pace) (record {
      readable = took.on.readable;
      few = took.on.few;
      tuples = omega arith;
      waits = tt;
      greatest = after.greatest;
      water = after.water;
      waiting = inner.1;
    })

-- the event of the next record
pub returns-in-Ok-Some-clause-gives : goal.returns-in-Ok-Some-clause-gives
returns-in-Ok-Some-clause-gives c =
    let a = c.self.inside in
    let small : a.pace.source < 2 ^ 16 = omega arith in
    let bounded : IsBounded a.pace = record { greatest = c.self.invariant.greatest; water = c.self.invariant.water } in
    rw (← c.self.view_is, c.in-Open.is, c.entry-in-Ok-Some.ensures, c.take_in-first.ensures.pace)
    (gives_event text_left a.number c.next_event.new.number a.reader c.next_event.new.reader a.pace (waiting_of a.waiting) (waiting_of c.take_in-first.new.waiting) c.in-Ok-Some.what c.take_in-first.result c.in_default.ensures.none small bounded c.take_in-first.ensures.told (rw c.in-Ok-Some.field-0-is at c.in-Ok-Some.ensures))

-- no record is left
pub returns-in-Ok-None-clause-gives : goal.returns-in-Ok-None-clause-gives
returns-in-Ok-None-clause-gives c =
    let a = c.self.inside in
    let small : a.pace.source < 2 ^ 16 = omega arith in
    rw (← c.self.view_is, c.in-Open.is, c.entry-in-Ok-None.ensures)
    (gives_end text_left a.number c.next_event.new.number a.reader c.next_event.new.reader a.pace (waiting_of a.waiting) c.in_default.ensures.none small (rw c.in-Ok-None.field-0-is at c.in-Ok-None.ensures))

-- a fault
pub returns-in-Err-clause-gives : goal.returns-in-Err-clause-gives
returns-in-Err-clause-gives c =
    let a = c.self.inside in
    rw (← c.self.view_is, c.in-Open.is)
    (gives_fault text_left a.number c.next_event.new.number a.reader c.next_event.new.reader a.pace (waiting_of a.waiting) c.in-Err.fault c.in_default.ensures.none c.in-Err.ensures)
