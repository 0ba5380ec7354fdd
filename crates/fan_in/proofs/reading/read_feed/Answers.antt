use Rattle.fan_in.proofs.Midway.{begin, fault_of, last, may_take, more, still_at}
use Rattle.fan_in.proofs.reading.read_feed.Goals as goal

pub entries-init : goal.entries-init
entries-init g c = (tt, tt, begin g.P.Port g.met.P.Port.laws _ _ _ _ _ c.requires.may.ready)

pub take_entry-requires-clause-stand : goal.take_entry-requires-clause-stand
take_entry-requires-clause-stand g c κs within = still_at g.P.Port g.met.P.Port.laws _ _ _ c.requires.may.stand c.entries.invariant.2.same

pub take_entry-requires-clause-may : goal.take_entry-requires-clause-may
take_entry-requires-clause-may g c κs within = may_take g.P.Port g.met.P.Port.laws _ _ _ _ _ _ _ _ _ _ _ c.requires.may.ready c.entries.invariant.2 (rw c.in-Ok-Some.field-0-is at c.in-Ok-Some.ensures.gives)

pub entries-preserved : goal.entries-preserved
entries-preserved g c =
    let m = more g.P.Port g.met.P.Port.laws _ _ _ _ _ _ _ _ _ _ _ _ _ c.entries.invariant.2 (rw c.in-Ok-Some.field-0-is at c.in-Ok-Some.ensures.gives) (rw c.in-Ok-Some.field-0-is at c.in-Ok-Some.ensures.counts) c.take_entry.ensures.same c.take_entry.ensures.taken in
    (tt, tt, rw c.take_entry.ensures.feed m)

pub returns-in-Ok-None : goal.returns-in-Ok-None
returns-in-Ok-None g c = record { read = last g.P.Port _ _ _ _ _ _ _ _ _ _ c.entries.invariant.2 (rw c.in-Ok-None.field-0-is at c.in-Ok-None.ensures.gives) (rw c.in-Ok-None.field-0-is at c.in-Ok-None.ensures.counts) }

pub returns-in-Err : goal.returns-in-Err
returns-in-Err g c = record { read = fault_of g.P.Port _ _ _ _ _ _ _ _ _ _ _ c.entries.invariant.2 c.in-Err.ensures.gives c.in-Err.ensures.counts }
