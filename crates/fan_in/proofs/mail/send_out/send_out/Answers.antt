use Rattle.std.proofs.Common.{arith}
use Rattle.fan_in.specs.Sending.{sender_port}
use Rattle.fan_in.proofs.Lists.{written}
use Rattle.fan_in.proofs.Owned.{may_own, still_owned}
use Rattle.fan_in.proofs.Read.{may_read, read_out}
use Rattle.fan_in.proofs.mail.send_out.send_out.Goals as goal

pub read_beside-requires-clause-owners : goal.read_beside-requires-clause-owners
read_beside-requires-clause-owners g c κs within = may_own _ _ _ _ c.requires.owned

pub read_beside-requires-clause-readers : goal.read_beside-requires-clause-readers
read_beside-requires-clause-readers g c κs within = rw c.as_mut_slice.ensures.value (may_read sender_port g.F.Feed.state g.F.Feed.faults _ _ _ _ c.fill.ensures.many c.fill.ensures.each c.requires.ready)

pub returns-clause-owned : goal.returns-clause-owned
returns-clause-owned g c = still_owned _ _ _ _ c.requires.owned _ c.read_beside.ensures.owners

pub returns-clause-read : goal.returns-clause-read
returns-clause-read g c =
    let readers = c.fill.new.readers in
    let read = rw c.as_mut_slice.ensures.value at c.read_beside.ensures.read in
    let w = written readers.len readers.items c.read_beside.new.readers (omega (arith, readers.ok.0)) read.many in
    read_out sender_port g.F.Feed.state g.F.Feed.faults _ _ _ _ c.fill.ensures.many c.fill.ensures.each c.read_beside.new.readers _ _ read (rw w at c.take_apart.ensures.many_ends) (rw w at c.take_apart.ensures.many_rows) (rw w at c.take_apart.ensures.each)
