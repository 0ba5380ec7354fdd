use Rattle.std.proofs.Common.{arith}
use Rattle.fan_in.proofs.Lists.{written}
use Rattle.fan_in.proofs.Read.{may_read, read_out}
use Rattle.fan_in.proofs.turns.read_out.read_out.Goals as goal

pub read_all-requires-clause-may : goal.read_all-requires-clause-may
read_all-requires-clause-may g c κs within = rw c.as_mut_slice.ensures.value (may_read g.P.Port g.F.Feed.state g.F.Feed.faults _ _ _ _ c.fill.ensures.many c.fill.ensures.each c.requires.ready)

pub returns : goal.returns
returns g c =
    let readers = c.fill.new.readers in
    let read = rw c.as_mut_slice.ensures.value at c.read_all.ensures.read in
    let w = written readers.len readers.items c.read_all.new.readers (omega (arith, readers.ok.0)) read.many in
    record { read = read_out g.P.Port g.F.Feed.state g.F.Feed.faults _ _ _ _ c.fill.ensures.many c.fill.ensures.each c.read_all.new.readers _ _ read (rw w at c.take_apart.ensures.many_ends) (rw w at c.take_apart.ensures.many_rows) (rw w at c.take_apart.ensures.each) }
