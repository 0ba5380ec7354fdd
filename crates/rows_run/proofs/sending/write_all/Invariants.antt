-- A prefix of the bytes went out, and the rest is left.
use Rattle.std.proofs.Common.{length}
use Rattle.rows_run.specs.Sending.{AppendsPrefix}
use Rattle.rows_run.proofs.sending.write_all.Given as goal

abbrev pub invariant-pieces : goal.invariant-pieces
invariant-pieces g l = AppendsPrefix g.K.Sink.taken g.K.Sink.faults l.bytes l.rest l.fn.sink l.sink

abbrev pub decreases-pieces : goal.decreases-pieces
decreases-pieces g l = length l.rest
