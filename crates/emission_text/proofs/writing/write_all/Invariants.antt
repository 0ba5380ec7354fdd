-- A prefix of the bytes went out, and the rest is left.
use Rattle.std.proofs.Common.{length}
use Rattle.emission_text.specs.Sending.{AppendsPrefix}
use Rattle.emission_text.proofs.writing.write_all.Given as goal

abbrev pub invariant-pieces : goal.invariant-pieces
invariant-pieces g l = AppendsPrefix g.K.Sink.taken g.K.Sink.faults l.bytes l.rest l.fn.sink l.sink

abbrev pub decreases-pieces : goal.decreases-pieces
decreases-pieces g l = length l.rest
