-- What is pending, and then the pieces that are left, is what is left of all.
use Rattle.std.proofs.Common.{◌++◌, length}
use Rattle.emission_text.specs.Sending.{AppendsPrefix}
use Rattle.part_run.proofs.printing.add_pieces.Given as goal

abbrev pub invariant-pieces : goal.invariant-pieces
invariant-pieces g l =
    AppendsPrefix g.K.Sink.taken g.K.Sink.faults (l.fn.out ++ l.fn.pieces) (l.out ++ l.pieces) l.fn.sink l.sink

abbrev pub decreases-pieces : goal.decreases-pieces
decreases-pieces g l = length l.pieces
