-- What is pending, and then the pieces that are left, is what is left of all.
use Rattle.std.proofs.Common.{◌++◌, drop}
use Rattle.std.specs.List.{flat_map}
use Rattle.emission_text.specs.Sending.{AppendsPrefix}
use Rattle.emission_text.proofs.pieces.put_pieces.Given as goal

abbrev pub invariant-loop-piece : goal.invariant-loop-piece
invariant-loop-piece g l =
    AppendsPrefix g.K.Sink.taken g.K.Sink.faults (l.fn.out ++ flat_map (λ piece. piece.now) l.pieces) (l.out ++ flat_map (λ piece. piece.now) (drop l.piece-index l.pieces)) l.fn.sink l.sink
