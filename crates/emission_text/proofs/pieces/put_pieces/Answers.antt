-- Each piece is one part more.
use Rattle.std.specs.List.{flat_map}
use Rattle.emission_text.proofs.Sent.{element_put, element_failed, put_failed}
use Rattle.emission_text.proofs.pieces.put_pieces.Goals as goal

pub returns-in_err-add : goal.returns-in_err-add
returns-in_err-add g c =
    put_failed (flat_map (λ piece. piece.now) c.args.pieces.now) c.args.out.now c.add.new.self c.add.new.sink c.from_residual.result c.from_residual.ensures.0
    (element_failed (λ piece. piece.now) c.args.pieces.now c.loop-piece.piece-index _ c.loop-piece.out c.loop-piece-test.true c.loop-piece.invariant c.in_err-add.ensures)

pub loop-piece-preserved : goal.loop-piece-preserved
loop-piece-preserved g c =
    element_put (λ piece. piece.now) c.args.pieces.now c.loop-piece.piece-index _ c.loop-piece.out c.loop-piece-test.true c.loop-piece.invariant c.in_ok-add.ensures
