-- A write of the piece that was taken failed.
use Rattle.std.proofs.Common.{◌≡◌, ◌++◌}
use Rattle.emission_text.proofs.Sent.{part_failed, put_failed}
use Rattle.part_run.proofs.printing.add_pieces.Goals as goal

pub returns-in_err-add : goal.returns-in_err-add
returns-in_err-add g c =
    let left = c.next_piece.new.self in
    let first : c.pieces.pieces ≡ c.deref.result.now ++ left = rw c.deref.ensures.value c.in-Some.ensures.all in
    put_failed c.args.pieces c.args.out.now c.add.new.self c.add.new.sink c.from_residual.result c.from_residual.ensures.0
    (part_failed c.pieces.out c.deref.result.now left first c.pieces.invariant c.in_err-add.ensures)
