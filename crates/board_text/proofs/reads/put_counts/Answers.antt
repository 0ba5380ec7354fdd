-- The counts, and then the end of the line.
use Rattle.std.proofs.Common.{[], ◌∷◌, ◌++◌}
use Rattle.emission_text.proofs.Sent.{both_put, first_failed, put_failed}
use Rattle.board_text.specs.Lines.{counts_text}
use Rattle.board_text.proofs.reads.put_counts.Goals as goal

pub returns-in_err-put_each : goal.returns-in_err-put_each
returns-in_err-put_each g c =
    let counts = counts_text c.args.counts.now in
    put_failed (counts ++ 10 ∷ []) c.args.out.now c.put_each.new.out c.put_each.new.sink c.from_residual.result c.from_residual.ensures.0
    (first_failed c.args.out.now counts (10 ∷ []) c.in_err-put_each.ensures)

pub returns : goal.returns
returns g c =
    both_put c.args.out.now (counts_text c.args.counts.now) (10 ∷ []) c.put_pieces.new.out c.put_pieces.new.sink c.put_pieces.result c.in_ok-put_each.ensures c.put_pieces.ensures
