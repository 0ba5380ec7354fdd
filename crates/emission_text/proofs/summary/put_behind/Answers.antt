-- The lines of the windows, and then the last line.
use Rattle.std.proofs.Common.{codes}
use Rattle.emission_text.specs.Summary.{lines_behind, windows_lines}
use Rattle.emission_text.proofs.Sent.{both_put, first_failed, put_failed}
use Rattle.emission_text.proofs.summary.put_behind.Goals as goal

pub returns-in_err-put_windows : goal.returns-in_err-put_windows
returns-in_err-put_windows g c =
    put_failed (lines_behind c.args.windows c.args.rows.now) c.args.out.now c.put_windows.new.out c.put_windows.new.sink c.from_residual.result c.from_residual.ensures.0
    (first_failed c.args.out.now (windows_lines c.args.windows c.args.rows.now) (codes "end\n") c.in_err-put_windows.ensures)

pub returns : goal.returns
returns g c =
    both_put c.args.out.now (windows_lines c.args.windows c.args.rows.now) (codes "end\n")
    c.put_pieces.new.out c.put_pieces.new.sink c.put_pieces.result c.in_ok-put_windows.ensures c.put_pieces.ensures
