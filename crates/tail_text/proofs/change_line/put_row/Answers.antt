-- The front of the line, and then its end.
use Rattle.std.proofs.Common.{◌++◌, [], ◌∷◌}
use Rattle.stream_base.specs.Model.Text.{line_of, shown_text}
use Rattle.emission_text.proofs.Sent.{both_put, first_failed, put_failed}
use Rattle.tail_text.proofs.TextFacts.{front, row-line}
use Rattle.tail_text.proofs.change_line.put_row.Goals as goal

pub returns-in_err-put_front : goal.returns-in_err-put_front
returns-in_err-put_front g c =
    rw (← row-line c.args.sign.now c.args.row.now)
    (put_failed (front c.args.sign.now c.args.row.now ++ line_of (shown_text c.args.row.now.shown ∷ c.args.row.now.key ∷ [])) c.args.out.now c.put_front.new.out c.put_front.new.sink c.from_residual.result c.from_residual.ensures.0
    (first_failed c.args.out.now (front c.args.sign.now c.args.row.now) (line_of (shown_text c.args.row.now.shown ∷ c.args.row.now.key ∷ [])) c.in_err-put_front.ensures))

pub returns : goal.returns
returns g c =
    rw (← row-line c.args.sign.now c.args.row.now)
    (both_put c.args.out.now (front c.args.sign.now c.args.row.now) (line_of (shown_text c.args.row.now.shown ∷ c.args.row.now.key ∷ []))
    c.put_shown.new.out c.put_shown.new.sink c.put_shown.result c.in_ok-put_front.ensures c.put_shown.ensures)
