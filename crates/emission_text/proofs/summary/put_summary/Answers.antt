-- The first line, and then the others.
use Rattle.std.proofs.Common.{[], ◌∷◌, codes}
use Rattle.std.specs.Prelude.{decimal}
use Rattle.stream_base.specs.Model.Final.{summary_of}
use Rattle.stream_base.specs.Model.Text.{line_of}
use Rattle.emission_text.specs.Summary.{lines_behind}
use Rattle.emission_text.proofs.Sent.{both_put, first_failed, put_failed}
use Rattle.emission_text.proofs.summary.put_summary.Goals as goal

pub returns-in_err-put_numbered : goal.returns-in_err-put_numbered
unfolding summary_of
returns-in_err-put_numbered g c =
    put_failed (summary_of c.args.tuples c.args.windows c.args.rows.now) c.args.out.now c.put_numbered.new.out c.put_numbered.new.sink c.from_residual.result c.from_residual.ensures.0
    (first_failed c.args.out.now (line_of (codes "made" ∷ decimal c.args.tuples ∷ [])) (lines_behind c.args.windows c.args.rows.now) c.in_err-put_numbered.ensures)

pub returns : goal.returns
unfolding summary_of
returns g c =
    both_put c.args.out.now (line_of (codes "made" ∷ decimal c.args.tuples ∷ [])) (lines_behind c.args.windows c.args.rows.now)
    c.put_behind.new.out c.put_behind.new.sink c.put_behind.result c.in_ok-put_numbered.ensures c.put_behind.ensures
