-- The shards, and then the last line.
use Rattle.std.proofs.Common.{codes}
use Rattle.emission_text.specs.Report.{lines_from, shards_text}
use Rattle.report_lines.specs.Forms.{form_of}
use Rattle.emission_text.proofs.Sent.{both_put, first_failed, put_failed}
use Rattle.emission_text.proofs.report.put_all.Goals as goal

pub returns-in_err-put_shards : goal.returns-in_err-put_shards
unfolding shards_text
returns-in_err-put_shards g c =
    put_failed (shards_text (form_of c.args.form) c.args.shards.now) c.args.out.now c.put_shards.new.out c.put_shards.new.sink c.from_residual.result c.from_residual.ensures.0 (first_failed c.args.out.now (lines_from (form_of c.args.form) 0 c.args.shards.now) (codes "end\n") c.in_err-put_shards.ensures)

pub returns : goal.returns
unfolding shards_text
returns g c =
    both_put c.args.out.now (lines_from (form_of c.args.form) 0 c.args.shards.now) (codes "end\n") c.put_pieces.new.out c.put_pieces.new.sink c.put_pieces.result c.in_ok-put_shards.ensures c.put_pieces.ensures
