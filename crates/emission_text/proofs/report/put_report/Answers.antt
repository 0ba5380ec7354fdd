-- The line that tells the form, and then the shards.
use Rattle.emission_text.specs.Report.{report_text, shards_text}
use Rattle.report_lines.specs.Forms.{form_of}
use Rattle.emission_text.proofs.Sent.{both_put, first_failed, put_failed}
use Rattle.emission_text.proofs.report.put_report.Goals as goal

pub returns-in_err-put_front : goal.returns-in_err-put_front
returns-in_err-put_front g c =
    let form = form_of c.args.form in
    put_failed (report_text form c.args.shards.now) c.args.out.now c.put_front.new.out c.put_front.new.sink c.from_residual.result c.from_residual.ensures.0 (first_failed c.args.out.now form.front (shards_text form c.args.shards.now) c.in_err-put_front.ensures)

pub returns : goal.returns
returns g c =
    let form = form_of c.args.form in
    both_put c.args.out.now form.front (shards_text form c.args.shards.now) c.put_all.new.out c.put_all.new.sink c.put_all.result c.in_ok-put_front.ensures c.put_all.ensures
