-- The line of each change is one part more.
use Rattle.std.proofs.Common.{◌<◌, length, sym, arith}
use Rattle.std.proofs.lemmas.Option.{get_or_from_slice_get}
use Rattle.stream_base.specs.Model.Text.{change_lines}
use Rattle.report_lines.specs.Forms.{form_of}
use Rattle.emission_text.proofs.Sent.{item_put, item_failed, put_failed}
use Rattle.emission_text.proofs.change_line.put_changes.Goals as goal

pub returns-in_err-put_change : goal.returns-in_err-put_change
returns-in_err-put_change g c =
    let form = form_of c.args.form in
    let changes = c.args.changes.now in
    let at = c.loop-at.at in
    let within : at < length changes = omega arith in
    put_failed (change_lines form changes) c.args.out.now c.put_change.new.out c.put_change.new.sink c.from_residual.result c.from_residual.ensures.0
    (item_failed form.line changes at c.get.result c.loop-at.out within (sym (get_or_from_slice_get changes at c.get.result c.get.result c.get.ensures)) c.loop-at.invariant c.in_err-put_change.ensures)

pub loop-at-preserved : goal.loop-at-preserved
loop-at-preserved g c =
    let form = form_of c.args.form in
    let changes = c.args.changes.now in
    let at = c.loop-at.at in
    let within : at < length changes = omega arith in
    item_put form.line changes at c.get.result c.loop-at.out within (sym (get_or_from_slice_get changes at c.get.result c.get.result c.get.ensures)) c.loop-at.invariant c.in_ok-put_change.ensures
