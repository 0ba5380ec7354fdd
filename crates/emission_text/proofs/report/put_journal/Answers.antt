-- The lines at each position are one part more.
use Rattle.std.proofs.Common.{◌+◌, ◌<◌, length, arith}
use Rattle.emission_text.specs.Report.{lines_at, lines_of}
use Rattle.report_lines.specs.Forms.{form_of}
use Rattle.emission_text.proofs.Reports.{lines_behind, lines_behind-more}
use Rattle.emission_text.proofs.Sent.{part_failed, part_put, put_failed}
use Rattle.emission_text.proofs.report.put_journal.Goals as goal

pub returns-in_err-put_position : goal.returns-in_err-put_position
returns-in_err-put_position g c =
    let form = form_of c.args.form in
    let s = c.args.shard.now in
    let position = c.loop-position.position in
    let within : position < length s.journal = omega arith in
    put_failed (lines_of form s) c.args.out.now c.put_position.new.out c.put_position.new.sink c.from_residual.result c.from_residual.ensures.0
    (part_failed c.loop-position.out (lines_at form s position) (lines_behind form s (position + 1)) (lines_behind-more form s position within) c.loop-position.invariant c.in_err-put_position.ensures)

pub loop-position-preserved : goal.loop-position-preserved
loop-position-preserved g c =
    let form = form_of c.args.form in
    let s = c.args.shard.now in
    let position = c.loop-position.position in
    let within : position < length s.journal = omega arith in
    part_put c.loop-position.out (lines_at form s position) (lines_behind form s (position + 1)) (lines_behind-more form s position within) c.loop-position.invariant c.in_ok-put_position.ensures
