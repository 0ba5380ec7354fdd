-- The line of one change more.
use Rattle.std.proofs.Common.{◌∙◌, ◌+◌, ◌<◌, ◌++◌, drop, length, ap, arith}
use Rattle.std.specs.List.{flat_map}
use Rattle.report_lines.specs.Forms.{form_of}
use Rattle.report_replay.proofs.Lines.{one_more}
use Rattle.report_replay.proofs.tell.put_changes.Goals as goal

pub loop-at-preserved : goal.loop-at-preserved
loop-at-preserved c =
    let f = (form_of c.args.form).line in
    let changes = c.args.changes.now in
    let at = c.loop-at.at in
    let within : at < length changes = omega arith in
    ap (λ text. text ++ flat_map f (drop (at + 1) changes)) c.in_ok-put_change.ensures
    ∙ one_more f changes at c.get.result c.loop-at.out.items (c.args.out.now.items ++ flat_map f changes) within c.get.ensures c.loop-at.invariant
