-- The lines of one entry more, and of its changes.
use Rattle.std.proofs.Common.{◌≡◌, ◌∙◌, ◌+◌, ◌<◌, ◌++◌, length, ap, arith}
use Rattle.stream_base.specs.Model.Changes.{changes_at}
use Rattle.stream_base.specs.Model.Text.{change_lines, entry_line}
use Rattle.report_lines.specs.Forms.{form_of}
use Rattle.report_replay.proofs.Lines.{lines_behind, told_more}
use Rattle.report_replay.proofs.tell.put_shard.Goals as goal

pub loop-position-preserved : goal.loop-position-preserved
loop-position-preserved c =
    let form = form_of c.args.form in
    let s = c.args.shard.now in
    let position = c.loop-position.position in
    let e = c.entry_at.result in
    let within : position < length s.journal = omega arith in
    let lines : c.put_changes.new.out.items ≡ (c.loop-position.out.items ++ entry_line e) ++ change_lines form (changes_at s.defs s.sources s.journal position) =
    c.in_ok-put_changes.ensures ∙ (λ i. c.in_ok-put_entry.ensures i ++ change_lines form (c.changes_at.ensures i)) in
    ap (λ text. text ++ lines_behind form s (position + 1)) lines
    ∙ told_more form s position e c.loop-position.out.items (c.args.out.now.items ++ lines_behind form s 0) within c.entry_at.ensures c.loop-position.invariant
