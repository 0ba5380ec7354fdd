-- The text so far, and then the lines that are left, is the text with all of them.
use Rattle.std.proofs.Common.{◌≡◌, ◌++◌, drop}
use Rattle.stream_base.specs.Model.Text.{change_lines}
use Rattle.report_lines.specs.Forms.{form_of}
use Rattle.report_lines.proofs.change_line.put_changes.Given as goal

abbrev pub invariant-loop-change : goal.invariant-loop-change
invariant-loop-change l =
    l.out.items ++ change_lines (form_of l.form) (drop l.change-index l.changes)
    ≡ l.fn.out.items ++ change_lines (form_of l.form) l.changes
