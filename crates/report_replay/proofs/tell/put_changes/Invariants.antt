-- The lines so far, and then those of the changes that are left, are all.
use Rattle.std.proofs.Common.{◌≡◌, ◌++◌, drop}
use Rattle.stream_base.specs.Model.Text.{change_lines}
use Rattle.report_lines.specs.Forms.{form_of}
use Rattle.report_replay.proofs.tell.put_changes.Given as goal

abbrev pub invariant-loop-at : goal.invariant-loop-at
invariant-loop-at l =
    l.out.items ++ change_lines (form_of l.form) (drop l.at l.changes) ≡ l.fn.out.items ++ change_lines (form_of l.form) l.changes
