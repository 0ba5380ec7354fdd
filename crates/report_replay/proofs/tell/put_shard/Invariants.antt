-- The lines so far, and then those of the entries that are left, are all.
use Rattle.std.proofs.Common.{◌≡◌, ◌++◌}
use Rattle.report_lines.specs.Forms.{form_of}
use Rattle.report_replay.proofs.Lines.{lines_behind}
use Rattle.report_replay.proofs.tell.put_shard.Given as goal

abbrev pub invariant-loop-position : goal.invariant-loop-position
invariant-loop-position l =
    l.out.items ++ lines_behind (form_of l.form) l.shard l.position ≡ l.fn.out.items ++ lines_behind (form_of l.form) l.shard 0
