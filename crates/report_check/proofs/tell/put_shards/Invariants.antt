-- The lines of the shards so far, with those that are left, are all.
use Rattle.std.proofs.Common.{◌≡◌, ◌++◌, drop}
use Rattle.stream_base.specs.Model.Text.{changes_under, shard_lines}
use Rattle.report_lines.specs.Forms.{form_of}
use Rattle.report_check.proofs.tell.put_shards.Given as goal

abbrev pub invariant-loop-shard : goal.invariant-loop-shard
invariant-loop-shard g l =
    l.out.items ++ shard_lines (changes_under (form_of l.form) l.defs l.sources) l.shard (drop l.shard l.journals)
    ≡ l.fn.out.items ++ shard_lines (changes_under (form_of l.form) l.defs l.sources) 0 l.journals
