-- The lines of the shards so far, with those that are left, are all.
use Rattle.std.proofs.Common.{◌≡◌, ◌++◌, drop}
use Rattle.row_text.specs.Lines.{lines_from}
use Rattle.row_text.proofs.table.put_shards.Given as goal

abbrev pub invariant-loop-shard : goal.invariant-loop-shard
invariant-loop-shard l =
    l.out.items ++ lines_from l.format l.key l.shard (drop l.shard l.shards)
    ≡ l.fn.out.items ++ lines_from l.format l.key 0 l.shards
