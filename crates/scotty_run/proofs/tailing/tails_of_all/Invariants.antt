-- The tails of the first shards are those that were told.
use Rattle.std.proofs.Common.{◌≡◌, map, take, length}
use Rattle.tail_text.specs.Texts.{in_vectors, tail_changes_in}
use Rattle.scotty_run.proofs.tailing.tails_of_all.Given as goal

abbrev pub invariant-loop-shard : goal.invariant-loop-shard
invariant-loop-shard g l =
    in_vectors l.tails.items ≡ map (λ s. tail_changes_in l.command.tail l.command.lateness (length l.command.sources) s.journal) (take l.shard-index l.shards)
