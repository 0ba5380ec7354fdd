-- The rows of the first shards.
use Rattle.std.proofs.Common.{◌≡◌, ℕ, map, take}
use Rattle.shard_core.specs.Shard.{Sharded}
use Rattle.source_feed.specs.Generated.{made_definitions}
use Rattle.final_rows.specs.AtEnd.{rows_of_shards}
use Rattle.scotty_run.specs.Making.{AreOfDefinitions}
use Rattle.scotty_run.proofs.making.standing_rows.Given as goal

abbrev pub invariant-loop-shard : goal.invariant-loop-shard
invariant-loop-shard g l = record {
  standing : (sources : ℕ) → AreOfDefinitions sources l.shards → l.rows.items ≡ rows_of_shards made_definitions sources (map (λ (s : Sharded). s.journal) (take l.shard-index l.shards));
}
