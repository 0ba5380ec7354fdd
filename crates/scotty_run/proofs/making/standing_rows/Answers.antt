-- One shard more, and at the end all of them.
use Rattle.std.proofs.Common.{◌∙◌, map, ap}
use Rattle.std.proofs.lemmas.List.{take_all}
use Rattle.shard_core.specs.Shard.{Sharded}
use Rattle.source_feed.specs.Generated.{made_definitions}
use Rattle.final_rows.specs.AtEnd.{rows_of_shards}
use Rattle.scotty_run.proofs.Makings.{standing_more}
use Rattle.scotty_run.proofs.making.standing_rows.Goals as goal

pub loop-shard-preserved : goal.loop-shard-preserved
loop-shard-preserved g c = record {
  standing = λ sources alike.
      c.in_ok-extend_from_slice.ensures.items
      ∙ standing_more sources c.args.shards.now c.loop-shard.shard-index c.shard-item.result c.loop-shard.rows.items c.deref.result.now c.loop-shard-test.true c.shard-item.is alike (c.loop-shard.invariant.standing sources alike) (c.deref.ensures.value ∙ c.in_ok-own.ensures);
}

pub returns : goal.returns
returns g c = λ sources alike.
    c.loop-shard.invariant.standing sources alike
    ∙ ap (λ l. rows_of_shards made_definitions sources (map (λ (s : Sharded). s.journal) l)) (take_all c.loop-shard.shard-index c.args.shards.now c.loop-shard-test.false)
