use Rattle.final_rows.proofs.AllShards.{one_and_the_same, rows_of_all_shards}
use Rattle.final_rows.proofs.EachShard.{rows_of_a_shard}
use Rattle.final_rows.proofs.InOrder.{final_rows_in_order}
use Rattle.final_rows.proofs.at_end.rows_at_the_end_are_the_final_rows.Goals as goal

pub returns-clause-of_a_shard : goal.returns-clause-of_a_shard
returns-clause-of_a_shard c = λ d shards k sources journals. rows_of_a_shard d shards sources journals k

pub returns-clause-of_all_shards : goal.returns-clause-of_all_shards
returns-clause-of_all_shards c = rows_of_all_shards

pub returns-clause-in_every_schedule : goal.returns-clause-in_every_schedule
returns-clause-in_every_schedule c = one_and_the_same

pub returns-clause-in_order : goal.returns-clause-in_order
returns-clause-in_order c = final_rows_in_order
