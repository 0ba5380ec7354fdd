use Rattle.std.proofs.Common.{subst}
use Rattle.std.specs.List.Sorted.{IsPermutation}
use Rattle.stream_base.specs.Model.Final.{final_rows}
use Rattle.source_feed.specs.Generated.{made_definitions, made_sources}
use Rattle.final_rows.specs.AtEnd.{rows_of_shards}
use Rattle.final_rows.proofs.AllShards.{rows_of_all_shards}
use Rattle.final_rows.proofs.GeneratedSources.{count_sources, made_keep_all, made_untied}
use Rattle.final_rows.proofs.generated.generated_sources_have_one_result.Goals as goal

pub returns-clause-untied : goal.returns-clause-untied
returns-clause-untied c = made_untied

pub returns-clause-kept : goal.returns-clause-kept
returns-clause-kept c = made_keep_all

pub returns-clause-one_result : goal.returns-clause-one_result
returns-clause-one_result c = λ seed rows sources shards journals few some lawful.
    subst (λ n. IsPermutation (rows_of_shards made_definitions n journals) (final_rows made_definitions (made_sources seed rows sources))) (count_sources seed rows sources)
    (rows_of_all_shards made_definitions shards (made_sources seed rows sources) journals some (made_untied seed rows sources few) (made_keep_all seed rows sources shards journals few lawful))

pub returns-clause-count : goal.returns-clause-count
returns-clause-count c = count_sources
