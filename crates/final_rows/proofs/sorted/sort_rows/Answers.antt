-- The sorted rows are the ordered ones.
use Rattle.std.proofs.Common.{◌≡◌, List, rules, sym, subst}
use Rattle.std.specs.List.Sorted.{IsPermutation}
use Rattle.stream_base.specs.declared.row.Row.{Row}
use Rattle.stream_base.specs.Laws.{by_row}
use Rattle.stream_base.specs.Model.Final.{final_rows}
use Rattle.source_feed.specs.Generated.{made_definitions, made_sources}
use Rattle.final_rows.specs.AtEnd.{rows_of_shards}
use Rattle.final_rows.proofs.AllShards.{rows_of_all_shards}
use Rattle.final_rows.proofs.GeneratedSources.{count_sources, made_keep_all, made_untied}
use Rattle.model_laws.proofs.StandingRows.{by_row_total}
use Rattle.final_rows.proofs.InOrder.{final_rows_in_order}
use Rattle.final_rows.proofs.Sorting.{sorted_by_calls}
use Rattle.final_rows.proofs.sorted.sort_rows.Goals as goal

pub returns-clause-sorted : goal.returns-clause-sorted
returns-clause-sorted c = λ ordered same strict.
    sorted_by_calls by_row by_row_total c.args.rows.now c.sort_unstable_by.new.self ordered c.sort_unstable_by.ensures.permutation c.sort_unstable_by.ensures.sorted (λ a r q k. search rules) same strict

pub returns-clause-at_the_end : goal.returns-clause-at_the_end
returns-clause-at_the_end c = λ d shards sources journals limits some u keep is.
    returns-clause-sorted c (final_rows d sources) (subst (λ (l : List Row). IsPermutation l (final_rows d sources)) (sym is) (rows_of_all_shards d shards sources journals some u keep)) (final_rows_in_order d sources limits u)

pub returns-clause-generated : goal.returns-clause-generated
returns-clause-generated c = λ seed tuples sources shards journals few some lawful is.
    returns-clause-at_the_end c made_definitions shards (made_sources seed tuples sources) journals (search rules) some (made_untied seed tuples sources few) (made_keep_all seed tuples sources shards journals few lawful)
    (subst (λ n. c.args.rows.now ≡ rows_of_shards made_definitions n journals) (sym (count_sources seed tuples sources)) is)
