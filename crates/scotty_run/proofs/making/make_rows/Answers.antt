-- Rows of lawful journals of the generated sources, in order, are their final rows.
use Rattle.std.proofs.Common.{◌∙◌, List, length, map, drop, ap, sym, subst}
use Rattle.std.proofs.lemmas.List.{take_at}
use Rattle.std.proofs.lemmas.List.Sorted.{length_permutation}
use Rattle.shard_core.specs.Shard.{Sharded}
use Rattle.source_feed.specs.Generated.{made_definitions}
use Rattle.final_rows.specs.AtEnd.{rows_of_shards}
use Rattle.scotty_run.specs.Making.{AreOfDefinitions}
use Rattle.scotty_run.proofs.making.make_rows.Goals as goal

pub returns : goal.returns
returns g c =
    let m = c.args.made.now in
    let sorted = c.sort_rows.new.rows in
    let rows = c.in_ok-rows.rows in
    let shards = c.in_ok-shards.shards.items in
    let made = c.in_ok-shards.ensures in
    let alike = subst (AreOfDefinitions m.sources) (sym c.deref.ensures.value) made.alike in
    let stand = c.in_ok-rows.ensures m.sources alike in
    let journals = map (λ (s : Sharded). s.journal) shards in
    let given = c.as_mut_slice.ensures.value ∙ stand ∙ ap (λ (l : List Sharded). rows_of_shards made_definitions m.sources (map (λ (s : Sharded). s.journal) l)) c.deref.ensures.value in
    let ordered = c.sort_rows.ensures.generated m.seed m.rows m.sources m.shards journals (made.limits).few_rows ((made.limits).few).some_shards made.lawful given in
    let size = length_permutation c.as_mut_slice.result.now sorted c.sort_rows.ensures.moved ∙ c.as_mut_slice.ensures.len in
    take_at sorted (drop (length sorted) rows.items) rows.len size ∙ ordered
