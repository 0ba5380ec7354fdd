-- The rows that stand in all shards have the final rows, each once.
use Rattle.std.proofs.Common.{◌≡◌, ◌∙◌, ℕ, ◌+◌, ◌≤◌, List, [], length, ap, sym, subst, arith}
use Rattle.std.specs.List.{flat_map, range_with_len}
use Rattle.std.specs.List.Sorted.{IsPermutation}
use Rattle.std.proofs.lemmas.List.Sorted.{IsPermutation-sym, IsPermutation-trans}
use Rattle.std.proofs.lemmas.Nat.{mod_below}
use Rattle.stream_base.specs.declared.entry.Entry.{Entry}
use Rattle.stream_base.specs.declared.row.Row.{Row}
use Rattle.stream_base.specs.Limits.{Definitions}
use Rattle.stream_base.specs.Model.Changes.{standing_rows}
use Rattle.stream_base.specs.Model.Final.{final_rows}
use Rattle.stream_base.specs.Model.Routes.{number_of, shard_of}
use Rattle.final_rows.specs.AtEnd.{AreUntied, KeepAll, rows_of_shard, rows_of_shards}
use Rattle.final_rows.proofs.EachShard.{rows_of_a_shard}
use Rattle.final_rows.proofs.Parts.{by_index, parts_together}

pub rows_of_all_shards : (d : Definitions) (shards : ℕ) (sources journals : List (List Entry)) → 1 ≤ shards → AreUntied sources → KeepAll d.lateness shards sources journals
    → IsPermutation (rows_of_shards d (length sources) journals) (final_rows d sources)
rows_of_all_shards d shards sources journals some u keep =
    subst (λ l. IsPermutation l (final_rows d sources)) (sym parts) (parts_together (λ (row : Row). shard_of row.key shards) shards (final_rows d sources) (λ row. mod_below (number_of row.key) shards (omega arith)))
  where
    count : length journals ≡ shards
    count = (keep.lawful).count

    parts : rows_of_shards d (length sources) journals ≡ flat_map (λ k. rows_of_shard shards k (final_rows d sources)) (range_with_len 0 shards)
    parts =
        by_index (standing_rows d (length sources)) (λ k. rows_of_shard shards k (final_rows d sources)) journals 0 [] (λ k l. rows_of_a_shard d shards sources journals k u keep (omega (arith, count)) ∙ (let same : k ≡ 0 + k = omega arith in ap (λ k. rows_of_shard shards k (final_rows d sources)) same))
        ∙ ap (λ n. flat_map (λ k. rows_of_shard shards k (final_rows d sources)) (range_with_len 0 n)) count

pub one_and_the_same : (d : Definitions) (shards more : ℕ) (sources journals others : List (List Entry)) → 1 ≤ shards → 1 ≤ more → AreUntied sources → KeepAll d.lateness shards sources journals → KeepAll d.lateness more sources others
    → IsPermutation (rows_of_shards d (length sources) journals) (rows_of_shards d (length sources) others)
one_and_the_same d shards more sources journals others some any u keep other =
    IsPermutation-trans (rows_of_shards d (length sources) journals) (final_rows d sources) (rows_of_shards d (length sources) others)
    (rows_of_all_shards d shards sources journals some u keep)
    (IsPermutation-sym (rows_of_shards d (length sources) others) (final_rows d sources) (rows_of_all_shards d more sources others any u other))
