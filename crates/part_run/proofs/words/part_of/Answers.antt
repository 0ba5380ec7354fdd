-- A shard that isn't written below the shards makes the words no part.
use Rattle.std.proofs.Common.{◌≡◌, ◌∷◌, map, drop, string_bytes}
use Rattle.command_words.proofs.WordFacts.{four_up}
use Rattle.part_run.specs.Words.{IsPart}
use Rattle.part_run.proofs.WordFacts.{if_none, no_shard}
use Rattle.part_run.proofs.words.part_of.Goals as goal

pub returns-in_err-shard-in-len4-up-clause-none : goal.returns-in_err-shard-in-len4-up-clause-none
returns-in_err-shard-in-len4-up-clause-none c =
    let words = c.args.words.now in
    let shards = c.in_ok-shards-in-len4-up in
    let third = c.as_str.ensures.value in
    let fourth = c.as_str-in-len4-up.ensures.value in
    let four = four_up string_bytes words c.part-item.result c.defs-item.result c.shards-item.result c.shard-item.result c.in-len4-up.len_at_least c.part-item.is c.defs-item.is c.shards-item.is c.shard-item.is in
    let told : map string_bytes words ≡ string_bytes c.part-item.result ∷ string_bytes c.defs-item.result ∷ c.as_str.result.now ∷ c.as_str-in-len4-up.result.now ∷ map string_bytes (drop 4 words) = cc in
    if_none (IsPart (map string_bytes words) → ⊥) c.from_residual-in_err-shard-in-len4-up.result
    (no_shard (map string_bytes words) (string_bytes c.part-item.result) (string_bytes c.defs-item.result) c.as_str.result.now c.as_str-in-len4-up.result.now (map string_bytes (drop 4 words)) shards.shards (shards.ensures.within.1)
    told shards.ensures.spelled c.in_err-shard-in-len4-up.ensures.none)
