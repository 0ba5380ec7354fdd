-- Words that aren't `join`, a number, and as many names join no reports.
use Rattle.std.proofs.Common.{◌≡◌, ◌∷◌, ◌∙◌, ◌-◌, All, Global, List, String, ap, drop, length, map, string_bytes, subst, sym, take}
use Rattle.std.proofs.lemmas.List.{length-map}
use Rattle.command_words.specs.Words.{IsName}
use Rattle.command_words.proofs.WordFacts.{take-all_of}
use Rattle.part_run.proofs.WordFacts.{no_join, two_up}
use Rattle.part_run.proofs.words.join_of.Goals as goal
use Rattle.part_run.proofs.words.join_of.Goals.{then-reports-shards, else-reports-shards, else-says-via-then-says+else-whole, else-says-via-else-says}

pub returns-else-says-clause-none : goal.returns-else-says-clause-none
returns-else-says-clause-none c =
    let words = c.args.words.now in
    let shards = c.in_ok-shards-in-len2-up in
    let first = c.as_str-in-len2-up.ensures.value in
    let second = c.as_str.ensures.value in
    let two = two_up string_bytes words c.join-item.result c.shards-item.result c.in-len2-up.len_at_least c.join-item.is c.shards-item.is in
    let same : take (length words - 2) (drop 2 words) ≡ drop 2 words = take-all_of 2 words in
    let told : map string_bytes words ≡ c.as_str-in-len2-up.result.now ∷ c.as_str.result.now ∷ map string_bytes (drop 2 words) = cc in
    no_join (map string_bytes words) c.as_str-in-len2-up.result.now c.as_str.result.now (map string_bytes (drop 2 words)) shards.shards (shards.ensures.within.1) told shards.ensures.spelled
    (λ says len names. elim c.else-says.branch [
      | else-says-via-then-says+else-whole w ↦ elim c.if-reports-shards.branch [
        | then-reports-shards v ↦
            let whole = v.are_names-whole.ensures.1 (subst (λ (xs : List (String Global)). All IsName (map string_bytes xs)) (sym same) names) in
            let is = v.whole-is in
            let not = w.if-whole.false in
            cc
        | else-reports-shards v ↦ v.if-reports-shards.false (ap length same ∙ sym (length-map (drop 2 words) string_bytes) ∙ len)
      ]
      | else-says-via-else-says w ↦
          let yes = c.says.ensures.1 says in
          let not = w.if-says.false in
          cc
    ])
