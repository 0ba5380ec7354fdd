-- Words are those of one command at most.
use Rattle.std.proofs.Common.{◌≡◌, ◌∙◌, ◌-◌, ◌≤◌, ◌^◌, ◌<◌, ℕ, List, [], ◌∷◌, All, get_or, length, map, drop, ap, sym, subst, arith, codes}
use Rattle.std.specs.Prelude.{◌⊎◌, IfNone, decimal, None, Some}
use Rattle.std.specs.declared.option.Option.{Option}
use Rattle.command_words.specs.Words.{IsName, IsNumberWithin}
use Rattle.std.proofs.lemmas.Fmt.{decimal_injective}
use Rattle.part_run.specs.Words.{IsDefs, IsDefsOf, IsJoin, IsJoinOf, IsPart, IsPartOf, Part}

pub one_part : (words : List (List ℕ)) (p other : Part) → IsPartOf words p → IsPartOf words other → p ≡ other
one_part words p other first second =
    let one = first.spelled in
    let two = second.spelled in
    let few = first.few_shards in
    let many = second.few_shards in
    let inside = first.one_shard in
    let within = second.one_shard in
    let shards : p.shards ≡ other.shards = decimal_injective p.shards other.shards (omega arith) (omega arith) cc in
    let shard : p.shard ≡ other.shard = decimal_injective p.shard other.shard (omega arith) (omega arith) cc in
    let defs : p.defs ≡ other.defs = cc in
    let sources : p.sources ≡ other.sources = cc in
    λ i. record { defs = defs i; shards = shards i; shard = shard i; sources = sources i }

pub one_defs : (words : List (List ℕ)) (name other : List ℕ) → IsDefsOf words name → IsDefsOf words other → name ≡ other
one_defs words name other first second = let one = first.spelled in let two = second.spelled in cc

pub one_join : (words : List (List ℕ)) (names others : List (List ℕ)) → IsJoinOf words names → IsJoinOf words others → names ≡ others
one_join words names others first second = let one = first.spelled in let two = second.spelled in cc

part_not_defs : codes "part" ≡ codes "defs" → ⊥
part_not_defs h = let first : 112 ≡ 100 = ap (λ (w : List ℕ). get_or w 0 0) h in omega (arith, first)

part_not_join : codes "part" ≡ codes "join" → ⊥
part_not_join h = let first : 112 ≡ 106 = ap (λ (w : List ℕ). get_or w 0 0) h in omega (arith, first)

defs_not_join : codes "defs" ≡ codes "join" → ⊥
defs_not_join h = let first : 100 ≡ 106 = ap (λ (w : List ℕ). get_or w 0 0) h in omega (arith, first)

-- the three commands are told apart by their first words
pub parts_are_not_defs : (words : List (List ℕ)) (p : Part) (name : List ℕ) → IsPartOf words p → IsDefsOf words name → ⊥
parts_are_not_defs words p name first second = let one = first.spelled in let two = second.spelled in part_not_defs cc

pub parts_are_not_joins : (words : List (List ℕ)) (p : Part) (names : List (List ℕ)) → IsPartOf words p → IsJoinOf words names → ⊥
parts_are_not_joins words p names first second = let one = first.spelled in let two = second.spelled in part_not_join cc

pub defs_are_not_joins : (words : List (List ℕ)) (name : List ℕ) (names : List (List ℕ)) → IsDefsOf words name → IsJoinOf words names → ⊥
defs_are_not_joins words name names first second = let one = first.spelled in let two = second.spelled in defs_not_join cc

-- the texts of two items and of those behind them
pub two_up : {X : Type 0} (f : X → List ℕ) (xs : List X) (a b : X) → 2 ≤ length xs → a ≡ get_or xs 0 a → b ≡ get_or xs 1 b → map f xs ≡ f a ∷ f b ∷ map f (drop 2 xs)
two_up f (u ∷ v ∷ xs) a b l p q = cc
two_up f xs a b l p q = absurd (omega arith)

-- words whose fourth is no number below that of the third are no part
pub no_shard : (words : List (List ℕ)) (part defs shards shard : List ℕ) (rest : List (List ℕ)) (n : ℕ) → n ≤ 65535 → words ≡ part ∷ defs ∷ shards ∷ shard ∷ rest → shards ≡ decimal n → (IsNumberWithin 0 (n - 1) shard → ⊥) → IsPart words → ⊥
no_shard words part defs shards shard rest n few is read none (p, of) =
    let spelled = of.spelled in
    let upper = of.few_shards in
    let one = of.one_shard in
    let same : p.shards ≡ n = decimal_injective p.shards n (omega arith) (omega arith) cc in
    let word : shard ≡ decimal p.shard = cc in
    none (record { number = p.shard; at_least = omega arith; at_most = omega (arith, one, same); spelled = word })

-- words that join no reports: the first is another, or the reports aren't as many as the second says, or one has no name
pub no_join : (words : List (List ℕ)) (join shards : List ℕ) (rest : List (List ℕ)) (n : ℕ) → n ≤ 65535 → words ≡ join ∷ shards ∷ rest → shards ≡ decimal n → (join ≡ codes "join" → length rest ≡ n → All IsName rest → ⊥) → IsJoin words → ⊥
no_join words join shards rest n few is read none (names, of) =
    let spelled = of.spelled in
    let upper = of.few_reports in
    let same : length names ≡ n = decimal_injective (length names) n (omega arith) (omega arith) cc in
    let word : join ≡ codes "join" = cc in
    let all : rest ≡ names = cc in
    none word (ap length all ∙ same) (subst (All IsName) (sym all) of.report_names)

-- what holds anyway holds where there is nothing
pub if_none : {A : Type 0} (P : Type 0) (r : Option A) → P → IfNone r P
if_none P None p = p
if_none P (Some x) p = tt
