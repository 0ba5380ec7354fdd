-- The words of the command line.
use Rattle.std.specs.Prelude.{◌≡◌, ◌≤◌, ◌<◌, ◌⊎◌, ℕ, List, [], ◌∷◌, length, All, codes, decimal}
use Rattle.command_words.specs.Words.{IsName}

-- a part: the name of the definitions, how many shards, the number of one, and the name of the source, alone in its list
pub record Part : Type 0 where
  pub defs : List ℕ
  pub shards : ℕ
  pub shard : ℕ
  pub sources : List (List ℕ)

-- how a part is spelled
abbrev pub part_words_of : Part → List (List ℕ)
part_words_of p = codes "part" ∷ p.defs ∷ decimal p.shards ∷ decimal p.shard ∷ p.sources

-- a shard of 1 to 65,535, and one source
pub record IsOneOf (p : Part) : Type 0 where
  pub some_shards : 1 ≤ p.shards
  pub few_shards : p.shards ≤ 65535
  pub one_source : length p.sources ≡ 1

-- the words are those of this part: names are nonempty, there are 1 to 65,535 shards, and the shard is one of them
pub record IsPartOf (words : List (List ℕ)) (p : Part) : Type 0 where
  pub spelled : words ≡ part_words_of p
  pub defs_name : IsName p.defs
  pub some_shards : 1 ≤ p.shards
  pub few_shards : p.shards ≤ 65535
  pub one_shard : p.shard < p.shards
  pub one_source : length p.sources ≡ 1
  pub source_names : All IsName p.sources

-- how the definitions of parts are asked for
abbrev pub defs_words_of : List ℕ → List (List ℕ)
defs_words_of name = codes "defs" ∷ name ∷ []

-- the words ask for the definitions of parts, by the name of a definitions file
pub record IsDefsOf (words : List (List ℕ)) (name : List ℕ) : Type 0 where
  pub spelled : words ≡ defs_words_of name
  pub defs_name : IsName name

-- how reports are joined: their number, and their names
abbrev pub join_words_of : List (List ℕ) → List (List ℕ)
join_words_of reports = codes "join" ∷ decimal (length reports) ∷ reports

-- the words join these reports: there are 1 to 65,535, as many as the words say
pub record IsJoinOf (words : List (List ℕ)) (reports : List (List ℕ)) : Type 0 where
  pub spelled : words ≡ join_words_of reports
  pub some_reports : 1 ≤ length reports
  pub few_reports : length reports ≤ 65535
  pub report_names : All IsName reports

abbrev pub IsPart : List (List ℕ) → Type 0
IsPart words = (p : Part) × IsPartOf words p

abbrev pub IsDefs : List (List ℕ) → Type 0
IsDefs words = (name : List ℕ) × IsDefsOf words name

abbrev pub IsJoin : List (List ℕ) → Type 0
IsJoin words = (reports : List (List ℕ)) × IsJoinOf words reports

-- the words are those of a command
abbrev pub IsCommand : List (List ℕ) → Type 0
IsCommand words = IsPart words ⊎ IsDefs words ⊎ IsJoin words

-- the part of these definitions, shards and source
abbrev pub part_of : List ℕ → ℕ → ℕ → List (List ℕ) → Part
part_of defs shards shard sources = record { defs = defs; shards = shards; shard = shard; sources = sources }
