-- What is found of a report.
use Rattle.std.specs.Prelude.{◌≡◌, ◌≢◌, ◌<◌, ◌≤◌, ◌⊎◌, ℕ, List, [], Vec, All, Option, None, Some, codes, length, map, if◌then◌else◌, slice_index_or}
use Rattle.std.specs.Str.{bytes_eq}
use Rattle.stream_base.specs.declared.entry.Entry.{Entry}
use Rattle.stream_base.specs.Limits.{Definitions}
use Rattle.stream_base.specs.Model.Journals.{journals_of, lines_of}
use Rattle.stream_base.specs.Model.Routes.{IsLawful, entries_from, routed}
use Rattle.stream_base.specs.Model.Text.{Form, report_1, report_2, report_of}
use Rattle.report_check.specs.Apart.{line_apart}
use Rattle.report_check.specs.declared.finding.Finding.{Finding}
use Rattle.report_check.specs.declared.finding.Finding.TheVariants.{Lawful, Text, Shards, Journal}

-- the form that a text is told in: the second, where its first line says so
abbrev pub form_in : List ℕ → Form
form_in text = if bytes_eq (slice_index_or (lines_of text) 0 []) (codes "report 2") then report_2 else report_1

-- the report of the journals that a text holds, in the text's form
unfoldable pub report_in : Definitions → ℕ → List ℕ → List ℕ
report_in d sources text = report_of (form_in text) d sources (journals_of text)

-- what a shard's journal holds of a source are the entries that go there, in the source's order
abbrev pub HoldsRouted : ℕ → List (List Entry) → ℕ → List Entry → ℕ → Type 0
HoldsRouted shards sources shard journal source = entries_from source journal ≡ routed shards shard (slice_index_or sources source [])

-- each entry of a journal is of one of the sources
abbrev pub HoldsNoFurther : List (List Entry) → List Entry → Type 0
HoldsNoFurther sources journal = All (λ e. e.source < length sources) journal

-- a shard's journal holds what goes there of each source, and nothing else
pub record IsRight (shards : ℕ) (sources : List (List Entry)) (shard : ℕ) (journal : List Entry) : Type 0 where
  pub routed : (source : ℕ) → source < length sources → HoldsRouted shards sources shard journal source
  pub no_further : HoldsNoFurther sources journal

-- a shard's journal is wrong in a source, or, at the number of sources, in further ones
abbrev pub IsWrongIn : ℕ → List (List Entry) → ℕ → List Entry → ℕ → Type 0
IsWrongIn shards sources shard journal source =
    ((source < length sources) × ¬ HoldsRouted shards sources shard journal source)
    ⊎ ((source ≡ length sources) × ¬ HoldsNoFurther sources journal)

-- the first source in which a shard's journal is wrong
pub record IsFirstWrongIn (shards : ℕ) (sources : List (List Entry)) (shard : ℕ) (journal : List Entry) (source : ℕ) : Type 0 where
  pub routed_before : (s : ℕ) → s < source → HoldsRouted shards sources shard journal s
  pub wrong : IsWrongIn shards sources shard journal source

-- the first shard that isn't right, and the first source in which its journal is wrong
pub record IsFirstWrong (shards : ℕ) (sources journals : List (List Entry)) (shard source : ℕ) : Type 0 where
  pub known : shard < shards
  pub right_before : (k : ℕ) → k < shard → IsRight shards sources k (slice_index_or journals k [])
  pub first : IsFirstWrongIn shards sources shard (slice_index_or journals shard []) source

-- a shard's journal is right, or it is first wrong in this source
abbrev pub IsJudged : ℕ → List (List Entry) → ℕ → List Entry → Option ℕ → Type 0
IsJudged shards sources shard journal None = IsRight shards sources shard journal
IsJudged shards sources shard journal (Some source) = IsFirstWrongIn shards sources shard journal source

-- the journals of all shards are right, or the first that isn't is wrong in this source
abbrev pub AreJudged : ℕ → List (List Entry) → List (List Entry) → Option (ℕ × ℕ) → Type 0
AreJudged shards sources journals None = (k : ℕ) → k < shards → IsRight shards sources k (slice_index_or journals k [])
AreJudged shards sources journals (Some place) = IsFirstWrong shards sources journals place.0 place.1

-- the finding of a text: the first that holds of these, in this order, by definitions, a number of shards and the entries of the sources
abbrev pub IsFinding : Definitions → ℕ → List (List Entry) → List ℕ → Finding → Type 0
IsFinding d shards sources text (Text line) =
    let told = report_in d (length sources) text in
    (text ≢ told) × (line ≡ line_apart text told)
IsFinding d shards sources text (Shards found) =
    (text ≡ report_in d (length sources) text) × (found ≡ length (journals_of text)) × (found ≢ shards)
IsFinding d shards sources text (Journal shard source) =
    (text ≡ report_in d (length sources) text) × (length (journals_of text) ≡ shards)
    × IsFirstWrong shards sources (journals_of text) shard source
IsFinding d shards sources text Lawful =
    (text ≡ report_in d (length sources) text) × IsLawful shards sources (journals_of text)

-- the lists of vectors
abbrev pub lists_of : {X Z : Type 0} → List (Vec X Z) → List (List X)
lists_of vectors = map (λ v. v.items) vectors

-- no more shards and sources than there may be
pub record AreFew {X : Type 0} (shards : ℕ) (sources : List X) : Type 0 where
  pub few_shards : shards ≤ 16
  pub few_sources : length sources ≤ 16
