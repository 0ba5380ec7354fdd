-- A run of all shards by runs of one shard each, from the bytes of the sources to the joined text.
use Rattle.std.specs.Prelude.{◌≡◌, ◌<◌, ◌+◌, ℕ, List, [], ◌∷◌, length, map, None, slice_index_or}
use Rattle.stream_base.specs.declared.entry.Entry.{Entry}
use Rattle.stream_base.specs.Limits.{Definitions}
use Rattle.stream_base.specs.Model.Routes.{IsLawful}
use Rattle.stream_base.specs.Model.Text.{Form, report_of}
use Rattle.source_feed.specs.Events.{stream_of}
use Rattle.part_laws.specs.Joined.{part_definitions}
use Rattle.part_laws.specs.Parts.{part_text}

-- the entries of sources with these bytes, numbered from this number on
abbrev pub entries_from_bytes : Definitions → ℕ → List (List ℕ) → List (List Entry)
entries_from_bytes d source [] = []
entries_from_bytes d source (bytes ∷ later) =
    (stream_of source d.every d.disorder bytes).entries ∷ entries_from_bytes d (source + 1) later

-- the entries of the sources of a run
abbrev pub entries_of_all : Definitions → List (List ℕ) → List (List Entry)
entries_of_all d files = entries_from_bytes d 0 files

-- none of these sources is refused
abbrev pub AreAcceptedFrom : Definitions → ℕ → List (List ℕ) → Type 0
AreAcceptedFrom d source [] = Unit {0}
AreAcceptedFrom d source (bytes ∷ later) =
    ((stream_of source d.every d.disorder bytes).refusal ≡ None) × AreAcceptedFrom d (source + 1) later

-- the parts of all sources for a shard, written out
abbrev pub part_files : Definitions → ℕ → ℕ → List (List ℕ) → List (List ℕ)
part_files d shards k files = map (part_text shards k) (entries_of_all d files)

-- each journal is lawful for what is read, under the definitions of parts, of the parts for its number
pub record AreRunsOverParts (d : Definitions) (shards : ℕ) (files : List (List ℕ)) (journals : List (List Entry)) : Type 0 where
  pub count : length journals ≡ shards
  pub each : (k : ℕ) → k < shards → IsLawful 1 (entries_of_all (part_definitions d) (part_files d shards k files)) (slice_index_or journals k [] ∷ [])

-- the reports of runs over parts, each of one shard
abbrev pub reports_over_parts : Form → Definitions → ℕ → List (List Entry) → List (List ℕ)
reports_over_parts form d sources journals = map (λ journal. report_of form (part_definitions d) sources (journal ∷ [])) journals
