-- What sources and journals meet, so that the rows which stand at the end don't depend on the order in which entries came.
use Rattle.std.specs.Prelude.{◌≡◌, ◌≤◌, ◌<◌, ◌++◌, ◌==◌, ℕ, true, false, List, [], ◌∷◌, length, filter, slice_index_or, All, AllPairs}
use Rattle.std.specs.List.{flat_map, list_any}
use Rattle.stream_base.specs.Limits.{AreWithinLimits, Definitions}
use Rattle.stream_base.specs.declared.entry.Entry.{Entry}
use Rattle.stream_base.specs.declared.row.Row.{Row}
use Rattle.stream_base.specs.declared.what.What.{What}
use Rattle.stream_base.specs.declared.what.What.TheVariants.{Tuple}
use Rattle.stream_base.specs.Model.Changes.{standing_rows}
use Rattle.stream_base.specs.Model.Final.{all_entries}
use Rattle.stream_base.specs.Model.Routes.{IsLawful, shard_of}
use Rattle.stream_base.specs.Model.Watermark.{water_of}
use Rattle.stream_base.specs.Model.What.{is_end, is_late, is_what_within}
use Rattle.source_feed.specs.Generated.{made_definitions, made_sources}
use Rattle.source_feed.specs.declared.made_feed.TheConstants.{MADE_ROWS_MAX}

-- two events are tuples of one key at one time
abbrev pub AreTied : What → What → Type 0
AreTied (Tuple key time value) (Tuple other at number) = (key ≡ other) × (time ≡ at)
AreTied what other = ⊥

-- no two of the entries are tuples of one key at one time
abbrev pub HasNoTies : List Entry → Type 0
HasNoTies entries = AllPairs (λ a b. ¬ AreTied a.what b.what) entries

-- the sources' entries are within the limits, each source has its end, and no key has two tuples of one time in all sources
pub record AreUntied (sources : List (List Entry)) : Type 0 where
  pub within : All (λ e. is_what_within e.what ≡ true) (all_entries sources)
  pub ended : All (λ entries. list_any (λ e. is_end e.what) entries ≡ true) sources
  pub untied : HasNoTies (all_entries sources)

-- nothing of a journal is dropped: no entry is late behind those before it
abbrev pub NothingIsDropped : ℕ → ℕ → List Entry → Type 0
NothingIsDropped lateness sources journal =
    (before : List Entry) (e : Entry) (after : List Entry) → journal ≡ before ++ e ∷ after → is_late lateness (water_of sources before) e.what ≡ false

-- the journals are lawful, and nothing of them is dropped
pub record KeepAll (lateness shards : ℕ) (sources journals : List (List Entry)) : Type 0 where
  pub lawful : IsLawful shards sources journals
  pub kept : (k : ℕ) → k < shards → NothingIsDropped lateness (length sources) (slice_index_or journals k [])

-- the rows of a shard's keys
abbrev pub rows_of_shard : ℕ → ℕ → List Row → List Row
rows_of_shard shards k rows = filter (λ row. shard_of row.key shards == k) rows

-- the rows that stand after the journals, shard by shard
abbrev pub rows_of_shards : Definitions → ℕ → List (List Entry) → List Row
rows_of_shards d sources journals = flat_map (standing_rows d sources) journals

-- this holds under all definitions within the limits, of all sources of which nothing is dropped and no key has two tuples of one time, and of the rows that stand at the end in all shards, in every schedule
abbrev pub AtEachEnd : (Definitions → List (List Entry) → List Row → Type 0) → Type 0
AtEachEnd holds = (d : Definitions) (shards : ℕ) (sources journals : List (List Entry)) → AreWithinLimits d → 1 ≤ shards → AreUntied sources → KeepAll d.lateness shards sources journals → holds d sources (rows_of_shards d (length sources) journals)

-- this holds of all generated sources, and of the rows that stand at the end in all shards, in every schedule
abbrev pub AtEachGeneratedEnd : (List (List Entry) → List Row → Type 0) → Type 0
AtEachGeneratedEnd holds = (seed tuples sources shards : ℕ) (journals : List (List Entry)) → tuples ≤ MADE_ROWS_MAX → 1 ≤ shards → IsLawful shards (made_sources seed tuples sources) journals → holds (made_sources seed tuples sources) (rows_of_shards made_definitions sources journals)
