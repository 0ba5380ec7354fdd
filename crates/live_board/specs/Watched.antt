-- What is watched: all entries in turn, and what each reader has read of it.
use Rattle.std.specs.Prelude.{◌≡◌, ◌≤◌, ◌<◌, ◌+◌, ◌↔◌, ℕ, true, List, [], length, map, sum, All, slice_get, slice_index_or, Some}
use Rattle.std.specs.List.Sorted.{IsNonDecreasingBy}
use Rattle.stream_base.specs.Limits.{Definitions}
use Rattle.stream_base.specs.declared.entry.Entry.{Entry}
use Rattle.stream_base.specs.Model.Journals.{is_entry_within}
use Rattle.stream_base.specs.Model.What.{is_end}
use Rattle.shard_core.specs.Shard.{Sharded}
use Rattle.live_board.specs.Tallies.{IsTallyOf, turns}
use Rattle.live_board.specs.declared.tally.Tally.{Tally}

-- the entries of the source of this number, each within its limits; the last of them is its end, and no other
pub record AreEntriesOf (source : ℕ) (entries : List Entry) : Type 0 where
  pub some : 1 ≤ length entries
  pub own : All (λ e. e.source ≡ source) entries
  pub within : All (λ e. is_entry_within e ≡ true) entries
  pub ends : (n : ℕ) (e : Entry) → slice_get entries n ≡ Some e → (is_end e.what ≡ true) ↔ (n + 1 ≡ length entries)

-- 1 to 8 readers may read up to 1,000 times each, of 1 to 16 sources
pub record MayWatch (readers reads : ℕ) (sources : List (List Entry)) : Type 0 where
  pub some_readers : 1 ≤ readers
  pub few_readers : readers ≤ 8
  pub few_reads : reads ≤ 1000
  pub some_sources : 1 ≤ length sources
  pub few_sources : length sources ≤ 16
  pub entries : (i : ℕ) → i < length sources → AreEntriesOf i (slice_index_or sources i [])

-- how many entries all sources have
abbrev pub entries_in : List (List Entry) → ℕ
entries_in sources = sum (map length sources)

-- the reads are tallies of this journal, so many and one, of which none counts fewer entries than the one before it, and the last counts all
pub record AreReadsOf (d : Definitions) (sources : ℕ) (journal : List Entry) (reads : ℕ) (list : List Tally) : Type 0 where
  pub many : length list ≡ reads + 1
  pub each : All (λ t. IsTallyOf d sources journal t) list
  pub rise : IsNonDecreasingBy (λ t. t.entries) list
  pub last : (t : Tally) → slice_get list reads ≡ Some t → t.entries ≡ length journal

-- the shard has all entries in turn, and each reader has its reads
pub record IsWatched (d : Definitions) (sources : List (List Entry)) (readers reads : ℕ) (shard : Sharded) (lists : List (List Tally)) : Type 0 where
  pub defs : shard.defs ≡ d
  pub sources_are : shard.sources ≡ length sources
  pub journal : shard.journal ≡ turns sources
  pub one_each : length lists ≡ readers
  pub reads_are : All (AreReadsOf d (length sources) (turns sources) reads) lists
