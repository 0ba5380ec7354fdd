-- What a shard is in contracts.
use Rattle.std.specs.Prelude.{◌≡◌, ◌≤◌, ◌<◌, ◌++◌, ℕ, true, false, List, [], ◌∷◌, length, take, All, slice_get, Some}
use Rattle.key_windows.specs.Calls.{slices_at}
use Rattle.stream_base.specs.Limits.{Definitions}
use Rattle.stream_base.specs.declared.limits.TheConstants.{JOURNAL_MAX}
use Rattle.stream_base.specs.declared.change.Change.{Change}
use Rattle.stream_base.specs.declared.entry.Entry.{Entry}
use Rattle.stream_base.specs.declared.kept.Kept.{Kept}
use Rattle.stream_base.specs.Model.Changes.{changes_after, moment_of}
use Rattle.stream_base.specs.Model.Journals.{is_entry_within}
use Rattle.stream_base.specs.Model.Watermark.{has_ended}

-- a shard: its definitions, its number of sources, and its journal
pub record Sharded : Type 0 where
  pub defs : Definitions
  pub sources : ℕ
  pub journal : List Entry

-- the shard with one more entry in its journal
abbrev pub sharded_with : Sharded → Entry → Sharded
sharded_with s e = record { defs = s.defs; sources = s.sources; journal = s.journal ++ e ∷ [] }

-- a shard has from 1 to 16 sources
pub record AreSources (sources : ℕ) : Type 0 where
  pub some : 1 ≤ sources
  pub few : sources ≤ 16

-- an entry is of one of so many sources, and within its limits
pub record IsKnown (sources : ℕ) (e : Entry) : Type 0 where
  pub source : e.source < sources
  pub within : is_entry_within e ≡ true

-- an entry may be the next of a journal: it is known, its source hasn't ended, and the journal isn't full
pub record IsNext (sources : ℕ) (journal : List Entry) (e : Entry) : Type 0 where
  pub known : IsKnown sources e
  pub goes_on : has_ended e.source journal ≡ false
  pub few : length journal < JOURNAL_MAX

-- each entry is within its limits, and of a known source
pub record AreKnown (sources : ℕ) (journal : List Entry) : Type 0 where
  pub known_sources : All (λ e. e.source < sources) journal
  pub within : All (λ e. is_entry_within e ≡ true) journal

-- no entry stands behind the end of its source
abbrev pub HasNothingBehindAnEnd : List Entry → Type 0
HasNothingBehindAnEnd journal = (n : ℕ) (e : Entry) → slice_get journal n ≡ Some e → has_ended e.source (take n journal) ≡ false

-- what the journal of every shard is: at most 4,194,304 entries, each within its limits and of a known source, and none behind the end of its source
pub record IsJournal (sources : ℕ) (journal : List Entry) : Type 0 where
  pub short : length journal ≤ JOURNAL_MAX
  pub known : AreKnown sources journal
  pub open_before : HasNothingBehindAnEnd journal

-- the changes under each of the entries behind `before`
abbrev pub changes_behind : Definitions → ℕ → List Entry → List Entry → List (List Change)
changes_behind d sources before [] = []
changes_behind d sources before (e ∷ es) = changes_after d sources before e ∷ changes_behind d sources (before ++ e ∷ []) es

-- the slices of what isn't settled of a key after a journal
abbrev pub slices_after : Definitions → ℕ → List Entry → List ℕ → List (List Kept)
slices_after d sources journal key = slices_at d (moment_of d sources key journal)
