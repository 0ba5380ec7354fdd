-- The journal of one shard that takes the entries of several sources in turn, and what a board shows of it.
use Rattle.std.specs.Prelude.{◌≡◌, ◌≤◌, ℕ, List, length, map, fold, max, replicate, slice_get, take}
use Rattle.std.specs.List.{filter_map, flat_map, range_with_len}
use Rattle.stream_base.specs.Limits.{Definitions}
use Rattle.stream_base.specs.declared.entry.Entry.{Entry}
use Rattle.model_laws.specs.Counts.{standing_count}
use Rattle.live_board.specs.declared.tally.Tally.{Tally}

-- the entry of this number of each source that has one, in the order of the sources
abbrev pub turn : List (List Entry) → ℕ → List Entry
turn sources n = filter_map (λ entries. slice_get entries n) sources

-- how many turns there are: as many as the longest source has entries
abbrev pub turns_in : List (List Entry) → ℕ
turns_in sources = fold max 0 (map length sources)

-- the entries of all sources, one of each in turn while it has any
unfoldable pub turns : List (List Entry) → List Entry
turns sources = flat_map (turn sources) (range_with_len 0 (turns_in sources))

-- how many rows of each of 32 windows stand; of a window past the last one there are none
abbrev pub standing_counts : Definitions → ℕ → List Entry → List ℕ
standing_counts d sources journal = map (standing_count d sources journal) (range_with_len 0 32)

-- a tally of a journal: that of as many of its first entries as it says
pub record IsTallyOf (d : Definitions) (sources : ℕ) (journal : List Entry) (t : Tally) : Type 0 where
  pub within : t.entries ≤ length journal
  pub counts : t.counts ≡ standing_counts d sources (take t.entries journal)

-- the tally of no entry
abbrev pub none_counted : Tally
none_counted = record { entries = 0; counts = replicate 32 0 }
