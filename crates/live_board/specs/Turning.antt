-- The entries of a course before a turn.
use Rattle.std.specs.Prelude.{◌≡◌, ◌≤◌, ◌<◌, ◌+◌, ℕ, true, List, [], length, slice_get, slice_index_or, Some}
use Rattle.std.specs.List.{flat_map, range_with_len}
use Rattle.stream_base.specs.declared.entry.Entry.{Entry}
use Rattle.stream_base.specs.declared.limits.TheConstants.{JOURNAL_MAX}
use Rattle.stream_base.specs.Model.Journals.{is_entry_within}
use Rattle.stream_base.specs.Model.What.{is_end}
use Rattle.live_board.specs.Tallies.{turn, turns}

-- the entries of the turns before this one
abbrev pub before_turn : List (List Entry) → ℕ → List Entry
before_turn sources n = flat_map (turn sources) (range_with_len 0 n)

-- an entry at a place of a source's list is of that source, within its limits, and the last there where it is an end
pub record IsPlaced (sources : List (List Entry)) (i n : ℕ) (e : Entry) : Type 0 where
  pub own : e.source ≡ i
  pub within : is_entry_within e ≡ true
  pub last : is_end e.what ≡ true → n + 1 ≡ length (slice_index_or sources i [])

-- so are all entries, and they are no more than a journal holds
pub record AreEntriesIn (sources : List (List Entry)) : Type 0 where
  pub placed : (i n : ℕ) (e : Entry) → i < length sources → slice_get (slice_index_or sources i []) n ≡ Some e → IsPlaced sources i n e
  pub few : length (turns sources) ≤ JOURNAL_MAX
