-- What the one writer keeps.
use Rattle.std.specs.Prelude.{◌≡◌, ◌<◌, ◌∷◌, ◌++◌, ℕ, List, length, slice_index}
use Rattle.stream_base.specs.Limits.{Definitions}
use Rattle.stream_base.specs.declared.entry.Entry.{Entry}
use Rattle.model_laws.specs.Counts.{standing_count}
use Rattle.shard_core.specs.Shard.{IsNext}
use Rattle.live_board.specs.Rule.{sources_of}
use Rattle.live_board.specs.Tallies.{turns}
use Rattle.live_board.specs.Writing.{IsAt, board_of}
use Rattle.live_board.specs.declared.author.Author.{Author}
use Rattle.live_board.specs.declared.course.Course.{Course}
use Rattle.live_board.specs.declared.tally.Tally.{Tally}

-- a tally has the length of a journal, and how many rows of each window stand after it
pub record CountsAll (d : Definitions) (sources : ℕ) (journal : List Entry) (t : Tally) : Type 0 where
  pub entries : t.entries ≡ length journal
  pub many : length t.counts ≡ 32
  pub counts : (window : ℕ) → window < 32 → slice_index t.counts window ≡ standing_count d sources journal window

-- the writer has applied this journal, with which a course begins, to a shard of its definitions and sources, and shows the tally of all of it
pub record IsAuthor (c : Course) (journal : List Entry) (a : Author) : Type 0 where
  pub at : IsAt (board_of c a.tally) a.writer
  pub applied : (a.shard).journal ≡ journal
  pub counted : (a.tally).entries ≡ length journal
  pub defs : (a.shard).defs ≡ (c.defs).now
  pub sources : (a.shard).sources ≡ length (c.sources).now
  pub rest : List Entry
  pub begins : turns (sources_of c) ≡ journal ++ rest

-- an entry comes next in the course
pub record HasNext (c : Course) (a : Author) (e : Entry) : Type 0 where
  pub author : IsAuthor c (a.shard).journal a
  pub next : IsNext (a.shard).sources (a.shard).journal e
  pub behind : List Entry
  pub comes : turns (sources_of c) ≡ (a.shard).journal ++ e ∷ behind

-- memory ran out: the writer still shows some tally of the course
pub record IsStopped (c : Course) (a : Author) : Type 0 where
  pub shown : Tally
  pub at : IsAt (board_of c shown) a.writer
