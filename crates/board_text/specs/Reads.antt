-- The text of what the readers of a board have read.
use Rattle.std.specs.Prelude.{◌+◌, ◌++◌, ℕ, List, [], ◌∷◌, codes, decimal, map, take}
use Rattle.std.specs.List.{flat_map}
use Rattle.stream_base.specs.Model.Text.{line_of}
use Rattle.live_board.specs.declared.tally.Tally.{Tally}

-- the line of a read: its reader, of how many entries it is, and how many rows of each of the first windows stand then
abbrev pub read_line : ℕ → ℕ → Tally → List ℕ
read_line windows reader t =
    line_of (codes "b" ∷ decimal reader ∷ decimal t.entries ∷ map (λ n. decimal n) (take windows t.counts))

-- the lines of a reader's reads, in their order
abbrev pub reader_lines : ℕ → ℕ → List Tally → List ℕ
reader_lines windows reader reads = flat_map (read_line windows reader) reads

-- the lines of the reads of readers from number `reader` on
abbrev pub readers_lines : ℕ → ℕ → List (List Tally) → List ℕ
readers_lines windows reader [] = []
readers_lines windows reader (reads ∷ more) = reader_lines windows reader reads ++ readers_lines windows (reader + 1) more

-- the lines of all readers' reads, and the last line
unfoldable pub reads_text : ℕ → List (List Tally) → List ℕ
reads_text windows reads = readers_lines windows 0 reads ++ codes "end\n"
