-- The parts of a summary.
use Rattle.std.specs.Prelude.{◌≡◌, ◌≤◌, ◌<◌, ◌+◌, ◌*◌, ◌^◌, ◌++◌, ℕ, List, [], ◌∷◌, length, map, sum, codes, decimal, Option, None}
use Rattle.std.specs.List.{flat_map, last_or, range_with_len}
use Rattle.std.specs.Option.{option_map_or}
use Rattle.stream_base.specs.Model.Final.{window_lines}
use Rattle.stream_base.specs.Model.Text.{line_of, row_fields}
use Rattle.stream_base.specs.declared.row.Row.{Row}
use Rattle.emission_text.specs.declared.tally.Tally.{Tally}

-- how many rows there are, the sum of their numbers, and the last
pub record IsTallyOf (own : List Row) (t : Tally) : Type 0 where
  pub rows : t.rows ≡ length own
  pub numbers : t.numbers ≡ sum (map (λ row. row.number) own)
  pub last : t.last ≡ last_or None own

-- one row more can be counted
pub record HasRoom (t : Tally) : Type 0 where
  pub few : t.rows < 2 ^ 63
  pub small : t.numbers ≤ t.rows * 2 ^ 64

-- one row was counted, whose number has 64 bits
pub record Grew (old new : Tally) : Type 0 where
  pub rows : new.rows ≡ old.rows + 1
  pub numbers : new.numbers ≤ old.numbers + 2 ^ 64

-- the line of a window that has so many rows, with this sum of their numbers
abbrev pub tally_line : ℕ → ℕ → ℕ → List ℕ
tally_line window rows numbers = line_of (codes "window" ∷ decimal window ∷ decimal rows ∷ decimal numbers ∷ [])

-- the line of the last row, where there is one
abbrev pub last_line : Option Row → List ℕ
last_line last = option_map_or (λ row. line_of (codes "+" ∷ row_fields row)) last []

-- the lines of all windows
abbrev pub windows_lines : ℕ → List Row → List ℕ
windows_lines windows rows = flat_map (window_lines rows) (range_with_len 0 windows)

-- the same, and the last line
abbrev pub lines_behind : ℕ → List Row → List ℕ
lines_behind windows rows = windows_lines windows rows ++ codes "end\n"
