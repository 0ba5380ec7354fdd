-- Where two texts differ.
use Rattle.std.specs.Prelude.{◌+◌, ◌==◌, ℕ, List, [], ◌∷◌, length, filter, if◌then◌else◌}

-- the bytes in front of the first that differs, or up to the end of the shorter
abbrev pub common_front : List ℕ → List ℕ → List ℕ
common_front [] other = []
common_front (byte ∷ text) [] = []
common_front (byte ∷ text) (next ∷ other) = if byte == next then byte ∷ common_front text other else []

-- the number, from 1, of the line that a place behind these bytes is in: one more than their line feeds
abbrev pub line_behind : List ℕ → ℕ
line_behind bytes = length (filter (λ byte. byte == 10) bytes) + 1

-- the number of the first line in which two different texts differ; a line ends with its line feed, and one that only one of them has differs
abbrev pub line_apart : List ℕ → List ℕ → ℕ
line_apart text other = line_behind (common_front text other)
