-- A line that is written from its end, the fronts of a row's line, and the header of a shard.
use Rattle.std.specs.Prelude.{◌≡◌, ◌≤◌, ◌+◌, ◌++◌, ◌∷◌, [], ℕ, List, codes, decimal}
use Rattle.stream_base.specs.declared.row.Row.{Row}
use Rattle.stream_base.specs.declared.shown.Shown.{Shown}
use Rattle.stream_base.specs.Model.Text.{end_text, line_of, shown_text}

-- the bytes that stand in it, and for how many there is room in front of them
pub record Lined : Type 0 where
  pub text : List ℕ
  pub room : ℕ

-- some bytes came in front of the others, no more than so many
pub record Grows (bytes : List ℕ) (most : ℕ) (old new : Lined) : Type 0 where
  pub text : new.text ≡ bytes ++ old.text
  pub room : old.room ≤ new.room + most

-- a number and a value as shown, each with a space behind it
abbrev pub result_text : ℕ → Shown → List ℕ
result_text number shown = decimal number ++ (32 ∷ (shown_text shown ++ (32 ∷ [])))

-- a sign, and the window, the start and the end of a row, each with a space behind it
abbrev pub span_front : ℕ → Row → List ℕ
span_front sign row = sign ∷ 32 ∷ (decimal row.window ++ (32 ∷ (decimal row.low ++ (32 ∷ (end_text row.high ++ (32 ∷ []))))))

-- and its number and value
abbrev pub row_front : ℕ → Row → List ℕ
row_front sign row = span_front sign row ++ result_text row.number row.shown

-- the header of the shard with this number
abbrev pub header_line : ℕ → List ℕ
header_line k = line_of (codes "shard" ∷ decimal k ∷ [])
