-- The lines of rows for other tools.
use Rattle.std.specs.Prelude.{◌+◌, ◌==◌, ◌||◌, ◌++◌, ℕ, Bool, List, [], ◌∷◌, codes, decimal, filter, length, if◌then◌else◌}
use Rattle.std.specs.Fmt.{signed_decimal}
use Rattle.std.specs.List.{flat_map}
use Rattle.std.specs.Str.{bytes_eq}
use Rattle.csv.specs.Writing.{default_writer, field_text, needs_quotes}
use Rattle.stream_base.specs.declared.limits.TheConstants.{FINAL}
use Rattle.stream_base.specs.declared.row.Row.{Row}
use Rattle.stream_base.specs.declared.shown.Shown.{Shown}
use Rattle.stream_base.specs.declared.shown.Shown.TheVariants.{Whole, Ratio}
use Rattle.stream_base.specs.Model.Text.{end_text}
use Rattle.row_laws.specs.Told.{ToldShard}
use Rattle.report_rows.specs.Closed.{is_closed}
use Rattle.row_text.specs.declared.format.Format.{Format}
use Rattle.row_text.specs.declared.format.Format.TheVariants.{Csv, Json}

-- pieces of text, one behind the other
abbrev pub joined : List (List ℕ) → List ℕ
joined pieces = flat_map (λ piece. piece) pieces

-- whether all sources of the row's shard have ended
abbrev pub state_text : Bool → List ℕ
state_text closed = if closed then codes "closed" else codes "open"

-- ---- comma-separated values
-- a whole value stands in one field, and a mean's sum and count in two others
abbrev pub csv_value : Shown → List ℕ
csv_value (Whole number) = joined (signed_decimal number ∷ codes ",," ∷ [])
csv_value (Ratio sum count) = joined (codes "," ∷ signed_decimal sum ∷ codes "," ∷ decimal count ∷ [])

-- a byte between quotes: a quote stands there twice
abbrev pub csv_byte : ℕ → List ℕ
csv_byte byte = if byte == 34 then 34 ∷ byte ∷ [] else byte ∷ []

abbrev pub csv_quoted : List ℕ → List ℕ
csv_quoted text = 34 ∷ (flat_map csv_byte text ++ 34 ∷ [])

-- a field as csv's default writer writes it, in one's own words
abbrev pub csv_field : List ℕ → List ℕ
csv_field text = if needs_quotes default_writer text then csv_quoted text else text

abbrev pub csv_front : ℕ → Row → List ℕ
csv_front shard row =
    joined (decimal shard ∷ codes "," ∷ decimal row.window ∷ codes "," ∷ decimal row.low ∷ codes "," ∷ end_text row.high ∷ codes "," ∷ decimal row.number ∷ codes "," ∷ [])

abbrev pub csv_end : Bool → List ℕ
csv_end closed = joined (codes "," ∷ state_text closed ∷ codes "\n" ∷ [])

-- the other fields are numbers and words, which call for no quotes; a key is written as csv writes a field
abbrev pub csv_line : ℕ → Bool → Row → List ℕ
csv_line shard closed row = csv_front shard row ++ (csv_value row.shown ++ (codes "," ++ (field_text default_writer row.key ++ csv_end closed)))

abbrev pub csv_header : List ℕ
csv_header = codes "shard,window,start,end,number,value,sum,count,key,state\n"

-- ---- JSON
-- a byte of a string: a quote and a backslash have a backslash in front
abbrev pub json_byte : ℕ → List ℕ
json_byte byte = if (byte == 34) || (byte == 92) then 92 ∷ byte ∷ [] else byte ∷ []

abbrev pub json_string : List ℕ → List ℕ
json_string text = 34 ∷ (flat_map json_byte text ++ 34 ∷ [])

-- no end is told by null
abbrev pub json_end : ℕ → List ℕ
json_end high = if high == FINAL then codes "null" else decimal high

abbrev pub json_value : Shown → List ℕ
json_value (Whole number) = joined (codes "\"value\":" ∷ signed_decimal number ∷ [])
json_value (Ratio sum count) = joined (codes "\"sum\":" ∷ signed_decimal sum ∷ codes ",\"count\":" ∷ decimal count ∷ [])

abbrev pub json_front : ℕ → Row → List ℕ
json_front shard row =
    joined (codes "{\"shard\":" ∷ decimal shard ∷ codes ",\"window\":" ∷ decimal row.window ∷ codes ",\"start\":" ∷ decimal row.low ∷ codes ",\"end\":" ∷ json_end row.high ∷ codes ",\"number\":" ∷ decimal row.number ∷ codes "," ∷ [])

abbrev pub json_state : Bool → List ℕ
json_state closed = joined (codes ",\"state\":\"" ∷ state_text closed ∷ codes "\"}\n" ∷ [])

abbrev pub json_line : ℕ → Bool → Row → List ℕ
json_line shard closed row = json_front shard row ++ (json_value row.shown ++ (codes ",\"key\":" ++ (json_string row.key ++ json_state closed)))

-- ---- all rows
abbrev pub row_line : Format → ℕ → Bool → Row → List ℕ
row_line Csv shard closed row = csv_line shard closed row
row_line Json shard closed row = json_line shard closed row

abbrev pub header_of : Format → List ℕ
header_of Csv = csv_header
header_of Json = []

-- the row is of this key; the empty text, which is no key, asks for all
abbrev pub is_asked : List ℕ → Row → Bool
is_asked key row = (length key == 0) || bytes_eq row.key key

abbrev pub shard_lines : Format → List ℕ → ℕ → ToldShard → List ℕ
shard_lines format key number shard = flat_map (row_line format number (is_closed shard.journal)) (filter (is_asked key) shard.rows)

-- the lines of shards from this number on
abbrev pub lines_from : Format → List ℕ → ℕ → List ToldShard → List ℕ
lines_from format key number [] = []
lines_from format key number (shard ∷ shards) = shard_lines format key number shard ++ lines_from format key (number + 1) shards

-- all lines
abbrev pub rows_text : Format → List ℕ → List ToldShard → List ℕ
rows_text format key shards = header_of format ++ lines_from format key 0 shards
