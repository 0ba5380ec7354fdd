-- What a report's lines tell of its shards, and the first that may not stand where it does.
use Rattle.std.specs.Prelude.{◌+◌, ◌-◌, ◌&&◌, ℕ, Bool, true, false, List, [], ◌∷◌, ◌++◌, length, Option, None, Some, codes, decimal, if◌then◌else◌}
use Rattle.std.specs.Option.{option_map, option_map_or}
use Rattle.std.specs.Str.{bytes_eq}
use Rattle.stream_base.specs.declared.change.Change.{Change}
use Rattle.stream_base.specs.declared.entry.Entry.{Entry}
use Rattle.stream_base.specs.declared.row.Row.{Row}
use Rattle.stream_base.specs.Model.Journals.{entry_in, lines_of}
use Rattle.report_laws.specs.ReadBack.{is_whole}
use Rattle.model_laws.specs.Rows.{after_change, finds}
use Rattle.row_laws.specs.Reading.{change_in}

-- what is told of a shard: the entries of its journal, and the rows that stand by the changes under them
pub record ToldShard : Type 0 where
  pub journal : List Entry
  pub rows : List Row

abbrev pub new_shard : ToldShard
new_shard = record { journal = []; rows = [] }

-- where a line stands: it is the first, it is within a report that tells in full or doesn't, or it is behind the last
pub data Place : Type 0 where
  first : Place
  inside : Bool → Place
  behind : Place

-- the place of the next line, and what the lines before it tell of each shard
pub record Told : Type 0 where
  pub place : Place
  pub shards : List ToldShard

abbrev pub unread : Told
unread = record { place = first; shards = [] }

-- the header of a shard, without its line feed
abbrev pub header : ℕ → List ℕ
header k = codes "shard" ++ (32 ∷ decimal k)

abbrev pub has_entry : List Entry → Bool
has_entry [] = false
has_entry (e ∷ es) = true

-- a shard with one entry more
abbrev pub with_entry : ToldShard → Entry → ToldShard
with_entry shard e = record shard { journal = shard.journal ++ e ∷ [] }

-- a shard after a change: it may stand there under an entry, and where it finds the rows that it takes for granted
abbrev pub with_change : ToldShard → Change → Option ToldShard
with_change shard change =
    if has_entry shard.journal && finds shard.rows change then Some (record shard { rows = after_change shard.rows change }) else None

-- a shard after the line of an entry or a change, if that may follow
abbrev pub in_shard : Bool → List ℕ → ToldShard → Option ToldShard
in_shard full line shard =
    option_map_or (λ e. Some (with_entry shard e)) (entry_in line) (option_map_or (with_change shard) (change_in full line) None)

-- shards after such a line, which tells of the last
abbrev pub in_last : Bool → List ℕ → List ToldShard → Option (List ToldShard)
in_last full line [] = None
in_last full line (shard ∷ []) = option_map (λ s. s ∷ []) (in_shard full line shard)
in_last full line (shard ∷ next ∷ later) = option_map (λ shards. shard ∷ shards) (in_last full line (next ∷ later))

abbrev pub told_inside : Bool → List ToldShard → Told
told_inside full shards = record { place = inside full; shards = shards }

-- what is told with one line more, if that may follow: the header of the next shard, the last line, or one of the last shard
abbrev pub after_inside : Bool → List ToldShard → List ℕ → Option Told
after_inside full shards line =
    if bytes_eq line (header (length shards)) then Some (told_inside full (shards ++ new_shard ∷ []))
    else if bytes_eq line (codes "end") then Some (record { place = behind; shards = shards })
    else option_map (told_inside full) (in_last full line shards)

-- the first line may say that the report tells in full
abbrev pub after_at : Place → List ToldShard → List ℕ → Option Told
after_at first shards line = if bytes_eq line (codes "report 2") then Some (told_inside true shards) else after_inside false shards line
after_at (inside full) shards line = after_inside full shards line
after_at behind shards line = None

abbrev pub after_line : Told → List ℕ → Option Told
after_line told line = after_at told.place told.shards line

-- what a text tells of each shard, or the number of the line by which it is no report
pub data Reading : Type 0 where
  refused : ℕ → Reading
  tells : List ToldShard → Reading

abbrev pub is_behind : Place → Bool
is_behind first = false
is_behind (inside full) = false
is_behind behind = true

-- at the end of a text that is whole the last line was read, or else the next is lacking; a last line without its line feed is the one at fault
abbrev pub at_end : Bool → ℕ → Told → Reading
at_end whole next told = if whole then (if is_behind told.place then tells told.shards else refused next) else refused (next - 1)

abbrev pub or_refused : ℕ → (Told → Reading) → Option Told → Reading
or_refused number later None = refused number
or_refused number later (Some told) = later told

-- what lines tell behind others, the first of which has this number
unfoldable pub read_lines : Bool → ℕ → List (List ℕ) → Told → Reading
read_lines whole number [] told = at_end whole number told
read_lines whole number (line ∷ lines) told = or_refused number (read_lines whole (number + 1) lines) (after_line told line)

-- the same, of the lines of a text
abbrev pub read_from : ℕ → Told → List ℕ → Reading
read_from number told text = read_lines (is_whole text) number (lines_of text) told

-- what a text tells
unfoldable pub read_text : List ℕ → Reading
read_text text = read_from 1 unread text
