-- The journals that are read back from a text.
use Rattle.std.specs.Prelude.{◌≡◌, ◌+◌, ◌-◌, ◌*◌, ◌^◌, ◌==◌, ◌&&◌, ℕ, ℤ, pos, negsuc, Bool, true, not, List, [], ◌∷◌, ◌++◌, drop, fold, length, take_while, All, Option, None, Some, codes, decimal, if◌then◌else◌, nat_lt}
use Rattle.std.specs.Option.{option_map_or}
use Rattle.std.specs.Str.{bytes_eq}
use Rattle.stream_base.specs.declared.entry.Entry.{Entry}
use Rattle.stream_base.specs.declared.what.What.{What}
use Rattle.stream_base.specs.declared.what.What.TheVariants.{Tuple, Mark, Water, Idle, End}
use Rattle.stream_base.specs.Model.Text.{line_of, entry_line}
use Rattle.stream_base.specs.Model.What.{is_what_within}

-- a byte in front of lines: a line feed ends a line, any other byte begins the first of them or joins it
abbrev pub with_byte : ℕ → List (List ℕ) → List (List ℕ)
with_byte byte [] = if byte == 10 then [] ∷ [] else (byte ∷ []) ∷ []
with_byte byte (line ∷ lines) = if byte == 10 then [] ∷ line ∷ lines else (byte ∷ line) ∷ lines

-- the lines of a text, each without its line feed; what stands behind the last line feed is a line too where it isn't empty
abbrev pub lines_of : List ℕ → List (List ℕ)
lines_of [] = []
lines_of (byte ∷ text) = with_byte byte (lines_of text)

-- the bytes up to the first space, and those behind it
abbrev pub word : List ℕ → List ℕ
word text = take_while (λ byte. not (byte == 32)) text

abbrev pub after_word : List ℕ → List ℕ
after_word text = drop (length (word text) + 1) text

-- the number that digits spell, and the same with a sign in front
abbrev pub number_in : List ℕ → ℕ
number_in digits = fold (λ number digit. 10 * number + (digit - 48)) 0 digits

abbrev pub signed_in : List ℕ → ℤ
signed_in [] = pos 0
signed_in (sign ∷ digits) = if sign == 45 then negsuc (number_in digits - 1) else pos (number_in (sign ∷ digits))

-- the entry that a line spells, if it spells one: the kind by its first word, a time, a value, and the key last
abbrev pub guessed_what : List ℕ → List ℕ → What
guessed_what kind text =
    if bytes_eq kind (codes "t") then Tuple (after_word (after_word text)) (number_in (word text)) (signed_in (word (after_word text)))
    else if bytes_eq kind (codes "m") then Mark (after_word text) (number_in (word text))
    else if bytes_eq kind (codes "w") then Water (number_in text)
    else if bytes_eq kind (codes "i") then Idle
    else End

abbrev pub guessed_entry : List ℕ → Entry
guessed_entry line =
    let fields = after_word line in
    record {
      source = number_in (word fields);
      what = guessed_what (word (after_word fields)) (after_word (after_word fields));
    }

-- an entry within its limits: what it says is, and its source is below 2^16
abbrev pub is_entry_within : Entry → Bool
is_entry_within e = nat_lt e.source (2 ^ 16) && is_what_within e.what

-- each entry's source, time, value and key are within their limits
abbrev pub AreEntriesWithin : List Entry → Type 0
AreEntriesWithin entries = All (λ e. is_entry_within e ≡ true) entries

-- the entry whose journal line this is, if it is one
abbrev pub entry_in : List ℕ → Option Entry
entry_in line =
    let e = guessed_entry line in
    if bytes_eq (entry_line e) (line ++ 10 ∷ []) && is_entry_within e then Some e else None

-- whether a line is the header of a shard: `shard`, a space and a number below 2^64
abbrev pub is_header : List ℕ → Bool
is_header line =
    let number = number_in (after_word line) in
    bytes_eq (line_of (codes "shard" ∷ decimal number ∷ [])) (line ++ 10 ∷ []) && nat_lt number (2 ^ 64)

-- journals with one more entry in the last, where there is one
abbrev pub with_entry : List (List Entry) → Entry → List (List Entry)
with_entry [] e = []
with_entry (journal ∷ []) e = (journal ++ e ∷ []) ∷ []
with_entry (journal ∷ next ∷ journals) e = journal ∷ with_entry (next ∷ journals) e

-- journals after one more line: a header begins one, an entry's line adds to the last, and any other line is passed over
abbrev pub after_line : List (List Entry) → List ℕ → List (List Entry)
after_line journals line =
    if is_header line then journals ++ [] ∷ [] else option_map_or (with_entry journals) (entry_in line) journals

-- the journals that a text holds
unfoldable pub journals_of : List ℕ → List (List Entry)
journals_of text = fold after_line [] (lines_of text)
