-- The change that a report's line tells.
use Rattle.std.specs.Prelude.{◌+◌, ◌==◌, ◌&&◌, ℕ, zero, suc, pos, Bool, not, List, [], ◌∷◌, ◌++◌, drop, length, take_while, Option, None, Some, codes, if◌then◌else◌, slice_index_or}
use Rattle.std.specs.List.{list_any}
use Rattle.std.specs.Str.{bytes_eq}
use Rattle.stream_base.specs.declared.change.Change.{Change}
use Rattle.stream_base.specs.declared.change.Change.TheVariants.{Gone, New, Again, Dropped}
use Rattle.stream_base.specs.declared.former.Former.{Former}
use Rattle.stream_base.specs.declared.limits.TheConstants.{FINAL}
use Rattle.stream_base.specs.declared.row.Row.{Row}
use Rattle.stream_base.specs.declared.shown.Shown.{Shown}
use Rattle.stream_base.specs.declared.shown.Shown.TheVariants.{Whole, Ratio}
use Rattle.stream_base.specs.Model.Journals.{after_word, number_in, signed_in, word}
use Rattle.stream_base.specs.Model.Text.{Form, report_1, report_2}
use Rattle.row_laws.specs.Fitting.{is_change_fit}

-- the report's form: the second tells in full what stood before
abbrev pub form_of : Bool → Form
form_of full = if full then report_2 else report_1

-- the sum over a count that a text with a slash shows
abbrev pub ratio_in : List ℕ → Shown
ratio_in text =
    let sum = take_while (λ byte. not (byte == 47)) text in
    Ratio (signed_in sum) (number_in (drop (length sum + 1) text))

-- the value that a text shows: such a sum where it has a slash, else a whole number
abbrev pub shown_in : List ℕ → Shown
shown_in text = if list_any (λ byte. byte == 47) text then ratio_in text else Whole (signed_in text)

-- the end that a text shows
abbrev pub end_in : List ℕ → ℕ
end_in text = if bytes_eq text (codes "end") then FINAL else number_in text

-- so many words of a text, and behind them what is left
abbrev pub words : ℕ → List ℕ → List (List ℕ)
words zero text = text ∷ []
words (suc n) text = word text ∷ words n (after_word text)

abbrev pub at : List (List ℕ) → ℕ → List ℕ
at fields i = slice_index_or fields i []

-- the row of six fields: window, start, end, number, value, key
abbrev pub row_in : List (List ℕ) → Row
row_in fields = record {
  window = number_in (at fields 0);
  key = at fields 5;
  low = number_in (at fields 1);
  high = end_in (at fields 2);
  number = number_in (at fields 3);
  shown = shown_in (at fields 4);
}

-- a row of whose number and value nothing is told: window, start, end, key
abbrev pub bare_row_in : List (List ℕ) → Row
bare_row_in fields = record {
  window = number_in (at fields 0);
  key = at fields 3;
  low = number_in (at fields 1);
  high = end_in (at fields 2);
  number = 0;
  shown = Whole (pos 0);
}

-- the row of eight fields, and what stood before: its number and value stand in front of the key
abbrev pub updated_in : List (List ℕ) → Change
updated_in fields = Again
    (record (row_in fields) { key = at fields 7 })
    (record { number = number_in (at fields 5); shown = shown_in (at fields 6) })

-- nothing is told of what stood before
abbrev pub untold : Former
untold = record { number = 0; shown = Whole (pos 0) }

-- the update and the retraction that a text spells, where the report tells in full what stood before, and where it doesn't
abbrev pub update_in : Bool → List ℕ → Change
update_in full text = if full then updated_in (words 7 text) else Again (row_in (words 5 text)) untold

abbrev pub retraction_in : Bool → List ℕ → Change
retraction_in full text = Gone (if full then row_in (words 5 text) else bare_row_in (words 3 text))

-- the change that a line's first word and what is behind it spell, if they spell one
abbrev pub guessed_change : Bool → List ℕ → List ℕ → Change
guessed_change full kind text =
    if bytes_eq kind (codes "+") then New (row_in (words 5 text))
    else if bytes_eq kind (codes "~") then update_in full text
    else if bytes_eq kind (codes "-") then retraction_in full text
    else Dropped

-- the change whose line this is, if it is one and its numbers fit
abbrev pub change_in : Bool → List ℕ → Option Change
change_in full line =
    let change = guessed_change full (word line) (after_word line) in
    if bytes_eq ((form_of full).line change) (line ++ 10 ∷ []) && is_change_fit change then Some change else None
