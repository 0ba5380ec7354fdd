-- The text of a report.
use Rattle.std.specs.Prelude.{◌+◌, ◌==◌, ℕ, List, [], ◌∷◌, ◌++◌, codes, decimal, if◌then◌else◌}
use Rattle.std.specs.Fmt.{signed_decimal}
use Rattle.std.specs.List.{flat_map}
use Rattle.stream_base.specs.Limits.{Definitions}
use Rattle.stream_base.specs.declared.limits.TheConstants.{FINAL}
use Rattle.stream_base.specs.declared.change.Change.{Change}
use Rattle.stream_base.specs.declared.change.Change.TheVariants.{Gone, New, Again, Dropped}
use Rattle.stream_base.specs.declared.entry.Entry.{Entry}
use Rattle.stream_base.specs.declared.former.Former.{Former}
use Rattle.stream_base.specs.declared.row.Row.{Row}
use Rattle.stream_base.specs.declared.shown.Shown.{Shown}
use Rattle.stream_base.specs.declared.shown.Shown.TheVariants.{Whole, Ratio}
use Rattle.stream_base.specs.Model.Changes.{changes_after}
use Rattle.stream_base.specs.Model.What.{what_fields}

-- fields with one space between each two, and a line feed behind them
abbrev pub line_of : List (List ℕ) → List ℕ
line_of [] = 10 ∷ []
line_of (field ∷ []) = field ++ 10 ∷ []
line_of (field ∷ next ∷ fields) = field ++ (32 ∷ line_of (next ∷ fields))

-- the journal line of an entry
abbrev pub entry_line : Entry → List ℕ
entry_line e = line_of (codes "j" ∷ decimal e.source ∷ what_fields e.what)

-- a value as shown: a whole number, or a sum over a count
abbrev pub shown_text : Shown → List ℕ
shown_text (Whole number) = signed_decimal number
shown_text (Ratio sum count) = signed_decimal sum ++ (47 ∷ decimal count)

-- an end, which may be the final time
abbrev pub end_text : ℕ → List ℕ
end_text high = if high == FINAL then codes "end" else decimal high

-- the fields of a row, the key last
abbrev pub row_fields : Row → List (List ℕ)
row_fields row = decimal row.window ∷ decimal row.low ∷ end_text row.high ∷ decimal row.number ∷ shown_text row.shown ∷ row.key ∷ []

-- the line of a change in report 1, which leaves out what stood before
abbrev pub change_line : Change → List ℕ
change_line (Gone row) = line_of (codes "-" ∷ decimal row.window ∷ decimal row.low ∷ end_text row.high ∷ row.key ∷ [])
change_line (New row) = line_of (codes "+" ∷ row_fields row)
change_line (Again row former) = line_of (codes "~" ∷ row_fields row)
change_line Dropped = line_of (codes "x" ∷ [])

-- the fields of an updated row, with the number and value that stood, the key last
abbrev pub updated_fields : Row → Former → List (List ℕ)
updated_fields row former =
    decimal row.window ∷ decimal row.low ∷ end_text row.high ∷ decimal row.number ∷ shown_text row.shown
    ∷ decimal former.number ∷ shown_text former.shown ∷ row.key ∷ []

-- the line of a change in report 2, with what stood before
abbrev pub change_line_2 : Change → List ℕ
change_line_2 (Gone row) = line_of (codes "-" ∷ row_fields row)
change_line_2 (New row) = line_of (codes "+" ∷ row_fields row)
change_line_2 (Again row former) = line_of (codes "~" ∷ updated_fields row former)
change_line_2 Dropped = line_of (codes "x" ∷ [])

-- a form of the report: the lines in front of all shards, and the line of a change
pub record Form : Type 0 where
  pub front : List ℕ
  pub line : Change → List ℕ

abbrev pub report_1 : Form
report_1 = record { front = []; line = change_line }

abbrev pub report_2 : Form
report_2 = record { front = codes "report 2\n"; line = change_line_2 }

-- the lines of changes in a form
abbrev pub change_lines : Form → List Change → List ℕ
change_lines form changes = flat_map form.line changes

-- the lines of the entries behind `before`: each entry's own, and what stands under it
abbrev pub journal_lines : (List Entry → Entry → List ℕ) → List Entry → List Entry → List ℕ
journal_lines under before [] = []
journal_lines under before (e ∷ es) = entry_line e ++ (under before e ++ journal_lines under (before ++ e ∷ []) es)

-- the lines of shards from number k on: each shard's header, and its journal
abbrev pub shard_lines : (List Entry → Entry → List ℕ) → ℕ → List (List Entry) → List ℕ
shard_lines under k [] = []
shard_lines under k (journal ∷ journals) =
    line_of (codes "shard" ∷ decimal k ∷ []) ++ (journal_lines under [] journal ++ shard_lines under (k + 1) journals)

-- the text of journals, with the given lines under each entry
abbrev pub text_of : (List Entry → Entry → List ℕ) → List (List Entry) → List ℕ
text_of under journals = shard_lines under 0 journals ++ codes "end\n"

-- the lines of the changes under an entry
abbrev pub changes_under : Form → Definitions → ℕ → List Entry → Entry → List ℕ
changes_under form d sources before entry = change_lines form (changes_after d sources before entry)

-- the report of journals in a form: under each entry stand its changes
unfoldable pub report_of : Form → Definitions → ℕ → List (List Entry) → List ℕ
report_of form d sources journals = form.front ++ text_of (changes_under form d sources) journals
