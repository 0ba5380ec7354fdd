-- The text of journals with the changes of the tails under each entry.
use Rattle.std.specs.Prelude.{ℕ, List, [], ◌∷◌, codes, decimal}
use Rattle.std.specs.List.{flat_map}
use Rattle.stream_base.specs.declared.entry.Entry.{Entry}
use Rattle.stream_base.specs.Model.Text.{line_of, shown_text, text_of}
use Rattle.tail_windows.specs.Tails.{tail_changes_after}
use Rattle.tail_windows.specs.declared.def.TailDef.{TailDef}
use Rattle.tail_windows.specs.declared.row.TailRow.{TailRow}
use Rattle.tail_windows.specs.declared.change.TailChange.{TailChange}
use Rattle.tail_windows.specs.declared.change.TailChange.TheVariants.{New, Again, Dropped}

abbrev pub tail_fields : TailRow → List (List ℕ)
tail_fields row = decimal row.at ∷ decimal row.number ∷ shown_text row.shown ∷ row.key ∷ []

-- the line of a change
abbrev pub tail_line : TailChange → List ℕ
tail_line (New row) = line_of (codes "+" ∷ tail_fields row)
tail_line (Again row) = line_of (codes "~" ∷ tail_fields row)
tail_line Dropped = line_of (codes "x" ∷ [])

-- the lines under an entry
abbrev pub tails_under : TailDef → ℕ → ℕ → List Entry → Entry → List ℕ
tails_under def lateness sources before e = flat_map tail_line (tail_changes_after def lateness sources before e)

-- the report of journals
unfoldable pub tail_report_of : TailDef → ℕ → ℕ → List (List Entry) → List ℕ
tail_report_of def lateness sources journals = text_of (tails_under def lateness sources) journals
