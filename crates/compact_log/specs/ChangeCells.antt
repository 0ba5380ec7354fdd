-- What the cells of changes tell.
use Rattle.std.specs.Prelude.{◌≡◌, ◌<◌, ◌+◌, ◌^◌, ℕ, ℤ, List, [], slice_index_or, length}
use Rattle.stream_base.specs.declared.change.Change.{Change}
use Rattle.stream_base.specs.declared.change.Change.TheVariants.{Gone, New, Again, Dropped}
use Rattle.stream_base.specs.declared.former.Former.{Former}
use Rattle.stream_base.specs.declared.row.Row.{Row}
use Rattle.stream_base.specs.declared.shown.Shown.{Shown}
use Rattle.stream_base.specs.declared.shown.Shown.TheVariants.{Whole, Ratio}
use Rattle.compact_log.specs.declared.change_cell.ChangeCell.{ChangeCell}
use Rattle.compact_log.specs.declared.change_form.ChangeForm.{ChangeForm}
use Rattle.compact_log.specs.declared.change_form.ChangeForm.TheVariants.{Gone as IsGone, New as IsNew, Again as IsAgain, Dropped as IsDropped, Whole as IsWhole}
use Rattle.compact_log.specs.declared.shown_form.ShownForm.{ShownForm}
use Rattle.compact_log.specs.declared.shown_form.ShownForm.TheVariants.{Whole as IsNumber, Ratio as IsRatio}

-- a value as it is shown, beside the number of tuples that it is of
abbrev pub shown_of : ShownForm → ℤ → ℕ → Shown
shown_of IsNumber value number = Whole value
shown_of IsRatio value number = Ratio value number

-- the row that a cell tells, under the keys
abbrev pub row_of : List (List ℕ) → ChangeCell → Row
row_of keys cell = record {
  window = cell.window;
  key = slice_index_or keys cell.place [];
  low = cell.low;
  high = cell.low + cell.span;
  number = cell.number;
  shown = shown_of cell.shown cell.value cell.number;
}

-- what the row of a cell showed before
abbrev pub former_of : ChangeCell → Former
former_of cell = record { number = cell.former_number; shown = shown_of cell.former_shown cell.former_value cell.former_number }

-- the change that a cell of this form tells, with its row and the change that is stored whole under its number
abbrev pub change_told : ChangeForm → ChangeCell → Row → Change → Change
change_told IsGone cell row change = Gone row
change_told IsNew cell row change = New row
change_told IsAgain cell row change = Again row (former_of cell)
change_told IsDropped cell row change = Dropped
change_told IsWhole cell row change = change

-- the change that a cell tells, under the keys and the changes that are stored whole
abbrev pub change_of : List (List ℕ) → List Change → ChangeCell → Change
change_of keys whole cell = change_told cell.form cell (row_of keys cell) (slice_index_or whole cell.low Dropped)

-- among so many keys there is that of a cell's row, whose end is a number of 64 bits
pub record IsRowHeld (keys : ℕ) (cell : ChangeCell) : Type 0 where
  pub key : cell.place < keys
  pub fits : cell.low + cell.span < 2 ^ 64

-- among so many keys and changes that are stored whole there are those of which a cell of this form tells
abbrev pub IsFormHeld : ChangeForm → ℕ → ℕ → ChangeCell → Type 0
IsFormHeld IsGone keys whole cell = IsRowHeld keys cell
IsFormHeld IsNew keys whole cell = IsRowHeld keys cell
IsFormHeld IsAgain keys whole cell = IsRowHeld keys cell
IsFormHeld IsDropped keys whole cell = Unit {0}
IsFormHeld IsWhole keys whole cell = cell.low < whole

-- the same, by the form that the cell has
abbrev pub IsChangeHeld : ℕ → ℕ → ChangeCell → Type 0
IsChangeHeld keys whole cell = IsFormHeld cell.form keys whole cell

-- a cell of this form tells a row by these keys
pub record IsRowCell (row : Row) (wanted : ChangeForm) (keys : List (List ℕ)) (cell : ChangeCell) : Type 0 where
  pub form : cell.form ≡ wanted
  pub told : row_of keys cell ≡ row
  pub held : IsRowHeld (length keys) cell

-- a cell tells what a row showed before, and else the same as another
pub record HasFormer (former : Former) (other cell : ChangeCell) : Type 0 where
  pub form : cell.form ≡ other.form
  pub told : former_of cell ≡ former
  pub row : (keys : List (List ℕ)) → row_of keys cell ≡ row_of keys other
  pub held : (n : ℕ) → IsRowHeld n other → IsRowHeld n cell

-- a cell tells a change by these keys alone
pub record IsCellOf (change : Change) (keys : List (List ℕ)) (cell : ChangeCell) : Type 0 where
  pub told : (whole : List Change) → change_of keys whole cell ≡ change
  pub held : (n : ℕ) → IsChangeHeld (length keys) n cell
