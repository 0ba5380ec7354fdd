-- A cell of a change tells the same while keys and changes come.
use Rattle.std.proofs.Common.{◌≡◌, ℕ, List, [], length, slice_index_or, ap, refl}
use Rattle.std.specs.List.{All}
use Rattle.std.proofs.lemmas.List.Elements.{All-weaker}
use Rattle.stream_base.specs.declared.change.Change.{Change}
use Rattle.stream_base.specs.declared.change.Change.TheVariants.{Dropped as NoChange}
use Rattle.stream_base.specs.declared.row.Row.{Row}
use Rattle.compact_log.specs.declared.change_cell.ChangeCell.{ChangeCell}
use Rattle.compact_log.specs.declared.change_form.ChangeForm.{ChangeForm}
use Rattle.compact_log.specs.declared.change_form.ChangeForm.TheVariants.{Gone, New, Again, Dropped, Whole}
use Rattle.compact_log.specs.ChangeCells.{IsChangeHeld, IsFormHeld, IsRowHeld, change_of, change_told, row_of}
use Rattle.compact_log.specs.Growing.{Keeps}
use Rattle.compact_log.proofs.Cells.{kept_at}

row_still : (cell : ChangeCell) (keys more : List (List ℕ)) → Keeps keys more → IsRowHeld (length keys) cell → row_of more cell ≡ row_of keys cell
row_still cell keys more k held = ap (λ (key : List ℕ). record (row_of keys cell) { key = key }) (kept_at keys more cell.place [] k held.key)

of_form : (form : ChangeForm) (cell : ChangeCell) (keys more : List (List ℕ)) (whole wider : List Change) → Keeps keys more → Keeps whole wider → IsFormHeld form (length keys) (length whole) cell → change_told form cell (row_of more cell) (slice_index_or wider cell.low NoChange) ≡ change_told form cell (row_of keys cell) (slice_index_or whole cell.low NoChange)
of_form Gone cell keys more whole wider k w held = ap (λ (row : Row). change_told Gone cell row NoChange) (row_still cell keys more k held)
of_form New cell keys more whole wider k w held = ap (λ (row : Row). change_told New cell row NoChange) (row_still cell keys more k held)
of_form Again cell keys more whole wider k w held = ap (λ (row : Row). change_told Again cell row NoChange) (row_still cell keys more k held)
of_form Dropped cell keys more whole wider k w held = refl
of_form Whole cell keys more whole wider k w held = kept_at whole wider cell.low NoChange w held

-- cells that were held tell what they told
pub told_still : (cells : List ChangeCell) (keys more : List (List ℕ)) (whole wider : List Change) → Keeps keys more → Keeps whole wider → All (IsChangeHeld (length keys) (length whole)) cells → All (λ c. change_of more wider c ≡ change_of keys whole c) cells
told_still cells keys more whole wider k w held =
    All-weaker (IsChangeHeld (length keys) (length whole)) (λ c. change_of more wider c ≡ change_of keys whole c)
    (λ c h. of_form c.form c keys more whole wider k w h) cells held
