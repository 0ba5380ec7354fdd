-- A cell of an entry tells the same while keys and entries come.
use Rattle.std.proofs.Common.{◌≡◌, ℕ, List, [], length, slice_index_or, ap, refl}
use Rattle.std.specs.List.{All}
use Rattle.std.proofs.lemmas.List.Elements.{All-weaker}
use Rattle.stream_base.specs.declared.entry.Entry.{Entry}
use Rattle.compact_log.specs.declared.entry_cell.EntryCell.{EntryCell}
use Rattle.compact_log.specs.declared.entry_kind.EntryKind.{EntryKind}
use Rattle.compact_log.specs.declared.entry_kind.EntryKind.TheVariants.{Tuple, Mark, Water, Idle, End, Whole}
use Rattle.compact_log.specs.EntryCells.{IsEntryHeld, IsKindHeld, entry_of, entry_told, no_entry}
use Rattle.compact_log.specs.Growing.{Keeps}
use Rattle.compact_log.proofs.Cells.{kept_at}

of_kind : (kind : EntryKind) (cell : EntryCell) (keys more : List (List ℕ)) (whole wider : List Entry) → Keeps keys more → Keeps whole wider → IsKindHeld kind (length keys) (length whole) cell → entry_told kind cell (slice_index_or more cell.place []) (slice_index_or wider cell.time no_entry) ≡ entry_told kind cell (slice_index_or keys cell.place []) (slice_index_or whole cell.time no_entry)
of_kind Tuple cell keys more whole wider k w held = ap (λ key. entry_told Tuple cell key no_entry) (kept_at keys more cell.place [] k held)
of_kind Mark cell keys more whole wider k w held = ap (λ key. entry_told Mark cell key no_entry) (kept_at keys more cell.place [] k held)
of_kind Water cell keys more whole wider k w held = refl
of_kind Idle cell keys more whole wider k w held = refl
of_kind End cell keys more whole wider k w held = refl
of_kind Whole cell keys more whole wider k w held = kept_at whole wider cell.time no_entry w held

-- cells that were held tell what they told
pub told_still : (cells : List EntryCell) (keys more : List (List ℕ)) (whole wider : List Entry) → Keeps keys more → Keeps whole wider → All (IsEntryHeld (length keys) (length whole)) cells → All (λ c. entry_of more wider c ≡ entry_of keys whole c) cells
told_still cells keys more whole wider k w held =
    All-weaker (IsEntryHeld (length keys) (length whole)) (λ c. entry_of more wider c ≡ entry_of keys whole c)
    (λ c h. of_kind c.kind c keys more whole wider k w h) cells held
