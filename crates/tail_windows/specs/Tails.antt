-- The last tuples before each multiple of a period, and the changes that an entry causes of them.
use Rattle.std.specs.Prelude.{◌+◌, ◌-◌, ◌*◌, ◌/◌, ◌&&◌, ℕ, Bool, List, [], ◌∷◌, ◌++◌, length, map, filter, drop, take, Option, None, Some, if◌then◌else◌, nat_lt, nat_le, slice_get}
use Rattle.std.specs.List.{filter_map, find, flat_map}
use Rattle.std.specs.Option.{option_map_or}
use Rattle.std.specs.Ordering.{nat_cmp}
use Rattle.stream_base.specs.declared.entry.Entry.{Entry}
use Rattle.stream_base.specs.declared.func.Func.{Func}
use Rattle.stream_base.specs.declared.kept.Kept.{Kept}
use Rattle.stream_base.specs.Model.Changes.{are_same_tuples}
use Rattle.stream_base.specs.Model.Functions.{shown_of}
use Rattle.stream_base.specs.Model.Journal.{keys_of, kept_of, rising}
use Rattle.stream_base.specs.Model.Watermark.{water_of}
use Rattle.stream_base.specs.Model.What.{is_late}
use Rattle.tail_windows.specs.declared.def.TailDef.{TailDef}
use Rattle.tail_windows.specs.declared.row.TailRow.{TailRow}
use Rattle.tail_windows.specs.declared.change.TailChange.{TailChange}
use Rattle.tail_windows.specs.declared.change.TailChange.TheVariants.{New, Again, Dropped}

-- the end of the period that holds a time
abbrev pub end_of : ℕ → ℕ → ℕ
end_of period time = (time / period + 1) * period

-- the ends of the periods that hold a tuple, each once, rising
abbrev pub ends_of : ℕ → List Kept → List ℕ
ends_of period kept = rising nat_cmp (map (λ x. end_of period x.time) kept)

-- the last tuples of a list, so many at most
abbrev pub last_of : ℕ → List Kept → List Kept
last_of count kept = drop (length kept - count) kept

-- the last tuples before a time, so many at most
abbrev pub tail_at : ℕ → ℕ → List Kept → List Kept
tail_at count at kept = last_of count (filter (λ x. nat_lt x.time at) kept)

-- an instance: the end of its period, and the tuples that it selects
pub record Tail : Type 0 where
  pub at : ℕ
  pub chosen : List Kept

abbrev pub tail_of : TailDef → List Kept → ℕ → Tail
tail_of def kept at = record { at = at; chosen = tail_at def.count at kept }

-- the instances of a key
unfoldable pub tails_in : TailDef → List Kept → List Tail
tails_in def kept = map (tail_of def kept) (ends_of def.period kept)

-- those that the watermark has reached
abbrev pub standing_tails : TailDef → List Kept → ℕ → List Tail
standing_tails def kept water = filter (λ i. nat_le i.at water) (tails_in def kept)

abbrev pub row_of : Func → List ℕ → Tail → TailRow
row_of func key i = record { key = key; at = i.at; number = length i.chosen; shown = shown_of func (map (λ x. x.value) i.chosen) }

-- what becomes of an instance that stands, given the one of its period that stood before, if one did
abbrev pub emitted : Func → List ℕ → Tail → Option Tail → Option TailChange
emitted func key i None = Some (New (row_of func key i))
emitted func key i (Some old) = if are_same_tuples old.chosen i.chosen then None else Some (Again (row_of func key i))

-- whether an instance is of the period that ends there
abbrev pub is_at : ℕ → Tail → Bool
is_at at i = nat_le at i.at && nat_le i.at at

-- the changes of a key from one moment to the next, by the ends of the periods
unfoldable pub tail_changes_between : TailDef → List ℕ → List Kept → ℕ → List Kept → ℕ → List TailChange
tail_changes_between def key kept water kept' water' =
    filter_map (λ i. emitted def.func key i (find (is_at i.at) (standing_tails def kept water))) (standing_tails def kept' water')

-- the changes of a key that an entry behind a journal causes
abbrev pub tail_changes_of_key : TailDef → ℕ → ℕ → List Entry → Entry → List ℕ → List TailChange
tail_changes_of_key def lateness sources before e key =
    tail_changes_between def key
    (kept_of lateness sources key before) (water_of sources before)
    (kept_of lateness sources key (before ++ e ∷ [])) (water_of sources (before ++ e ∷ []))

-- the changes that an entry behind a journal causes: it is dropped where it is late, and else each key changes, by the bytes of the keys
unfoldable pub tail_changes_after : TailDef → ℕ → ℕ → List Entry → Entry → List TailChange
tail_changes_after def lateness sources before e =
    if is_late lateness (water_of sources before) e.what
    then Dropped ∷ []
    else flat_map (tail_changes_of_key def lateness sources before e) (keys_of (before ++ e ∷ []))

-- the changes under the entry at a position
abbrev pub tail_changes_at : TailDef → ℕ → ℕ → List Entry → ℕ → List TailChange
tail_changes_at def lateness sources journal position =
    option_map_or (tail_changes_after def lateness sources (take position journal)) (slice_get journal position) []
