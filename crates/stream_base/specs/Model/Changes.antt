-- Rows, and the changes that an entry causes.
use Rattle.std.specs.Prelude.{◌==◌, ◌&&◌, ℕ, Bool, true, false, List, [], ◌∷◌, ◌++◌, length, take, Option, None, Some, map, if◌then◌else◌, slice_get}
use Rattle.std.specs.List.{filter_map, find, flat_map, list_any, enumerate_from}
use Rattle.std.specs.Option.{option_map_or}
use Rattle.stream_base.specs.Limits.{Definitions}
use Rattle.stream_base.specs.declared.change.Change.{Change}
use Rattle.stream_base.specs.declared.change.Change.TheVariants.{Gone, New, Again, Dropped}
use Rattle.stream_base.specs.declared.def.Def.{Def}
use Rattle.stream_base.specs.declared.entry.Entry.{Entry}
use Rattle.stream_base.specs.declared.former.Former.{Former}
use Rattle.stream_base.specs.declared.func.Func.{Func}
use Rattle.stream_base.specs.declared.kept.Kept.{Kept}
use Rattle.stream_base.specs.declared.row.Row.{Row}
use Rattle.stream_base.specs.Model.Functions.{shown_of}
use Rattle.stream_base.specs.Model.Journal.{keys_of, kept_of, marks_of}
use Rattle.stream_base.specs.Model.Watermark.{water_of}
use Rattle.stream_base.specs.Model.What.{is_late}
use Rattle.stream_base.specs.Model.Windows.{Instance, standing_of}

-- the row of an instance: its window's index, the key, its start and end, how many tuples it selects, and what the window's function shows of their values in event order
abbrev pub row_of : ℕ → List ℕ → Func → Instance → Row
row_of window key func i = record {
  window = window;
  key = key;
  low = i.low;
  high = i.high;
  number = length i.chosen;
  shown = shown_of func (map (λ x. x.value) i.chosen);
}

-- what stood of an instance: how many tuples it selected, and what the window's function showed
abbrev pub former_of : Func → Instance → Former
former_of func i = record { number = length i.chosen; shown = shown_of func (map (λ x. x.value) i.chosen) }

-- two instances of one window and key are the same where they start and end alike
abbrev pub is_same : Instance → Instance → Bool
is_same i j = (i.low == j.low) && (i.high == j.high)

-- two selections are the same where they select the same positions
abbrev pub are_same_tuples : List Kept → List Kept → Bool
are_same_tuples [] [] = true
are_same_tuples [] (y ∷ ys) = false
are_same_tuples (x ∷ xs) [] = false
are_same_tuples (x ∷ xs) (y ∷ ys) = (x.position == y.position) && are_same_tuples xs ys

-- an instance that stood stands no longer: it is retracted, with the row that stood
abbrev pub retraction : ℕ → List ℕ → Func → List Instance → Instance → Option Change
retraction window key func now i =
    if list_any (is_same i) now then None else Some (Gone (row_of window key func i))

-- an instance that stands is emitted where it newly stands, and updated where it stood and now selects other tuples: then with what stood
abbrev pub emitted : ℕ → List ℕ → Func → Instance → Option Instance → Option Change
emitted window key func i None = Some (New (row_of window key func i))
emitted window key func i (Some old) =
    if are_same_tuples old.chosen i.chosen then None else Some (Again (row_of window key func i) (former_of func old))

-- what becomes of an instance that stands, given what stood before
abbrev pub emission : ℕ → List ℕ → Func → List Instance → Instance → Option Change
emission window key func before i = emitted window key func i (find (is_same i) before)

-- what is known of a key at one moment: its kept tuples, its marks, and the watermark
pub record Moment : Type 0 where
  pub kept : List Kept
  pub marks : List ℕ
  pub water : ℕ

-- the instances of a window that stand at a moment
abbrev pub standing_at : Def → Moment → List Instance
standing_at def m = standing_of def.kind m.kept m.marks m.water

-- the retractions of one window of a key from one moment to the next, by start and end
abbrev pub retractions : List ℕ → Moment → Moment → ℕ × Def → List Change
retractions key old new (window, def) =
    filter_map (retraction window key def.func (standing_at def new)) (standing_at def old)

-- the emissions and updates of one window of a key from one moment to the next, by start and end
abbrev pub emissions : List ℕ → Moment → Moment → ℕ × Def → List Change
emissions key old new (window, def) =
    filter_map (emission window key def.func (standing_at def old)) (standing_at def new)

-- the changes of one key from one moment to the next: all retractions, then all emissions and updates, each by window
unfoldable pub changes_between : List Def → List ℕ → Moment → Moment → List Change
changes_between windows key old new =
    let numbered = enumerate_from 0 windows in
    flat_map (retractions key old new) numbered ++ flat_map (emissions key old new) numbered

-- what is known of a key after a journal
abbrev pub moment_of : Definitions → ℕ → List ℕ → List Entry → Moment
moment_of d sources key journal = record {
  kept = kept_of d.lateness sources key journal;
  marks = marks_of d.lateness sources key journal;
  water = water_of sources journal;
}

-- the changes of one key that an entry behind a journal causes
abbrev pub changes_of_key : Definitions → ℕ → List Entry → Entry → List ℕ → List Change
changes_of_key d sources before entry key =
    changes_between d.windows key (moment_of d sources key before) (moment_of d sources key (before ++ entry ∷ []))

-- the changes that an entry behind a journal causes: it is dropped where it is late, and else each key changes, by the bytes of the keys
unfoldable pub changes_after : Definitions → ℕ → List Entry → Entry → List Change
changes_after d sources before entry =
    if is_late d.lateness (water_of sources before) entry.what
    then Dropped ∷ []
    else flat_map (changes_of_key d sources before entry) (keys_of (before ++ entry ∷ []))

-- the changes under the entry at a position of a journal
abbrev pub changes_at : Definitions → ℕ → List Entry → ℕ → List Change
changes_at d sources journal position =
    option_map_or (changes_after d sources (take position journal)) (slice_get journal position) []

-- the rows of what stands of a key at a moment, by window, start and end
abbrev pub rows_at : List Def → List ℕ → Moment → List Row
rows_at windows key m = flat_map (λ w. map (row_of w.0 key (w.1).func) (standing_at w.1 m)) (enumerate_from 0 windows)

-- the rows of all that stands after a journal, by key, window, start and end
unfoldable pub standing_rows : Definitions → ℕ → List Entry → List Row
standing_rows d sources journal = flat_map (λ key. rows_at d.windows key (moment_of d sources key journal)) (keys_of journal)
