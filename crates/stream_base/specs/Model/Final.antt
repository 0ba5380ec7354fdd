-- What stands at the end of sources, whatever the order in which their entries came, and its summary.
use Rattle.std.specs.Prelude.{◌==◌, ℕ, List, [], ◌∷◌, ◌++◌, length, map, filter, sum, codes, decimal, None}
use Rattle.std.specs.List.{flat_map, enumerate_from, range_with_len, last_or}
use Rattle.std.specs.Option.{option_map_or}
use Rattle.stream_base.specs.Limits.{Definitions}
use Rattle.stream_base.specs.declared.limits.TheConstants.{FINAL}
use Rattle.stream_base.specs.declared.entry.Entry.{Entry}
use Rattle.stream_base.specs.declared.row.Row.{Row}
use Rattle.stream_base.specs.Model.Changes.{Moment, rows_at}
use Rattle.stream_base.specs.Model.Journal.{in_event_order, keys_of, marks_in, tuples_in}
use Rattle.stream_base.specs.Model.Text.{line_of, row_fields}

-- the entries of all sources, one source after another
abbrev pub all_entries : List (List Entry) → List Entry
all_entries sources = flat_map (λ entries. entries) sources

-- what is known of a key at the end, where every tuple and mark counts as accepted
abbrev pub final_moment : List Entry → List ℕ → Moment
final_moment entries key = record {
  kept = in_event_order (tuples_in key (enumerate_from 0 entries));
  marks = marks_in key (enumerate_from 0 entries);
  water = FINAL;
}

-- the rows that stand at the end of the sources, by key, window, start and end
unfoldable pub final_rows : Definitions → List (List Entry) → List Row
final_rows d sources =
    let entries = all_entries sources in
    flat_map (λ key. rows_at d.windows key (final_moment entries key)) (keys_of entries)

-- the rows of one window
abbrev pub rows_of_window : ℕ → List Row → List Row
rows_of_window window rows = filter (λ row. row.window == window) rows

-- the lines of one window: how many rows it has, the sum of their numbers, and its last row, where it has one
abbrev pub window_lines : List Row → ℕ → List ℕ
window_lines rows window =
    let own = rows_of_window window rows in
    line_of (codes "window" ∷ decimal window ∷ decimal (length own) ∷ decimal (sum (map (λ row. row.number) own)) ∷ [])
    ++ option_map_or (λ row. line_of (codes "+" ∷ row_fields row)) (last_or None own) []

-- the summary of rows: the number of tuples that were made, and the lines of each window
unfoldable pub summary_of : ℕ → ℕ → List Row → List ℕ
summary_of tuples windows rows =
    line_of (codes "made" ∷ decimal tuples ∷ []) ++ (flat_map (window_lines rows) (range_with_len 0 windows) ++ codes "end\n")
