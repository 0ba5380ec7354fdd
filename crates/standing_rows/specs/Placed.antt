-- A row as an entry of an ordered map: its place, and what it shows.
use Rattle.std.specs.Prelude.{List, map}
use Rattle.stream_base.specs.declared.row.Row.{Row}
use Rattle.standing_rows.specs.declared.place.Place.{Place}
use Rattle.standing_rows.specs.declared.seen.Seen.{Seen}

-- the row of an entry
abbrev pub row_at : Place × Seen → Row
row_at e = record {
  window = (e.0).window;
  key = (e.0).key;
  low = (e.0).low;
  high = (e.0).high;
  number = (e.1).number;
  shown = (e.1).shown;
}

-- the rows of entries, in their order
abbrev pub rows_of : List (Place × Seen) → List Row
rows_of entries = map row_at entries
