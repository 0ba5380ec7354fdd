-- Rows by their fields.
use Rattle.std.specs.Prelude.{ℕ, List}
use Rattle.stream_base.specs.declared.former.Former.{Former}
use Rattle.stream_base.specs.declared.row.Row.{Row}
use Rattle.stream_base.specs.Model.Journals.{number_in}
use Rattle.row_laws.specs.Reading.{end_in, shown_in}

-- the row whose fields spell this
abbrev pub row_of : List ℕ → List ℕ → List ℕ → List ℕ → List ℕ → List ℕ → Row
row_of window low high number shown key = record {
  window = number_in window;
  key = key;
  low = number_in low;
  high = end_in high;
  number = number_in number;
  shown = shown_in shown;
}

abbrev pub former_of : List ℕ → List ℕ → Former
former_of number shown = record { number = number_in number; shown = shown_in shown }
