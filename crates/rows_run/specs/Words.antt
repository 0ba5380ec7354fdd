-- The grammar of the command line.
use Rattle.std.specs.Prelude.{ℕ, List, [], ◌∷◌, Option, None, Some, codes, if◌then◌else◌}
use Rattle.std.specs.Str.{bytes_eq}
use Rattle.row_text.specs.declared.format.Format.{Format}
use Rattle.row_text.specs.declared.format.Format.TheVariants.{Csv, Json}

-- what is asked for: the form of the rows, the report's name, and the key of the rows, empty for all
pub record Asked : Type 0 where
  pub format : Format
  pub report : List ℕ
  pub key : List ℕ

abbrev pub asked : Format → List ℕ → List ℕ → Asked
asked format report key = record { format = format; report = report; key = key }

-- a report's name, and maybe a key
abbrev pub asked_plainly : Format → List (List ℕ) → Option Asked
asked_plainly format [] = None
asked_plainly format (report ∷ []) = Some (asked format report [])
asked_plainly format (report ∷ key ∷ []) = Some (asked format report key)
asked_plainly format (report ∷ key ∷ next ∷ words) = None

-- the same with `--json` in front
abbrev pub asked_by : List (List ℕ) → Option Asked
asked_by [] = None
asked_by (word ∷ words) = if bytes_eq word (codes "--json") then asked_plainly Json words else asked_plainly Csv (word ∷ words)
