-- The records that a reader of bytes in memory has left.
use Rattle.std.specs.Prelude.{◌≡◌, ◌+◌, ℕ, Bool, true, false, List, [], ◌∷◌, length, Option, Some, option_map, unwrap_or}
use Rattle.csv.specs.Machine.{ends_at_end}
use Rattle.csv.specs.Reading.{Ready, default_config, reader_config, reader_state, reader_trim, records_from, source_of}
use Rattle.csv.specs.declared.parser.State.{State}
use Rattle.csv.specs.declared.reader.Reader.{Reader}
use Rattle.csv.specs.declared.reader.Trim.TheVariants as trim

-- the bytes that are left for a reader of pieces
abbrev pub text_left : List ℕ → Option (List ℕ)
text_left bytes = Some bytes

-- the records of bytes, read from a state
abbrev pub records_after : State → List ℕ → List (List (List ℕ))
records_after state bytes = records_from default_config (length bytes + 1) state bytes

-- the records that a reader has left; `left` says which bytes are left under it
abbrev pub records_left : {R : Type 0} → (R → Option (List ℕ)) → Reader R → List (List (List ℕ))
records_left left reader =
    unwrap_or (option_map (records_after (reader_state reader)) (source_of left reader)) []

-- a reader over known bytes, set up for records of any length, that stands between two records
pub record IsReadable {R : Type 0} (left : R → Option (List ℕ)) (reader : Reader R) : Type 0 where
  pub config : reader_config reader ≡ default_config
  pub trim : reader_trim reader ≡ trim.None
  pub ready : Ready reader
  pub known : (bytes : List ℕ) × (source_of left reader ≡ Some bytes)
  pub between : ends_at_end (reader_state reader) ≡ false

-- a read that found a record took the first of those that were left; where it found none, none was left
abbrev pub TookRecord : {R : Type 0} → (R → Option (List ℕ)) → Reader R → Reader R → List (List ℕ) → Bool → Type 0
TookRecord left old new fields true =
    IsReadable left new × (records_left left old ≡ fields ∷ records_left left new)
TookRecord left old new fields false = records_left left old ≡ []
