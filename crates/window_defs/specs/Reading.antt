-- How bytes read as window definitions: the definitions that they spell, or the first refusal.
use Rattle.std.specs.Prelude.{◌≡◌, ℕ, ℤ, pos, negsuc, Bool, true, false, not, ◌||◌, ◌+◌, List, [], ◌∷◌, length, Option, None, Some, Result, Ok, Err, if◌then◌else◌, nat_le, codes}
use Rattle.std.specs.Option.{ok_or}
use Rattle.std.specs.Str.{bytes_eq}
use Rattle.toml.specs.Data.{Data, Members}
use Rattle.stream_base.specs.declared.limits.TheConstants.{TIME_MAX, EVERY_MAX, WINDOWS_MAX}
use Rattle.stream_base.specs.declared.def.Def.{Def}
use Rattle.stream_base.specs.Limits.{Definitions, definitions_of}
use Rattle.stream_base.specs.Kinds.{is_from_one_to}
use Rattle.window_defs.specs.declared.read.TheConstants.{BYTES_MAX}
use Rattle.window_defs.specs.declared.defs_fault.DefsFault.{DefsFault}
use Rattle.window_defs.specs.declared.defs_fault.DefsFault.TheVariants.{Long, Toml, Shape, Many, Limit, NoMemory}
use Rattle.window_defs.specs.Document.{document_of}
use Rattle.window_defs.specs.Tables.{integer_or_zero, array_at, has_other}
use Rattle.window_defs.specs.Windows.{raw_window_of, def_of}

infixl 10 ◌>>=◌
abbrev pub ◌>>=◌ : {A B : Type 0} → Result A DefsFault → (A → Result B DefsFault) → Result B DefsFault
(Ok x) >>= f = f x
(Err e) >>= f = Err e

-- refuses where the test fails
abbrev pub must : Bool → DefsFault → Result (Unit {0}) DefsFault
must true fault = Ok tt
must false fault = Err fault

-- a key that may stand at the top
abbrev pub is_top_key : List ℕ → Bool
is_top_key key =
    bytes_eq key (codes "lateness") || (bytes_eq key (codes "every") || (bytes_eq key (codes "disorder") || bytes_eq key (codes "window")))

-- an integer as a number from 0 up to a limit
abbrev pub number_up_to : ℕ → ℤ → Option ℕ
number_up_to most (pos n) = if nat_le n most then Some n else None
number_up_to most (negsuc n) = None

-- the window at an index of the array: its shape has to be right, and then its numbers within the limits
abbrev pub window_at : ℕ → Data → Result Def DefsFault
window_at i value = do
  raw ← ok_or (raw_window_of value) (Shape (Some i))
  ok_or (def_of raw) (Limit (Some i))

-- the windows from an index on, or the refusal of the first that is in trouble
abbrev pub windows_from : ℕ → List Data → Result (List Def) DefsFault
windows_from i [] = Ok []
windows_from i (value ∷ values) = do
  window ← window_at i value
  rest ← windows_from (i + 1) values
  Ok (window ∷ rest)

-- the definitions of a document: each line refuses for one cause, and the first cause is answered
unfoldable pub reading_of_top : Members → Result Definitions DefsFault
reading_of_top top = do
  lateness ← ok_or (integer_or_zero (codes "lateness") top) (Shape None)
  every ← ok_or (integer_or_zero (codes "every") top) (Shape None)
  disorder ← ok_or (integer_or_zero (codes "disorder") top) (Shape None)
  elements ← ok_or (array_at (codes "window") top) (Shape None)
  _ ← must (not (has_other is_top_key top)) (Shape None)
  _ ← must (is_from_one_to WINDOWS_MAX (length elements)) Many
  lateness_number ← ok_or (number_up_to TIME_MAX lateness) (Limit None)
  every_number ← ok_or (number_up_to EVERY_MAX every) (Limit None)
  disorder_number ← ok_or (number_up_to TIME_MAX disorder) (Limit None)
  windows ← windows_from 0 elements
  Ok (definitions_of windows lateness_number every_number disorder_number)

-- the definitions that bytes spell, or the first refusal
unfoldable pub reading_of : List ℕ → Result Definitions DefsFault
reading_of bytes = do
  _ ← must (nat_le (length bytes) BYTES_MAX) Long
  top ← ok_or (document_of bytes) Toml
  reading_of_top top

-- what a call answers, seen by view, is the reading, unless memory ran out
abbrev pub Refuses : {Y : Type 0} → DefsFault → Result Y DefsFault → Type 0
Refuses NoMemory reading = Unit {0}
Refuses fault reading = reading ≡ Err fault

abbrev pub Gives : {X Y : Type 0} → (X → Y) → Result X DefsFault → Result Y DefsFault → Type 0
Gives view (Ok x) reading = reading ≡ Ok (view x)
Gives view (Err fault) reading = Refuses fault reading
