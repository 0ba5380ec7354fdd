-- How an element of the array of windows reads as a window.
use denote.Ref.{Bor}
use Rattle.std.specs.Prelude.{◌≡◌, ℕ, ℤ, pos, negsuc, Bool, false, ◌||◌, List, [], ◌∷◌, Option, None, Some, option_map, if◌then◌else◌, codes}
use Rattle.std.specs.List.{filter_map}
use Rattle.std.specs.Option.{option_and_then}
use Rattle.std.specs.Str.{bytes_eq}
use Rattle.toml.specs.Data.{Data, Members, as_table}
use Rattle.stream_base.specs.declared.def.Def.{Def}
use Rattle.stream_base.specs.declared.kind.Kind.{Kind}
use Rattle.stream_base.specs.declared.kind.Kind.TheVariants as kinds
use Rattle.stream_base.specs.declared.func.Func.{Func}
use Rattle.stream_base.specs.declared.func.Func.TheVariants.{Count, Sum, Min, Max, Mean, First, Last, Rises, Trace}
use Rattle.stream_base.specs.Kinds.{is_kind_within}
use Rattle.window_defs.specs.declared.keyed_number.KeyedNumber.{KeyedNumber}
use Rattle.window_defs.specs.declared.window.KindName.{KindName}
use Rattle.window_defs.specs.declared.window.KindName.TheVariants.{Tumbling, Sliding, Session, Marks, Events}
use Rattle.window_defs.specs.declared.window.RawKind.{RawKind}
use Rattle.window_defs.specs.declared.window.RawKind.TheVariants as raws
use Rattle.window_defs.specs.declared.raw_window.RawWindow.{RawWindow}
use Rattle.window_defs.specs.Tables.{text_at, integer_at, has_other}

infixl 10 ◌>>=◌
abbrev ◌>>=◌ : {A B : Type 0} → Option A → (A → Option B) → Option B
o >>= f = option_and_then f o

-- the kinds of windows, by their words
abbrev pub kind_named : List ℕ → Option KindName
kind_named word =
    if bytes_eq word (codes "tumbling") then Some Tumbling
    else if bytes_eq word (codes "sliding") then Some Sliding
    else if bytes_eq word (codes "session") then Some Session
    else if bytes_eq word (codes "marks") then Some Marks
    else if bytes_eq word (codes "events") then Some Events
    else None

-- and the word of each
abbrev pub kind_word : Kind → List ℕ
kind_word (kinds.Tumbling length) = codes "tumbling"
kind_word (kinds.Sliding length slide) = codes "sliding"
kind_word (kinds.Session gap) = codes "session"
kind_word kinds.Marks = codes "marks"
kind_word (kinds.Events count) = codes "events"

-- the numbers of a kind, each behind its key, in the order in which they are written
abbrev pub numbers_of : Kind → List (List ℕ × ℕ)
numbers_of (kinds.Tumbling length) = (codes "length", length) ∷ []
numbers_of (kinds.Sliding length slide) = (codes "length", length) ∷ (codes "slide", slide) ∷ []
numbers_of (kinds.Session gap) = (codes "gap", gap) ∷ []
numbers_of kinds.Marks = []
numbers_of (kinds.Events count) = (codes "count", count) ∷ []

-- the keys of the numbers of a kind, in that order
abbrev pub keys_of : KindName → List (List ℕ)
keys_of Tumbling = codes "length" ∷ []
keys_of Sliding = codes "length" ∷ codes "slide" ∷ []
keys_of Session = codes "gap" ∷ []
keys_of Marks = []
keys_of Events = codes "count" ∷ []

-- the keys that are there
abbrev pub keys_there : List (Option (Bor (List ℕ))) → List (List ℕ)
keys_there keys = filter_map (option_map (λ key. key.now)) keys

-- a number behind its key
abbrev pub keyed : Option KeyedNumber → Option (List ℕ × ℕ)
keyed number = option_map (λ n. (n.key.now, n.number)) number

-- the numbers that are there, each behind its key
abbrev pub keyed_numbers : List (Option KeyedNumber) → List (List ℕ × ℕ)
keyed_numbers numbers = filter_map keyed numbers

-- the functions, by their words
abbrev pub func_named : List ℕ → Option Func
func_named word =
    if bytes_eq word (codes "count") then Some Count
    else if bytes_eq word (codes "sum") then Some Sum
    else if bytes_eq word (codes "min") then Some Min
    else if bytes_eq word (codes "max") then Some Max
    else if bytes_eq word (codes "mean") then Some Mean
    else if bytes_eq word (codes "first") then Some First
    else if bytes_eq word (codes "last") then Some Last
    else if bytes_eq word (codes "rises") then Some Rises
    else if bytes_eq word (codes "trace") then Some Trace
    else None

-- and the word of each
abbrev pub func_word : Func → List ℕ
func_word Count = codes "count"
func_word Sum = codes "sum"
func_word Min = codes "min"
func_word Max = codes "max"
func_word Mean = codes "mean"
func_word First = codes "first"
func_word Last = codes "last"
func_word Rises = codes "rises"
func_word Trace = codes "trace"

-- the word of some function
abbrev pub IsFunc : List ℕ → Type 0
IsFunc word = (func : Func) × (word ≡ func_word func)

-- a key of the numbers of a kind
abbrev pub is_number_key : KindName → List ℕ → Bool
is_number_key Tumbling key = bytes_eq key (codes "length")
is_number_key Sliding key = bytes_eq key (codes "length") || bytes_eq key (codes "slide")
is_number_key Session key = bytes_eq key (codes "gap")
is_number_key Marks key = false
is_number_key Events key = bytes_eq key (codes "count")

-- a key that a window of a kind has
abbrev pub is_window_key : KindName → List ℕ → Bool
is_window_key kind key = bytes_eq key (codes "kind") || (bytes_eq key (codes "func") || is_number_key kind key)

-- the kind with the integers at its keys, if each is there
abbrev pub raw_kind_of : KindName → Members → Option RawKind
raw_kind_of Tumbling fields = do
  length ← integer_at (codes "length") fields
  Some (raws.Tumbling length)
raw_kind_of Sliding fields = do
  length ← integer_at (codes "length") fields
  slide ← integer_at (codes "slide") fields
  Some (raws.Sliding length slide)
raw_kind_of Session fields = do
  gap ← integer_at (codes "gap") fields
  Some (raws.Session gap)
raw_kind_of Marks fields = Some raws.Marks
raw_kind_of Events fields = do
  count ← integer_at (codes "count") fields
  Some (raws.Events count)

-- a window of the right shape: a table whose kind and function are words for one, and whose other keys are exactly those of its kind, each with an integer
unfoldable pub raw_window_of : Data → Option RawWindow
raw_window_of value = do
  fields ← as_table value
  word_of_kind ← text_at (codes "kind") fields
  kind ← kind_named word_of_kind
  word_of_func ← text_at (codes "func") fields
  func ← func_named word_of_func
  raw ← raw_kind_of kind fields
  if has_other (is_window_key kind) fields then None else Some (record { kind = raw; func = func })

-- a whole number that isn't negative
abbrev pub natural : ℤ → Option ℕ
natural (pos n) = Some n
natural (negsuc n) = None

-- a kind whose numbers are within its limits
abbrev pub within_limits : Kind → Option Kind
within_limits kind = if is_kind_within kind then Some kind else None

-- the kind with its integers as natural numbers, if none is negative
abbrev pub natural_kind : RawKind → Option Kind
natural_kind (raws.Tumbling length) = do
  l ← natural length
  Some (kinds.Tumbling l)
natural_kind (raws.Sliding length slide) = do
  l ← natural length
  s ← natural slide
  Some (kinds.Sliding l s)
natural_kind (raws.Session gap) = do
  g ← natural gap
  Some (kinds.Session g)
natural_kind raws.Marks = Some kinds.Marks
natural_kind (raws.Events count) = do
  n ← natural count
  Some (kinds.Events n)

-- the kind with its numbers, if they are within the limits of the kind
abbrev pub kind_of : RawKind → Option Kind
kind_of raw = do
  kind ← natural_kind raw
  within_limits kind

-- the definition of a window of the right shape, if its numbers are within the limits
abbrev pub def_of : RawWindow → Option Def
def_of raw = do
  kind ← kind_of raw.kind
  Some (record { kind = kind; func = raw.func })
