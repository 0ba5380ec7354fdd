-- The event of one record of a source.
use Rattle.std.specs.Prelude.{◌==◌, ◌&&◌, ◌||◌, ◌^◌, ℕ, ℤ, pos, Bool, List, [], ◌∷◌, length, Option, None, Some, Result, Ok, Err, if◌then◌else◌, nat_lt, nat_le, unwrap_or, codes, neg_ℤ}
use Rattle.std.specs.List.{list_all}
use Rattle.std.specs.Char.{is_ascii_digit}
use Rattle.std.specs.Str.{bytes_eq}
use Rattle.csv.specs.Records.{field_at}
use Rattle.stream_base.specs.Key.{key_fault}
use Rattle.stream_base.specs.Kinds.{is_from_one_to}
use Rattle.stream_base.specs.Model.Journals.{number_in}
use Rattle.stream_base.specs.declared.limits.TheConstants.{TIME_MAX}
use Rattle.stream_base.specs.declared.key_text.KeyFault.{KeyFault}
use Rattle.stream_base.specs.declared.what.What.{What}
use Rattle.stream_base.specs.declared.what.What.TheVariants.{Tuple, Mark, Water, Idle}
use Rattle.source_feed.specs.declared.row_why.RowWhy.{RowWhy}
use Rattle.source_feed.specs.declared.row_why.RowWhy.TheVariants.{Kind, Fields, Time, Value, Key}

-- first one answer, and then with what it gives the next, up to the first fault
infixl 10 ◌>>=◌
abbrev pub ◌>>=◌ : {A B : Type 0} → Result A RowWhy → (A → Result B RowWhy) → Result B RowWhy
(Ok x) >>= next = next x
(Err why) >>= next = Err why

-- the number of a text of 1 to 19 digits; leading zeros are allowed
abbrev pub parse_number : List ℕ → Option ℕ
parse_number text =
    if is_from_one_to 19 (length text) && list_all is_ascii_digit text
    then Some (number_in text)
    else None

-- a number as a time, where it is at most the greatest time
abbrev pub as_time : Option ℕ → Result ℕ RowWhy
as_time None = Err Time
as_time (Some number) = if nat_le number TIME_MAX then Ok number else Err Time

-- the time of a text
abbrev pub time_in : List ℕ → Result ℕ RowWhy
time_in text = as_time (parse_number text)

-- a number as a value, where it is below 2^63
abbrev pub from_zero : Option ℕ → Result ℤ RowWhy
from_zero None = Err Value
from_zero (Some number) = if nat_lt number (2 ^ 63) then Ok (pos number) else Err Value

-- a number with a minus sign as a value, where it is at most 2^63
abbrev pub below_zero : Option ℕ → Result ℤ RowWhy
below_zero None = Err Value
below_zero (Some number) = if nat_le number (2 ^ 63) then Ok (neg_ℤ (pos number)) else Err Value

-- the value of a text: at most one sign, '-' or '+', and then a number
abbrev pub value_in : List ℕ → Result ℤ RowWhy
value_in [] = Err Value
value_in (sign ∷ digits) =
    if sign == 45 then below_zero (parse_number digits)
    else if sign == 43 then from_zero (parse_number digits)
    else from_zero (parse_number (sign ∷ digits))

-- a text as a key
abbrev pub as_key : Option KeyFault → List ℕ → Result (List ℕ) RowWhy
as_key None text = Ok text
as_key (Some fault) text = Err Key

-- the key of a text
abbrev pub key_in : List ℕ → Result (List ℕ) RowWhy
key_in text = as_key (key_fault text) text

-- a field of a record by its place, from 0; where there is none, no bytes
abbrev pub field : List (List ℕ) → ℕ → List ℕ
field fields place = unwrap_or (field_at fields place) []

-- a field is there and empty
abbrev pub is_empty : List ℕ → Bool
is_empty text = length text == 0

-- the record names the fields of the records after it
abbrev pub is_header : List (List ℕ) → Bool
is_header fields =
    (length fields == 4)
    && bytes_eq (field fields 0) (codes "kind")
    && bytes_eq (field fields 1) (codes "time")
    && bytes_eq (field fields 2) (codes "value")
    && bytes_eq (field fields 3) (codes "key")

-- t,TIME,VALUE,KEY is a tuple
abbrev pub tuple_of : List (List ℕ) → Result What RowWhy
tuple_of fields =
    if length fields == 4
    then (do
      time ← time_in (field fields 1)
      value ← value_in (field fields 2)
      key ← key_in (field fields 3)
      Ok (Tuple key time value))
    else Err Fields

-- m,TIME,,KEY is a mark
abbrev pub mark_of : List (List ℕ) → Result What RowWhy
mark_of fields =
    if (length fields == 4) && is_empty (field fields 2)
    then (do
      time ← time_in (field fields 1)
      key ← key_in (field fields 3)
      Ok (Mark key time))
    else Err Fields

-- w,TIME and w,TIME,, are watermarks
abbrev pub water_of : List (List ℕ) → Result What RowWhy
water_of fields =
    if (length fields == 2) || ((length fields == 4) && is_empty (field fields 2) && is_empty (field fields 3))
    then (do
      time ← time_in (field fields 1)
      Ok (Water time))
    else Err Fields

-- i and i,,, are words that the source is idle
abbrev pub idle_of : List (List ℕ) → Result What RowWhy
idle_of fields =
    if (length fields == 1)
    || ((length fields == 4) && is_empty (field fields 1) && is_empty (field fields 2) && is_empty (field fields 3))
    then Ok Idle
    else Err Fields

-- the event of a record, or its first fault: its kind, fields, time, value and key, in this order
abbrev pub what_of : List (List ℕ) → Result What RowWhy
what_of fields =
    if bytes_eq (field fields 0) (codes "t") then tuple_of fields
    else if bytes_eq (field fields 0) (codes "m") then mark_of fields
    else if bytes_eq (field fields 0) (codes "w") then water_of fields
    else if bytes_eq (field fields 0) (codes "i") then idle_of fields
    else Err Kind
