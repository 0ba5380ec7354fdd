-- What the bytes of the examples are to spell.
use Rattle.std.specs.Prelude.{◌++◌, ℕ, List, [], ◌∷◌, None, Some, codes}
use Rattle.std.specs.List.{flat_map, range_with_len}
use Rattle.stream_base.specs.Examples.{end}
use Rattle.stream_base.specs.declared.entry.Entry.{Entry}
use Rattle.source_feed.specs.Events.{stream_of}
use Rattle.source_feed.specs.Stream.{Stream, bad_record}
use Rattle.source_feed.specs.declared.row_why.RowWhy.{RowWhy}

-- the stream of source 0 with these bytes, where no watermarks are made
abbrev pub stream : List ℕ → Stream
stream bytes = stream_of 0 0 0 bytes

-- all of these entries, and then the end of source 0
abbrev pub whole : List Entry → Stream
whole entries = record { entries = entries ++ end ∷ []; refusal = None }

-- these entries alone, since the record of this number is refused
abbrev pub refused : List Entry → ℕ → RowWhy → Stream
refused entries number why = record { entries = entries; refusal = Some (bad_record number why) }

-- the bytes of U+FEFF
abbrev pub byte_order_mark : List ℕ
byte_order_mark = 239 ∷ 187 ∷ 191 ∷ []

-- a record of a tuple with this key
abbrev pub tuple_of_key : List ℕ → List ℕ
tuple_of_key key = codes "t,1,5," ++ key

-- a record of a mark with this key
abbrev pub mark_of_key : List ℕ → List ℕ
mark_of_key key = codes "m,1,," ++ key

-- a definitions file with one window that is accepted
abbrev pub one_window : List ℕ
one_window = codes "[[window]]\nkind = 'marks'\nfunc = 'sum'\n"

-- a definitions file with one window, of these keys and values
abbrev pub in_one_window : List ℕ → List ℕ
in_one_window fields = codes "window = [{" ++ fields ++ codes "}]\n"

-- a definitions file with so many elements in its array of windows, none of which is a table
abbrev pub with_windows : ℕ → List ℕ
with_windows count = codes "window = [" ++ flat_map (λ _. codes "0,") (range_with_len 0 count) ++ codes "]\n"
