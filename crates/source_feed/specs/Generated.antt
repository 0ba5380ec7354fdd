-- The generated input: tuples whose parts are drawn by a generator of numbers, dealt to sources in turn, with marks and watermarks.
use Rattle.std.specs.Prelude.{◌≤◌, ◌<◌, ◌==◌, ◌+◌, ◌-◌, ◌*◌, ◌/◌, ◌%◌, ◌^◌, ◌++◌, ◌-ℤ◌, ℕ, zero, suc, ℤ, pos, max, bit_xor, List, [], ◌∷◌, length, map, filter, fold, None, codes, decimal, if◌then◌else◌}
use Rattle.std.specs.List.{range_with_len}
use Rattle.stream_base.specs.Limits.{Definitions, definitions_of}
use Rattle.stream_base.specs.declared.def.Def.{Def}
use Rattle.stream_base.specs.declared.entry.Entry.{Entry}
use Rattle.stream_base.specs.declared.func.Func.TheVariants.{Sum, Trace, Count, First, Last}
use Rattle.stream_base.specs.declared.kind.Kind.TheVariants.{Tumbling, Sliding, Session, Marks, Events}
use Rattle.stream_base.specs.declared.what.What.{What}
use Rattle.stream_base.specs.declared.what.What.TheVariants.{Tuple, Mark, Water, End}
use Rattle.source_feed.specs.Events.{is_made}
use Rattle.source_feed.specs.Stream.{Stream, entry_of}
use Rattle.source_feed.specs.declared.made_feed.TheConstants.{MADE_ROWS_MAX}
use Rattle.source_feed.specs.declared.made_input.TheConstants.{MADE_LATENESS, MADE_EVERY, MADE_DISORDER}
use Rattle.source_feed.specs.declared.made_tuple.TheConstants.{MULTIPLIER, INCREMENT}

-- the state of the generator behind a state
abbrev pub next_state : ℕ → ℕ
next_state state = (MULTIPLIER * state + INCREMENT) % 2 ^ 64

-- the state of the generator after so many steps from a seed
unfoldable pub state_after : ℕ → ℕ → ℕ
state_after seed zero = seed
state_after seed (suc steps) = next_state (state_after seed steps)

-- the number that a state draws
abbrev pub drawn_from : ℕ → ℕ
drawn_from state = state / 2 ^ 33

-- the number that is drawn for the tuple of an index
abbrev pub drawn_for : ℕ → ℕ → ℕ
drawn_for seed index = drawn_from (state_after seed (index + 1))

-- the place of an index among all: each eight of them is shuffled in itself
abbrev pub place_of : ℕ → ℕ
place_of index = bit_xor index (index / 8 % 8)

-- the parts of a tuple, by its index and the number that is drawn for it: its time, its value from -1000 to 1000, and its key
abbrev pub time_by : ℕ → ℕ → ℕ
time_by index drawn = 16 * place_of index + drawn % 16

abbrev pub value_by : ℕ → ℤ
value_by drawn = pos (drawn / 16 % 2001) -ℤ pos 1000

abbrev pub key_by : ℕ → List ℕ
key_by drawn = codes "k" ++ decimal (drawn / 32768 % 100)

-- the time of the tuple of an index
abbrev pub time_at : ℕ → ℕ → ℕ
time_at seed index = time_by index (drawn_for seed index)

-- the tuple of an index
abbrev pub tuple_at : ℕ → ℕ → What
tuple_at seed index = Tuple (key_by (drawn_for seed index)) (time_at seed index) (value_by (drawn_for seed index))

-- each sixty-fourth tuple is followed by a mark of its key and time
abbrev pub mark_at : ℕ → ℕ → List What
mark_at seed index =
    if index % 64 == 63 then Mark (key_by (drawn_for seed index)) (time_at seed index) ∷ [] else []

-- the greatest time of the tuples of these indices, and 0 where there is none
abbrev pub greatest_at : ℕ → List ℕ → ℕ
greatest_at seed indices = fold (λ greatest index. max greatest (time_at seed index)) 0 indices

-- the watermark that a source makes after its first tuples, whose indices these are, if it makes one: after each fiftieth, behind the greatest time so far
abbrev pub water_at : ℕ → List ℕ → List What
water_at seed indices =
    if is_made MADE_EVERY (length indices) then Water (greatest_at seed indices - MADE_DISORDER) ∷ [] else []

-- what a source tells of one tuple behind others: the tuple, its mark, and the watermark that is then made
abbrev pub told_at : ℕ → List ℕ → ℕ → List What
told_at seed before index = tuple_at seed index ∷ (mark_at seed index ++ water_at seed (before ++ index ∷ []))

-- what a source tells of tuples behind others
unfoldable pub told_of_indices : ℕ → List ℕ → List ℕ → List What
told_of_indices seed before [] = []
told_of_indices seed before (index ∷ later) =
    told_at seed before index ++ told_of_indices seed (before ++ index ∷ []) later

-- the indices that are dealt to a source, of so many from this one on: sources take turns
abbrev pub dealt : ℕ → ℕ → ℕ → ℕ → List ℕ
dealt sources source from count = filter (λ index. index % sources == source) (range_with_len from count)

-- all that a source tells: its tuples in the order of their indices, each with what comes after it, and its end
abbrev pub made_events : ℕ → ℕ → ℕ → ℕ → List What
made_events seed rows sources source = told_of_indices seed [] (dealt sources source 0 rows) ++ End ∷ []

-- the entries of a source
abbrev pub made_entries : ℕ → ℕ → ℕ → ℕ → List Entry
made_entries seed rows sources source = map (entry_of source) (made_events seed rows sources source)

-- the entries of all sources, in their order
abbrev pub made_sources : ℕ → ℕ → ℕ → List (List Entry)
made_sources seed rows sources = map (made_entries seed rows sources) (range_with_len 0 sources)

-- an input of so many tuples is generated for so many sources, and this is the number of one of them
pub record IsMadeSource (rows sources source : ℕ) : Type 0 where
  pub some_row : 1 ≤ rows
  pub few_rows : rows ≤ MADE_ROWS_MAX
  pub some_source : 1 ≤ sources
  pub few_sources : sources ≤ 16
  pub own : source < sources

-- the stream of a source, which no refusal ends
abbrev pub made_stream : ℕ → ℕ → ℕ → ℕ → Stream
made_stream seed rows sources source =
    record { entries = made_entries seed rows sources source; refusal = None }

-- the definitions: the windows, the allowed lateness, and how sources make watermarks
abbrev pub made_windows : List Def
made_windows =
    record { kind = Tumbling 64; func = Sum }
    ∷ record { kind = Sliding 128 32; func = Trace }
    ∷ record { kind = Session 40; func = Count }
    ∷ record { kind = Marks; func = First }
    ∷ record { kind = Events 10; func = Last }
    ∷ []

abbrev pub made_definitions : Definitions
made_definitions = definitions_of made_windows MADE_LATENESS MADE_EVERY MADE_DISORDER
