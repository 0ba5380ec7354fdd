-- The words of the laws about journals, windows and changes.
use Rattle.std.specs.Prelude.{◌≡◌, ◌≢◌, ◌≤◌, ◌<◌, ◌+◌, ◌*◌, ◌++◌, ◌&&◌, ℕ, Bool, true, false, List, [], ◌∷◌, length, take, map, filter, Option, None, Some, slice_get, if◌then◌else◌, nat_lt, nat_le, All}
use Rattle.std.specs.Cmp.Lexicographic.{slice_cmp}
use Rattle.std.specs.List.{Contains, enumerate_from, flat_map, range_with_len}
use Rattle.std.specs.List.Sorted.{IsNonDecreasingBy, IsStrictlySortedBy}
use Rattle.std.specs.Ordering.{nat_cmp, ordering_then}
use Rattle.std.specs.declared.cmp.Ordering.{Ordering}
use Rattle.stream_base.specs.declared.change.Change.{Change}
use Rattle.stream_base.specs.declared.change.Change.TheVariants.{Gone, New, Again, Dropped}
use Rattle.stream_base.specs.declared.def.Def.{Def}
use Rattle.stream_base.specs.declared.entry.Entry.{Entry}
use Rattle.stream_base.specs.declared.former.Former.{Former}
use Rattle.stream_base.specs.declared.kept.Kept.{Kept}
use Rattle.stream_base.specs.declared.row.Row.{Row}
use Rattle.stream_base.specs.Limits.{Definitions}
use Rattle.stream_base.specs.Model.Changes.{Moment, former_of, moment_of, row_of, standing_at}
use Rattle.stream_base.specs.Model.Journal.{keys_of}
use Rattle.stream_base.specs.Model.Routes.{routed}
use Rattle.stream_base.specs.Model.Watermark.{source_water, water_of}
use Rattle.stream_base.specs.Model.What.{is_late, mark_in, tuple_in}
use Rattle.stream_base.specs.Model.Windows.{Instance, instances_of}

-- the watermarks of the sources, in their order
abbrev pub waters_of : ℕ → List Entry → List ℕ
waters_of sources journal = map (λ source. source_water source journal) (range_with_len 0 sources)

-- the tuple of a key that an entry behind a journal is, if it is one and not late
abbrev pub accepted_tuple : ℕ → ℕ → List ℕ → List Entry → Entry → Option Kept
accepted_tuple lateness sources key before e =
    if is_late lateness (water_of sources before) e.what then None else tuple_in key (length before) e.what

-- the time of the mark of a key that an entry behind a journal is, if it is one and not late
abbrev pub accepted_mark : ℕ → ℕ → List ℕ → List Entry → Entry → Option ℕ
accepted_mark lateness sources key before e =
    if is_late lateness (water_of sources before) e.what then None else mark_in key e.what

-- the journal has the tuple of the key at its position, and it wasn't late at the watermark of the entries before it
pub record IsAcceptedTuple (lateness sources : ℕ) (key : List ℕ) (journal : List Entry) (x : Kept) : Type 0 where
  pub entry : Entry
  pub stands : slice_get journal x.position ≡ Some entry
  pub says : tuple_in key x.position entry.what ≡ Some x
  pub in_time : is_late lateness (water_of sources (take x.position journal)) entry.what ≡ false

-- the journal has a mark of the key at a time, and it wasn't late at the watermark of the entries before it
pub record IsAcceptedMark (lateness sources : ℕ) (key : List ℕ) (journal : List Entry) (time : ℕ) : Type 0 where
  pub position : ℕ
  pub entry : Entry
  pub stands : slice_get journal position ≡ Some entry
  pub says : mark_in key entry.what ≡ Some time
  pub in_time : is_late lateness (water_of sources (take position journal)) entry.what ≡ false

-- an entry behind a journal, with its position, unless it is late
abbrev pub on_time_entry : ℕ → ℕ → List Entry → Entry → List (ℕ × Entry)
on_time_entry lateness sources before e =
    if is_late lateness (water_of sources before) e.what then [] else (length before, e) ∷ []

-- two instances compared by their starts
abbrev pub by_start : Instance → Instance → Ordering
by_start i j = nat_cmp i.low j.low

-- the starts of the instances rise, so that no two start alike
abbrev pub RiseByStart : List Instance → Type 0
RiseByStart instances = IsStrictlySortedBy by_start instances

-- an instance becomes complete where its bound lies after the old watermark and at or before the new one
abbrev pub becomes_complete : ℕ → ℕ → Instance → Bool
becomes_complete old new i = nat_lt old i.bound && nat_le i.bound new

-- a window's instances that become complete by the watermark alone, as new
abbrev pub completions : List ℕ → Moment → ℕ → ℕ × Def → List Change
completions key m new (window, def) =
    map (λ i. New (row_of window key def.func i)) (filter (becomes_complete m.water new) (instances_of def.kind m.kept m.marks))

-- two tuples compared by time, and then by position
abbrev pub by_time_and_position : Kept → Kept → Ordering
by_time_and_position x y = ordering_then (nat_cmp x.time y.time) (nat_cmp x.position y.position)

-- the tuples are in event order: by time, then by position, each once
abbrev pub AreInEventOrder : List Kept → Type 0
AreInEventOrder kept = IsStrictlySortedBy by_time_and_position kept

-- the times of the tuples don't fall
abbrev pub TimesDoNotFall : List Kept → Type 0
TimesDoNotFall kept = IsNonDecreasingBy (λ x. x.time) kept

-- one of the instances starts and ends so
abbrev pub HasInstance : List Instance → ℕ → ℕ → Type 0
HasInstance instances low high = (i : Instance) × Contains instances i × (i.low ≡ low) × (i.high ≡ high)

-- the positions of the tuples that an instance selects
abbrev pub positions_of : Instance → List ℕ
positions_of i = map (λ x. x.position) i.chosen

-- the row is that of an instance that stood, and none stands now with its start and end
pub record IsRetracted (windows : List Def) (key : List ℕ) (old new : Moment) (row : Row) : Type 0 where
  pub def : Def
  pub of_window : slice_get windows row.window ≡ Some def
  pub before : Instance
  pub stood : Contains (standing_at def old) before
  pub stands_no_longer : ¬ HasInstance (standing_at def new) before.low before.high
  pub showed : row ≡ row_of row.window key def.func before

-- the row is that of an instance that stands, where none stood with its start and end
pub record IsEmitted (windows : List Def) (key : List ℕ) (old new : Moment) (row : Row) : Type 0 where
  pub def : Def
  pub of_window : slice_get windows row.window ≡ Some def
  pub now : Instance
  pub stands : Contains (standing_at def new) now
  pub did_not_stand : ¬ HasInstance (standing_at def old) now.low now.high
  pub shows : row ≡ row_of row.window key def.func now

-- the row is that of an instance that stands, where one stood with its start and end, selected other positions, and showed what is told
pub record IsUpdated (windows : List Def) (key : List ℕ) (old new : Moment) (row : Row) (former : Former) : Type 0 where
  pub def : Def
  pub of_window : slice_get windows row.window ≡ Some def
  pub before : Instance
  pub stood : Contains (standing_at def old) before
  pub now : Instance
  pub stands : Contains (standing_at def new) now
  pub same_start : before.low ≡ now.low
  pub same_end : before.high ≡ now.high
  pub selects_others : positions_of before ≢ positions_of now
  pub shows : row ≡ row_of row.window key def.func now
  pub showed : former ≡ former_of def.func before

-- the change is one of a key's from one moment to the next
abbrev pub IsChangeOf : List Def → List ℕ → Moment → Moment → Change → Type 0
IsChangeOf windows key old new (Gone row) = IsRetracted windows key old new row
IsChangeOf windows key old new (New row) = IsEmitted windows key old new row
IsChangeOf windows key old new (Again row former) = IsUpdated windows key old new row former
IsChangeOf windows key old new Dropped = ⊥

-- the change is one of some key's, from before an entry to behind it
abbrev pub IsCausedBy : Definitions → ℕ → List Entry → Entry → Change → Type 0
IsCausedBy d sources before e change =
    (key : List ℕ) × IsChangeOf d.windows key (moment_of d sources key before) (moment_of d sources key (before ++ e ∷ [])) change

-- where a change stands in a list: its key, whether it is an emission or update, its window, and its start and end
pub record Place : Type 0 where
  pub key : List ℕ
  pub comes : ℕ
  pub window : ℕ
  pub low : ℕ
  pub high : ℕ

abbrev pub place_of : Change → Place
place_of (Gone row) = record { key = row.key; comes = 0; window = row.window; low = row.low; high = row.high }
place_of (New row) = record { key = row.key; comes = 1; window = row.window; low = row.low; high = row.high }
place_of (Again row former) = record { key = row.key; comes = 1; window = row.window; low = row.low; high = row.high }
place_of Dropped = record { key = []; comes = 0; window = 0; low = 0; high = 0 }

-- changes compared by the bytes of their keys, then retractions before emissions and updates, then by window, start and end
abbrev pub by_place : Change → Change → Ordering
by_place c d =
    let p = place_of c in
    let q = place_of d in
    ordering_then (slice_cmp nat_cmp p.key q.key)
    (ordering_then (nat_cmp p.comes q.comes) (ordering_then (nat_cmp p.window q.window) (ordering_then (nat_cmp p.low q.low) (nat_cmp p.high q.high))))

-- the changes are in their order, each once
abbrev pub AreInOrder : List Change → Type 0
AreInOrder changes = IsStrictlySortedBy by_place changes

-- the completions of all keys where an entry behind a journal moves the watermark alone
abbrev pub completions_after : Definitions → ℕ → List Entry → Entry → List Change
completions_after d sources before e =
    flat_map (λ key. flat_map (completions key (moment_of d sources key before) (water_of sources (before ++ e ∷ []))) (enumerate_from 0 d.windows)) (keys_of before)

-- the multiple of the slide is the start of an interval that holds the time
abbrev pub HoldsTime : ℕ → ℕ → ℕ → ℕ → Type 0
HoldsTime length slide time low = (k : ℕ) × (low ≡ k * slide) × (low ≤ time) × (time < low + length)

-- the multiple of the slide is the start of an interval that holds a kept tuple
abbrev pub HoldsKept : ℕ → ℕ → List Kept → ℕ → Type 0
HoldsKept length slide kept low =
    (k : ℕ) × (x : Kept) × Contains kept x × (low ≡ k * slide) × (low ≤ x.time) × (x.time < low + length)

-- what the instances select
abbrev pub selections_of : List Instance → List (List Kept)
selections_of instances = map (λ i. i.chosen) instances

-- pieces of a list that lie between cuts: none is empty, there is no cut between neighbours in one, and a cut between the last of one and the first of the next
pub record ArePiecesBetween (cut : Kept → Kept → Bool) (pieces : List (List Kept)) : Type 0 where
  pub nonempty : All (λ piece. 1 ≤ length piece) pieces
  pub uncut : (before : List (List Kept)) (front : List Kept) (a b : Kept) (back : List Kept) (after : List (List Kept)) → pieces ≡ before ++ (front ++ a ∷ b ∷ back) ∷ after → cut a b ≡ false
  pub apart : (before : List (List Kept)) (front : List Kept) (a b : Kept) (back : List Kept) (after : List (List Kept)) → pieces ≡ before ++ (front ++ a ∷ []) ∷ (b ∷ back) ∷ after → cut a b ≡ true

-- the row is that of an instance of its window and key that stands after a journal
pub record IsStandingRow (d : Definitions) (sources : ℕ) (journal : List Entry) (row : Row) : Type 0 where
  pub def : Def
  pub of_window : slice_get d.windows row.window ≡ Some def
  pub instance : Instance
  pub stands : Contains (standing_at def (moment_of d sources row.key journal)) instance
  pub shows : row ≡ row_of row.window row.key def.func instance

-- rows compared by the bytes of their keys, then by window, start and end
abbrev pub by_row : Row → Row → Ordering
by_row r s =
    ordering_then (slice_cmp nat_cmp r.key s.key)
    (ordering_then (nat_cmp r.window s.window) (ordering_then (nat_cmp r.low s.low) (nat_cmp r.high s.high)))

-- the journals of one source: in each shard its routed entries
abbrev pub journals_of_one : ℕ → List Entry → List (List Entry)
journals_of_one shards entries = map (λ k. routed shards k entries) (range_with_len 0 shards)
