-- The journals of the worked examples, and what stands under their entries.
use Rattle.std.specs.Prelude.{◌++◌, ℕ, ℤ, pos, negsuc, Bool, List, [], ◌∷◌, codes}
use Rattle.std.specs.List.{list_all}
use Rattle.stream_base.specs.Limits.{Definitions}
use Rattle.stream_base.specs.Kinds.{is_kind_within}
use Rattle.stream_base.specs.declared.change.Change.{Change}
use Rattle.stream_base.specs.declared.def.Def.{Def}
use Rattle.stream_base.specs.declared.entry.Entry.{Entry}
use Rattle.stream_base.specs.declared.former.Former.{Former}
use Rattle.stream_base.specs.declared.func.Func.{Func}
use Rattle.stream_base.specs.declared.func.Func.TheVariants.{Count, Sum, Mean, First, Last}
use Rattle.stream_base.specs.declared.kept.Kept.{Kept}
use Rattle.stream_base.specs.declared.kind.Kind.{Kind}
use Rattle.stream_base.specs.declared.kind.Kind.TheVariants.{Tumbling, Sliding, Session, Marks, Events}
use Rattle.stream_base.specs.declared.row.Row.{Row}
use Rattle.stream_base.specs.declared.shown.Shown.TheVariants.{Whole, Ratio}
use Rattle.stream_base.specs.declared.what.What.{What}
use Rattle.stream_base.specs.declared.what.What.TheVariants.{Tuple, Mark, Water, Idle, End}
use Rattle.stream_base.specs.Model.Changes.{changes_after, moment_of}
use Rattle.stream_base.specs.Model.Slices.{runs_of, unsettled}
use Rattle.stream_base.specs.Model.Watermark.{water_of}

-- definitions with a lateness, and no made watermarks
abbrev pub with_lateness : ℕ → List Def → Definitions
with_lateness lateness windows = record { windows = windows; lateness = lateness; every = 0; disorder = 0 }

abbrev pub window : Kind → Func → Def
window kind func = record { kind = kind; func = func }

-- all of the kinds are within their limits
abbrev pub are_within : List Kind → Bool
are_within kinds = list_all is_kind_within kinds

-- the entries of one source, number 0
abbrev pub tuple : ℕ → ℤ → List ℕ → Entry
tuple time value key = record { source = 0; what = Tuple key time value }

abbrev pub mark : ℕ → List ℕ → Entry
mark time key = record { source = 0; what = Mark key time }

abbrev pub water : ℕ → Entry
water time = record { source = 0; what = Water time }

abbrev pub idle : Entry
idle = record { source = 0; what = Idle }

abbrev pub end : Entry
end = record { source = 0; what = End }

-- what a source says, by its number
abbrev pub from : ℕ → What → Entry
from source what = record { source = source; what = what }

-- the keys of the examples
abbrev pub a : List ℕ
a = codes "a"

abbrev pub b : List ℕ
b = codes "b"

abbrev pub alice : List ℕ
alice = codes "alice"

-- the values of the examples of functions
abbrev pub six_values : List ℤ
six_values = pos 2 ∷ pos 2 ∷ negsuc 0 ∷ pos 0 ∷ pos 5 ∷ pos 5 ∷ []

abbrev pub extremes : List ℤ
extremes = negsuc 9223372036854775807 ∷ pos 9223372036854775807 ∷ []

-- a kept tuple
abbrev pub kept : ℕ → ℕ → ℤ → Kept
kept position time value = record { position = position; time = time; value = value }

-- a row that shows a whole number
abbrev pub row : ℕ → ℕ → ℕ → ℕ → ℤ → List ℕ → Row
row window low high number value key =
    record { window = window; key = key; low = low; high = high; number = number; shown = Whole value }

-- a row that shows a mean
abbrev pub mean_row : ℕ → ℕ → ℕ → ℕ → ℤ → List ℕ → Row
mean_row window low high number sum key =
    record { window = window; key = key; low = low; high = high; number = number; shown = Ratio sum number }

-- the number and whole number that stood
abbrev pub former : ℕ → ℤ → Former
former number value = record { number = number; shown = Whole value }

-- the number and mean that stood
abbrev pub mean_former : ℕ → ℤ → Former
mean_former number sum = record { number = number; shown = Ratio sum number }

-- five windows, the lists of two sources, one with a mark, and the rows that stand at their end
abbrev pub five_windows : Definitions
five_windows = with_lateness 0
    (window (Tumbling 10) Sum ∷ window (Sliding 4 2) Count ∷ window (Session 5) Mean ∷ window Marks First ∷ window (Events 2) Last ∷ [])

abbrev pub two_lists : List (List Entry)
two_lists =
    (tuple 1 (pos 1) a ∷ mark 5 a ∷ tuple 7 (pos 8) a ∷ water 30 ∷ end ∷ [])
    ∷ (from 1 (Tuple a 7 (pos 2)) ∷ from 1 (Tuple b 2 (pos 4)) ∷ from 1 End ∷ []) ∷ []

abbrev pub fourteen_rows : List Row
fourteen_rows =
    row 0 0 10 3 (pos 11) a ∷ row 1 0 4 1 (pos 1) a ∷ row 1 4 8 2 (pos 2) a ∷ row 1 6 10 2 (pos 2) a
    ∷ mean_row 2 1 6 1 (pos 1) a ∷ mean_row 2 7 12 2 (pos 10) a
    ∷ row 3 0 5 1 (pos 1) a ∷ row 3 5 4611686018427387904 2 (pos 8) a ∷ row 4 0 2 2 (pos 8) a
    ∷ row 0 0 10 1 (pos 4) b ∷ row 1 0 4 1 (pos 1) b ∷ row 1 2 6 1 (pos 1) b
    ∷ mean_row 2 2 7 1 (pos 4) b ∷ row 3 0 4611686018427387904 1 (pos 4) b ∷ []

-- a source with an entry of each sort
abbrev pub one_source : List Entry
one_source = tuple 1 (pos 1) a ∷ mark 3 b ∷ water 5 ∷ idle ∷ end ∷ []

abbrev pub one_source_by_shard : List (List Entry)
one_source_by_shard =
    (mark 3 b ∷ water 5 ∷ idle ∷ end ∷ []) ∷ (tuple 1 (pos 1) a ∷ water 5 ∷ idle ∷ end ∷ []) ∷ []

-- a journal with an update and a drop
abbrev pub updated_journal : List Entry
updated_journal = tuple 1 (pos 1) a ∷ water 10 ∷ tuple 5 (pos 2) a ∷ tuple 4 (pos 3) a ∷ end ∷ []

-- the journals of two shards, the first with a retraction and a drop
abbrev pub two_shards : List (List Entry)
two_shards =
    (tuple 0 (pos 1) b ∷ water 5 ∷ tuple 3 (pos 2) b ∷ tuple 2 (pos 4) b ∷ end ∷ [])
    ∷ (mark 6 a ∷ water 5 ∷ idle ∷ end ∷ []) ∷ []

-- a journal of two sources, in which one is idle twice, and then both are
abbrev pub two_sources : List Entry
two_sources =
    from 0 (Tuple a 5 (pos 1)) ∷ from 0 (Water 20) ∷ from 1 Idle ∷ from 1 (Water 3) ∷ from 1 (Tuple a 15 (pos 2))
    ∷ from 1 (Tuple a 25 (pos 4)) ∷ from 1 Idle ∷ from 0 Idle ∷ from 0 (Water 30) ∷ from 0 End ∷ from 1 End ∷ []

-- the changes under each entry of a journal of so many sources, behind the entries before
abbrev pub changes_behind : ℕ → Definitions → List Entry → List Entry → List (List Change)
changes_behind sources d before [] = []
changes_behind sources d before (e ∷ es) =
    changes_after d sources before e ∷ changes_behind sources d (before ++ e ∷ []) es

-- the changes under each entry of a journal of so many sources
abbrev pub changes_of : ℕ → Definitions → List Entry → List (List Change)
changes_of sources d journal = changes_behind sources d [] journal

-- the changes under each entry of a journal of one source
abbrev pub changes_in : Definitions → List Entry → List (List Change)
changes_in d journal = changes_of 1 d journal

-- the watermark after each entry of a journal of so many sources, behind the entries before
abbrev pub waters_behind : ℕ → List Entry → List Entry → List ℕ
waters_behind sources before [] = []
waters_behind sources before (e ∷ es) =
    water_of sources (before ++ e ∷ []) ∷ waters_behind sources (before ++ e ∷ []) es

-- the watermark after each entry of a journal of so many sources
abbrev pub waters_in : ℕ → List Entry → List ℕ
waters_in sources journal = waters_behind sources [] journal

-- the slices of a key's tuples that aren't settled after a journal of one source
abbrev pub open_slices : Definitions → List ℕ → List Entry → List (List Kept)
open_slices d key journal =
    let m = moment_of d 1 key journal in
    runs_of d.windows m.marks (unsettled d m)
