-- How the instances of an events window are told, and of which windows and keys that is said.
use Rattle.std.specs.Prelude.{◌/◌, ℕ, List, map}
use Rattle.stream_base.specs.declared.change.Change.{Change}
use Rattle.stream_base.specs.declared.def.Def.{Def}
use Rattle.stream_base.specs.declared.kept.Kept.{Kept}
use Rattle.stream_base.specs.declared.row.Row.{Row}
use Rattle.stream_base.specs.Laws.{TimesDoNotFall}
use Rattle.stream_base.specs.Model.Changes.{Moment, row_of}
use Rattle.stream_base.specs.Model.Journal.{put_in_order}
use Rattle.stream_base.specs.Model.Moments.{moment}
use Rattle.stream_base.specs.Model.Windows.{Instance, ranks}
use Rattle.count_shift.specs.Counting.{IsEvents, again_behind, count_of, new_behind, numbers, ranks_behind, told_by_move, told_by_put, upper}
use Rattle.count_shift.specs.declared.events_window.EventsWindow.{EventsWindow}

-- the row of the i-th instance
abbrev pub row_behind : EventsWindow → List Kept → ℕ → Row
row_behind w items i = row_of w.window w.key.now w.func (ranks_behind w.gone w.count items i)

-- the instances from one up to another, told as new
abbrev pub new_in : EventsWindow → List Kept → ℕ → ℕ → List Change
new_in w items from to = map (new_behind w.gone w.window w.key.now w.func w.count items) (numbers from to)

-- and told again, with what they were of the tuples before
abbrev pub again_in : EventsWindow → List Kept → List Kept → ℕ → ℕ → List Change
again_in w before items from to =
    map (again_behind w.gone w.window w.key.now w.func w.count before items) (numbers from to)

-- the instances that the tuples at or before a watermark fill
abbrev pub filled_by : ℕ → List Kept → ℕ → List Instance
filled_by count kept water = map (ranks count kept) (numbers 0 (upper kept water / count))

-- what a tuple changes of a window at a moment
abbrev pub put_told : ℕ × Def → List ℕ → Moment → Kept → List Change
put_told (window, def) key m x = told_by_put window key def.func (count_of def.kind) m.kept x m.water

-- what a move of the watermark completes of it
abbrev pub move_told : ℕ × Def → List ℕ → Moment → ℕ → List Change
move_told (window, def) key m new = told_by_move window key def.func (count_of def.kind) m.kept m.water new

-- of each events window, each key at a moment with tuples in order, and the same with each tuple more
abbrev pub WhereTupleComes : (ℕ × Def → List ℕ → Moment → Moment → Kept → Type 0) → Type 0
WhereTupleComes Holds =
    (window : ℕ) (def : Def) (key : List ℕ) (kept : List Kept) (marks : List ℕ) (x : Kept) (water : ℕ)
    → IsEvents def.kind → TimesDoNotFall kept
    → Holds (window, def) key (moment kept marks water) (moment (put_in_order kept x) marks water) x

-- of each events window, each key at a moment with tuples in order, and each other watermark
abbrev pub WhereWaterMoves : (ℕ × Def → List ℕ → Moment → ℕ → Type 0) → Type 0
WhereWaterMoves Holds =
    (window : ℕ) (def : Def) (key : List ℕ) (kept : List Kept) (marks : List ℕ) (old new : ℕ)
    → IsEvents def.kind → TimesDoNotFall kept → Holds (window, def) key (moment kept marks old) new
