-- How many steps a tuple, a mark or a move of the watermark takes at most in an engine on slices.
use Rattle.std.specs.Prelude.{◌≡◌, ◌+◌, ◌-◌, ◌*◌, ℕ, List, filter, length, sum_by}
use Rattle.std.specs.List.{enumerate_from, flat_map}
use Rattle.stream_base.specs.Kinds.{events_in}
use Rattle.stream_base.specs.Limits.{Definitions}
use Rattle.stream_base.specs.declared.def.Def.{Def}
use Rattle.stream_base.specs.declared.kept.Kept.{Kept}
use Rattle.stream_base.specs.Laws.{completions}
use Rattle.stream_base.specs.Model.Changes.{Moment, changes_between}
use Rattle.stream_base.specs.Model.Cuts.{has_cut}
use Rattle.slice_lists.specs.Runs.{parted_at}
use Rattle.partials.specs.Apart.{IsReachOver}
use Rattle.slice_lists.specs.Touched.{is_across, is_near}
use Rattle.slice_lists.specs.Slices.{joined}
use Rattle.agg_store.specs.Entered.{slices_near}
use Rattle.agg_store.specs.Stored.{Stored}
use Rattle.key_windows.specs.Calls.{slices_at}
use Rattle.key_parts.specs.Work.{change_work, fold_work, most_moved, row_work}
use Rattle.key_slicer.specs.Parts.{turns}

-- the most that a window takes for its changes by a tuple from one moment of a key to another, over a tree of this reach
abbrev pub turn_work : List ℕ → Moment → Moment → ℕ → ℕ × Def → ℕ
turn_work key old new reach w = change_work (w.1).kind reach * length (turns key old new w)

-- and all windows
abbrev pub turns_work : Definitions → List ℕ → Moment → Moment → ℕ → ℕ
turns_work d key old new reach = sum_by (turn_work key old new reach) (enumerate_from 0 d.windows)

-- the steps of the windows that count events: twice its count for each change of such a window from one moment of a key to another
abbrev pub counting_work : Definitions → List ℕ → Moment → Moment → ℕ
counting_work d key old new = sum_by (λ w. 2 * events_in (w.1).kind * length (turns key old new w)) (enumerate_from 0 d.windows)

-- the most that an entry takes which leads from one moment of a key to another, where the tree of the key has this reach and so many tuples lie in the slices that the entry enters or splits: what four folds take in a tree that the entry has made higher, and two more for each change; a step for each of those tuples; and the steps of the windows that count events
abbrev pub entry_work : Definitions → List ℕ → Moment → Moment → ℕ → ℕ → ℕ
entry_work d key old new reach tuples = 64 * (reach + 3) * (4 + 2 * length (changes_between d.windows key old new)) + tuples + counting_work d key old new

-- the most that it takes to put a tuple at a time into a store: what two folds take in a tree that it has made higher, and a step for each tuple of the slices that it is near to
abbrev pub enter_work : Definitions → ℕ → Stored → ℕ
enter_work d time s = 128 * (s.reach + 3) + length (joined (slices_near d.windows time s))

-- the most that it takes to let slices leave a store, by the store before and after it: one fold for each of them
abbrev pub leave_work : Stored → Stored → ℕ
leave_work before after = fold_work before.reach * (length before.slices - length after.slices)

-- the most that a tuple at a time takes over a tree of this reach, where these are the slices and the marks before it: those slices that it is near to it enters
abbrev pub put_over : Definitions → List ℕ → Moment → Moment → ℕ → List (List Kept) → List ℕ → ℕ → ℕ
put_over d key old new time slices marks reach =
    entry_work d key old new reach (length (joined (filter (is_near (has_cut d.windows marks) time) slices)))

-- the same by the store before it
abbrev pub put_work : Definitions → List ℕ → Moment → Moment → ℕ → Stored → ℕ
put_work d key old new time store = put_over d key old new time store.slices store.marks store.reach

-- how many slices have left after a mark at a time, of those that it made
abbrev pub slices_gone : ℕ → List (List Kept) → List (List Kept) → ℕ
slices_gone time before after = length (flat_map (parted_at time) before) - length after

-- the most that a mark at a time takes over a tree of this reach, where these are the slices before and after it: it splits those that lie across the time, and each slice that leaves adds one fold
abbrev pub mark_over : Definitions → List ℕ → Moment → Moment → ℕ → List (List Kept) → List (List Kept) → ℕ → ℕ
mark_over d key old new time before after reach =
    entry_work d key old new reach (length (joined (filter (is_across time) before))) + 64 * (reach + 3) * slices_gone time before after

-- the same by the store before and after it
abbrev pub mark_work : Definitions → List ℕ → Moment → Moment → ℕ → Stored → Stored → ℕ
mark_work d key old new time before after = mark_over d key old new time before.slices after.slices before.reach

-- a number is the most that a tuple at a time takes which leads from one moment of a key to another, by the slices of its unsettled tuples and its marks alone
abbrev pub bounds_put : (ℕ → ℕ → Type 0) → Definitions → List ℕ → Moment → Moment → ℕ → ℕ → Type 0
bounds_put bounded d key old new time most =
    (reach : ℕ) × IsReachOver bounded (length (slices_at d old)) reach × (most ≡ put_over d key old new time (slices_at d old) old.marks reach)

-- the same of a mark, by the slices of the unsettled tuples before and after it
abbrev pub bounds_mark : (ℕ → ℕ → Type 0) → Definitions → List ℕ → Moment → Moment → ℕ → ℕ → Type 0
bounds_mark bounded d key old new time most =
    (reach : ℕ) × IsReachOver bounded (length (slices_at d old)) reach × (most ≡ mark_over d key old new time (slices_at d old) (slices_at d new) reach)

-- for the window at a place, how many slices lie in the instances that a move from one watermark to another completes in a store
abbrev pub TakenUp : Type 0
TakenUp = Definitions → ℕ → Stored → ℕ → ℕ → ℕ

-- the most that a window takes on credit for a move of a key from one moment to a later watermark, in this store: ten steps for each slice that is taken up, and for each row that becomes complete what one takes in a window of its kind
abbrev pub moved_work : TakenUp → Definitions → List ℕ → Moment → ℕ → Stored → ℕ × Def → ℕ
moved_work taken_up d key old new store w = 10 * taken_up d w.0 store old.water new + row_work (w.1).kind store.reach * length (completions key old new w)

-- and all windows
abbrev pub moves_work : TakenUp → Definitions → List ℕ → Moment → ℕ → Stored → ℕ
moves_work taken_up d key old new store = sum_by (moved_work taken_up d key old new store) (enumerate_from 0 d.windows)

-- the most that a move of a key from one moment to another takes on credit, by the store before and after it: that of all windows, and one fold for each slice that leaves
abbrev pub move_work : TakenUp → Definitions → List ℕ → Moment → Moment → Stored → Stored → ℕ
move_work taken_up d key old new before after =
    moves_work taken_up d key old new.water before + 64 * (before.reach + 2) * (length before.slices - length after.slices)

-- the most that a window takes for a move of a key from one moment to a later watermark, whatever came before it, over a tree of this reach with so many slices: what a window of its kind takes for each slice, and for each row that becomes complete
abbrev pub walk_work : List ℕ → Moment → ℕ → ℕ → ℕ → ℕ × Def → ℕ
walk_work key old new slices reach w = most_moved (w.1).kind slices reach (length (completions key old new w))

-- and all windows
abbrev pub walks_work : Definitions → List ℕ → Moment → ℕ → ℕ → ℕ → ℕ
walks_work d key old new slices reach = sum_by (walk_work key old new slices reach) (enumerate_from 0 d.windows)

-- the most that a move of a key from one moment to another takes over a tree of this reach, where these are the slices before and after it: that of all windows, and one fold for each slice that leaves
abbrev pub move_over : Definitions → List ℕ → Moment → Moment → List (List Kept) → List (List Kept) → ℕ → ℕ
move_over d key old new before after reach =
    walks_work d key old new.water (length before) reach + 64 * (reach + 2) * (length before - length after)

-- a number is the most that a move takes from one moment of a key to another, by the rows and by the slices of the unsettled tuples before and after it alone
abbrev pub bounds_move : (ℕ → ℕ → Type 0) → Definitions → List ℕ → Moment → Moment → ℕ → Type 0
bounds_move bounded d key old new most =
    (reach : ℕ) × IsReachOver bounded (length (slices_at d old)) reach × (most ≡ move_over d key old new (slices_at d old) (slices_at d new) reach)

-- how many steps more a move from a watermark takes, by what each window has missed in this store: ten for each slice of the last instance that is complete
abbrev pub catch_up : (Definitions → ℕ → Stored → ℕ → ℕ) → Definitions → Stored → ℕ → ℕ
catch_up missed d store water = sum_by (λ w. 10 * missed d w.0 store water) (enumerate_from 0 d.windows)
