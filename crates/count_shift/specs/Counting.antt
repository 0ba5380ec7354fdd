-- Windows of so many tuples: how far the watermark has come, and what one tuple changes.
use Rattle.std.specs.Prelude.{◌≢◌, ◌<◌, ◌+◌, ◌-◌, ◌*◌, ◌/◌, ◌++◌, ℕ, List, length, take, drop, map, All, AllPairs, count_by, nat_le, if◌then◌else◌, slice_get}
use Rattle.std.specs.List.{range_with_len}
use Rattle.std.specs.Option.{option_map_or}
use Rattle.stream_base.specs.declared.change.Change.{Change}
use Rattle.stream_base.specs.declared.change.Change.TheVariants.{New, Again}
use Rattle.stream_base.specs.declared.def.Def.{Def}
use Rattle.stream_base.specs.declared.func.Func.{Func}
use Rattle.stream_base.specs.declared.kept.Kept.{Kept}
use Rattle.stream_base.specs.declared.kind.Kind.{Kind}
use Rattle.stream_base.specs.declared.kind.Kind.TheVariants.{Events}
use Rattle.stream_base.specs.declared.limits.TheConstants.{FINAL}
use Rattle.stream_base.specs.Kinds.{IsKindWithin}
use Rattle.stream_base.specs.Model.Changes.{row_of, former_of}
use Rattle.stream_base.specs.Model.Journal.{put_in_order}
use Rattle.stream_base.specs.Model.Windows.{Instance, last_time, ranks}

-- an instance may select so many tuples
abbrev pub IsCount : ℕ → Type 0
IsCount count = IsKindWithin (Events count)

-- the kind is an events window, with a count within its limits
abbrev pub IsEvents : Kind → Type 0
IsEvents (Events count) = IsCount count
IsEvents other = ⊥

-- how many tuples an instance of an events window selects
abbrev pub count_of : Kind → ℕ
count_of (Events count) = count
count_of other = 0

-- an events window of this count and function
abbrev pub events : ℕ → Func → Def
events count func = record { kind = Events count; func = func }

-- how many of the tuples have a time at or before this one
abbrev pub upper : List Kept → ℕ → ℕ
upper kept time = count_by (λ x. nat_le x.time time) kept

-- no two of the tuples have the same position
abbrev pub HaveOwnPositions : List Kept → Type 0
HaveOwnPositions kept = AllPairs (λ x y. x.position ≢ y.position) kept

-- a tuple at this position comes behind all of them in the journal, and each of them has a position of its own
pub record IsNextPosition (kept : List Kept) (position : ℕ) : Type 0 where
  pub own : HaveOwnPositions kept
  pub newest : All (λ x. x.position < position) kept

-- how many tuples have a time at or before the watermark when one more has come
abbrev pub upper_after : List Kept → ℕ → ℕ → ℕ
upper_after kept time water = upper kept water + (if nat_le time water then 1 else 0)

-- how many instances a tuple at a time changes: those that stand behind it, from the one that takes it on
abbrev pub put_changes : ℕ → List Kept → ℕ → ℕ → ℕ
put_changes count kept time water = upper_after kept time water / count - upper kept time / count

-- how many instances a move of the watermark completes
abbrev pub move_changes : ℕ → List Kept → ℕ → ℕ → ℕ
move_changes count kept old new = upper kept new / count - upper kept old / count

-- the i-th instance of so many tuples, told as new
abbrev pub new_of : ℕ → List ℕ → Func → ℕ → List Kept → ℕ → Change
new_of window key func count kept i = New (row_of window key func (ranks count kept i))

-- and told again, with what it was of the tuples before
abbrev pub again_of : ℕ → List ℕ → Func → ℕ → List Kept → List Kept → ℕ → Change
again_of window key func count before kept i =
    Again (row_of window key func (ranks count kept i)) (former_of func (ranks count before i))

-- the i-th run of so many tuples, where so many others that have left come before all of them
abbrev pub ranks_behind : ℕ → ℕ → List Kept → ℕ → Instance
ranks_behind gone count kept i =
    let run = take count (drop (i * count) kept) in
    record { low = gone + i * count; high = gone + (i + 1) * count; bound = last_time run; chosen = run }

-- it is told as new
abbrev pub new_behind : ℕ → ℕ → List ℕ → Func → ℕ → List Kept → ℕ → Change
new_behind gone window key func count kept i = New (row_of window key func (ranks_behind gone count kept i))

-- and told again, with what it was of the tuples before
abbrev pub again_behind : ℕ → ℕ → List ℕ → Func → ℕ → List Kept → List Kept → ℕ → Change
again_behind gone window key func count before kept i =
    Again (row_of window key func (ranks_behind gone count kept i)) (former_of func (ranks count before i))

-- the numbers from one up to another, which is not among them
abbrev pub numbers : ℕ → ℕ → List ℕ
numbers from to = range_with_len from (to - from)

-- what a tuple changes: the instances that stood from its rank on are told again, and those that come to stand as new
abbrev pub told_by_put : ℕ → List ℕ → Func → ℕ → List Kept → Kept → ℕ → List Change
told_by_put window key func count kept x water =
    let now = put_in_order kept x in
    let stood = upper kept water / count in
    map (again_of window key func count kept now) (numbers (upper kept x.time / count) stood)
    ++ map (new_of window key func count now) (numbers stood (upper_after kept x.time water / count))

-- what a move of the watermark completes
abbrev pub told_by_move : ℕ → List ℕ → Func → ℕ → List Kept → ℕ → ℕ → List Change
told_by_move window key func count kept old new =
    map (new_of window key func count kept) (numbers (upper kept old / count) (upper kept new / count))

-- the time of the tuple that fills the next instance behind those that stand, and the final time where there are too few tuples
abbrev pub next_filled : ℕ → List Kept → ℕ → ℕ
next_filled count kept water =
    option_map_or (λ x. x.time) (slice_get kept (upper kept water / count * count + count - 1)) FINAL

-- how many of the tuples have a time behind this one
abbrev pub later : List Kept → ℕ → ℕ
later kept time = length kept - upper kept time
