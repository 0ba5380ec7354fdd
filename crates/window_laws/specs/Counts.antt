-- What stands of a window of event counts, and what a tuple changes of it.
use Rattle.std.specs.Prelude.{◌-◌, ◌/◌, ◌++◌, ℕ, List, filter, length, map, nat_le}
use Rattle.std.specs.List.{range_with_len}
use Rattle.stream_base.specs.declared.change.Change.{Change}
use Rattle.stream_base.specs.declared.change.Change.TheVariants.{New, Again}
use Rattle.stream_base.specs.declared.func.Func.{Func}
use Rattle.stream_base.specs.declared.kept.Kept.{Kept}
use Rattle.stream_base.specs.Model.Changes.{former_of, row_of}
use Rattle.stream_base.specs.Model.Journal.{put_in_order}
use Rattle.stream_base.specs.Model.Windows.{Instance, ranks}

-- how many tuples lie at or before a time
abbrev pub upper : ℕ → List Kept → ℕ
upper time kept = length (filter (λ x. nat_le x.time time) kept)

-- the instances of so many tuples from number `from` up to number `to`
abbrev pub ranks_between : ℕ → List Kept → ℕ → ℕ → List Instance
ranks_between count kept from to = map (ranks count kept) (range_with_len from (to - from))

-- an instance that stood now selects the tuples one rank further, with what it showed
abbrev pub shifted : ℕ → List ℕ → Func → ℕ → List Kept → Kept → ℕ → Change
shifted window key func count kept x i =
    Again (row_of window key func (ranks count (put_in_order kept x) i))
    (former_of func (ranks count kept i))

-- an instance that newly stands
abbrev pub filled : ℕ → List ℕ → Func → ℕ → List Kept → ℕ → Change
filled window key func count kept i = New (row_of window key func (ranks count kept i))

-- what a tuple changes: updates from the instance that it enters up to the last that stood, then at most one that newly stands
abbrev pub changes_of_shift : ℕ → List ℕ → Func → ℕ → ℕ → List Kept → Kept → List Change
changes_of_shift window key func count water kept x =
    let enters = upper x.time kept / count in
    let stood = upper water kept / count in
    let stand = upper water (put_in_order kept x) / count in
    map (shifted window key func count kept x) (range_with_len enters (stood - enters))
    ++ map (filled window key func count (put_in_order kept x))
    (range_with_len stood (stand - stood))
