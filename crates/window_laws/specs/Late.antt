-- What a late tuple changes of a tumbling or sliding window.
use Rattle.std.specs.Prelude.{◌+◌, ℕ, List, filter, map, nat_le, if◌then◌else◌}
use Rattle.stream_base.specs.Kinds.{length_of, slide_of}
use Rattle.stream_base.specs.declared.change.Change.{Change}
use Rattle.stream_base.specs.declared.change.Change.TheVariants.{New, Again}
use Rattle.stream_base.specs.declared.def.Def.{Def}
use Rattle.stream_base.specs.declared.func.Func.{Func}
use Rattle.stream_base.specs.declared.kept.Kept.{Kept}
use Rattle.stream_base.specs.Model.Changes.{Moment, former_of, row_of}
use Rattle.stream_base.specs.Model.Journal.{put_in_order}
use Rattle.stream_base.specs.Model.Windows.{interval, is_selecting, starts_holding}

-- the change of an interval that holds the tuple: an update with what stood where it held others before, and else an emission
abbrev pub interval_change : ℕ → List ℕ → Func → ℕ → ℕ → List Kept → Kept → Change
interval_change window key func low high kept x =
    let before = interval low high kept in
    let row = row_of window key func (interval low high (put_in_order kept x)) in
    if is_selecting before then Again row (former_of func before) else New row

-- the same of the interval of a length that starts so
abbrev pub late_change : ℕ → List ℕ → Func → ℕ → List Kept → Kept → ℕ → Change
late_change window key func length_of kept x low =
    interval_change window key func low (low + length_of) kept x

-- the changes of the complete intervals that hold the tuple, by their starts
abbrev pub late_changes : ℕ → List ℕ → Func → ℕ → ℕ → ℕ → List Kept → Kept → List Change
late_changes window key func length_of slide water kept x =
    map (late_change window key func length_of kept x)
    (filter (λ low. nat_le (low + length_of) water) (starts_holding length_of slide x.time))

-- the same of a window that is tumbling or sliding
abbrev pub changes_of_late : ℕ → List ℕ → Def → Moment → Kept → List Change
changes_of_late window key def m x =
    late_changes window key def.func (length_of def.kind) (slide_of def.kind) m.water m.kept x
