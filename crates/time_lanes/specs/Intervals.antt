-- Intervals in a row, and how they are told.
use Rattle.std.specs.Prelude.{ℕ, ℤ, List, Option, map}
use Rattle.stream_base.specs.declared.change.Change.{Change}
use Rattle.stream_base.specs.declared.former.Former.{Former}
use Rattle.stream_base.specs.declared.func.Func.{Func}
use Rattle.agg_store.specs.Stored.{Stored, tuples_of}
use Rattle.time_lanes.specs.Joined.{joined_at}
use Rattle.time_lanes.specs.Told.{former_at, starts_from, told_at, told_late}
use Rattle.time_lanes.specs.declared.late.Complete.{Complete}
use Rattle.time_lanes.specs.declared.owner.Owner.{Owner}
use Rattle.time_lanes.specs.declared.span.Span.{Span}

-- their starts
abbrev pub starts_in : Span → Complete → List ℕ
starts_in span complete = starts_from span.slide complete.first complete.count

-- what stood of each, if it held a tuple
abbrev pub formers_in : Func → Span → Stored → Complete → List (Option Former)
formers_in func span s complete = map (former_at func span.length (tuples_of s)) (starts_in span complete)

-- each as it shows now, told with what stood of it
abbrev pub told_again : Owner → Span → Stored → Complete → List (Option Former) → List Change
told_again owner span s complete formers =
    told_late (told_at owner.window owner.key.now owner.func span.length (tuples_of s)) (starts_in span complete) formers

-- each with a value more than stood of it, told with what stood
abbrev pub told_joined : Owner → Span → ℤ → Complete → List (Option Former) → List Change
told_joined owner span value complete formers =
    told_late (joined_at owner.window owner.key.now owner.func span.length value) (starts_in span complete) formers
