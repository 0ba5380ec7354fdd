-- What is due of a key next.
use Rattle.std.specs.Prelude.{◌-◌, ℕ, List, slice_get, map, filter, fold, min, nat_lt}
use Rattle.std.specs.List.{enumerate_from, find, flat_map}
use Rattle.std.specs.Option.{option_map_or}
use Rattle.stream_base.specs.declared.change.Change.{Change}
use Rattle.stream_base.specs.declared.def.Def.{Def}
use Rattle.stream_base.specs.declared.kept.Kept.{Kept}
use Rattle.stream_base.specs.declared.limits.TheConstants.{FINAL}
use Rattle.stream_base.specs.Laws.{completions}
use Rattle.stream_base.specs.Model.Changes.{Moment}
use Rattle.stream_base.specs.Model.Windows.{instances_of}

-- the bounds of the instances of a key that are not complete
abbrev pub open_bounds : List Def → Moment → List ℕ
open_bounds windows m =
    filter (λ b. nat_lt m.water b)
    (map (λ i. i.bound) (flat_map (λ w. instances_of w.kind m.kept m.marks) windows))

-- the least of them, and the final time where there is none
abbrev pub next_bound : List Def → Moment → ℕ
next_bound windows m = fold min FINAL (open_bounds windows m)

-- what a move of the watermark alone completes of a key
abbrev pub completed_of : List Def → List ℕ → Moment → ℕ → List Change
completed_of windows key m new = flat_map (completions key m new) (enumerate_from 0 windows)

-- the bound of the first instance of a window that isn't complete, and the final time where all are
abbrev pub first_open : Moment → Def → ℕ
first_open m w =
    option_map_or (λ i. i.bound)
    (find (λ i. nat_lt m.water i.bound) (instances_of w.kind m.kept m.marks))
    FINAL

-- the time of the tuple of this number in event order, counted from 1, and the final time where there are fewer
abbrev pub time_of_number : List Kept → ℕ → ℕ
time_of_number kept number = option_map_or (λ x. x.time) (slice_get kept (number - 1)) FINAL
