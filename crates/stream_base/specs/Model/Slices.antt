-- The slices of a key, and which of its tuples are settled.
use Rattle.std.specs.Prelude.{◌+◌, ◌==◌, ◌||◌, ℕ, Bool, not, List, filter, nat_le}
use Rattle.std.specs.List.{list_all, list_any}
use Rattle.stream_base.specs.Kinds.{is_events}
use Rattle.stream_base.specs.Limits.{Definitions}
use Rattle.stream_base.specs.declared.def.Def.{Def}
use Rattle.stream_base.specs.declared.kept.Kept.{Kept}
use Rattle.stream_base.specs.Model.Changes.{Moment}
use Rattle.stream_base.specs.Model.Cuts.{has_cut}
use Rattle.stream_base.specs.Model.Windows.{Instance, instances_of, pieces_of}

-- the slices of tuples under marks: the maximal stretches with no cut between neighbours
abbrev pub runs_of : List Def → List ℕ → List Kept → List (List Kept)
runs_of windows marks kept = pieces_of (λ x y. has_cut windows marks x.time y.time) kept

-- an instance selects a tuple
abbrev pub selects : Kept → Instance → Bool
selects x i = list_any (λ y. y.position == x.position) i.chosen

-- every instance of a window that selects the tuple ends at or before the watermark minus the lateness
abbrev pub is_settled_in : ℕ → Moment → Kept → Def → Bool
is_settled_in lateness m x def =
    is_events def.kind || list_all (λ i. not (selects x i) || nat_le (i.high + lateness) m.water) (instances_of def.kind m.kept m.marks)

-- a tuple is settled where this is so of every window that isn't one of event counts
abbrev pub is_settled : Definitions → Moment → Kept → Bool
is_settled d m x = list_all (is_settled_in d.lateness m x) d.windows

-- what is kept and not settled
abbrev pub unsettled : Definitions → Moment → List Kept
unsettled d m = filter (λ x. not (is_settled d m x)) m.kept
