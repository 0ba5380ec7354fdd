-- What is known of a key after one tuple or mark more, or at another watermark; and the changes of a window between what stood and what stands.
use Rattle.std.specs.Prelude.{ℕ, List, filter}
use Rattle.std.specs.BTreeSet.{insert_key}
use Rattle.std.specs.List.{filter_map}
use Rattle.std.specs.Ordering.{nat_cmp}
use Rattle.stream_base.specs.declared.change.Change.{Change}
use Rattle.stream_base.specs.declared.func.Func.{Func}
use Rattle.stream_base.specs.declared.kept.Kept.{Kept}
use Rattle.stream_base.specs.Model.Changes.{Moment, emission, retraction}
use Rattle.stream_base.specs.Model.Journal.{put_in_order}
use Rattle.stream_base.specs.Model.Windows.{Instance, is_complete}

-- a key after one tuple more
abbrev pub with_tuple : Moment → Kept → Moment
with_tuple m x = record { kept = put_in_order m.kept x; marks = m.marks; water = m.water }

-- a key after one mark more
abbrev pub with_mark : Moment → ℕ → Moment
with_mark m time =
    record { kept = m.kept; marks = insert_key nat_cmp m.marks time; water = m.water }

-- a key at another watermark
abbrev pub at_water : Moment → ℕ → Moment
at_water m water = record { kept = m.kept; marks = m.marks; water = water }

-- those of the instances that are complete at a watermark
abbrev pub complete_at : ℕ → List Instance → List Instance
complete_at water instances = filter (is_complete water) instances

-- the retractions of one window between what stood and what stands
abbrev pub retractions_between : ℕ → List ℕ → Func → List Instance → List Instance → List Change
retractions_between window key func old new = filter_map (retraction window key func new) old

-- the emissions and updates of one window between what stood and what stands
abbrev pub emissions_between : ℕ → List ℕ → Func → List Instance → List Instance → List Change
emissions_between window key func old new = filter_map (emission window key func old) new
