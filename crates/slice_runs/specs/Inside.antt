-- How slices are kept: the tuples of all, how each slice shows, and how many tuples ever came.
use Rattle.std.specs.Prelude.{◌≤◌, ◌-◌, ◌^◌, length, min, vec_len, vec_capacity}
use Rattle.slice_runs.specs.declared.runs.Runs.TheInside.{Inside}
use Rattle.slice_lists.specs.Parted.{AreKept, parted_by}
use Rattle.slice_lists.specs.Slices.{Sliced}

-- there is room while the count of those that came has not reached the greatest number of 64 bits
abbrev pub sliced : Inside → Sliced
sliced a = record {
  slices = parted_by a.bounds.items a.tuples.tuples;
  spare = min (min a.tuples.spare (vec_capacity a.bounds - vec_len a.bounds)) (2 ^ 64 - 1 - a.taken);
}

-- the tuples are parted into slices that show so, and no more stand than came
pub record IsKept (a : Inside) : Type 0 where
  pub parted : AreKept a.bounds.items a.tuples.tuples
  pub counted : length a.tuples.tuples ≤ a.taken
