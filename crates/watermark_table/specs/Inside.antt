-- How a table of watermarks is kept: plainly.
use Rattle.std.specs.Prelude.{◌≤◌}
use Rattle.stream_base.specs.declared.limits.TheConstants.{TIME_MAX}
use Rattle.watermark_table.specs.Watched.{Watched}
use Rattle.watermark_table.specs.declared.waters.Waters.TheInside.{Inside}

abbrev pub watched : Inside → Watched
watched a = record { lateness = a.lateness; standings = a.standings.items; water = a.water }

pub record IsWatched (a : Inside) : Type 0 where
  pub lateness : a.lateness ≤ TIME_MAX
