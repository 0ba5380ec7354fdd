-- All entries are within their limits, and so is the watermark.
use Rattle.std.proofs.Common.{sym, subst}
use Rattle.stream_base.specs.Model.Moments.{IsWater}
use Rattle.watermark_table.specs.Watched.{sources_of}
use Rattle.shard_core.proofs.Waters.{water_is_water}
use Rattle.shard_core.proofs.past.Past.water.Goals as goal

pub returns-clause-is_water : goal.returns-clause-is_water
returns-clause-is_water c =
    subst IsWater (sym (c.water.ensures.journal c.self.inside.journal.items c.self.invariant.waters))
    (water_is_water (sources_of c.self.inside.waters) c.self.inside.journal.items c.self.invariant.journal_is.known.within)
