-- The entries so far, and for how many more there is room.
use Rattle.std.specs.Prelude.{◌≡◌}
use Rattle.stream_base.specs.Limits.{AreWithinLimits}
use Rattle.watermark_table.specs.Watched.{StandsFor, sources_of}
use Rattle.shard_core.specs.Shard.{AreSources, IsJournal}
use Rattle.shard_core.specs.Recorded.{Recorded}
use Rattle.shard_core.specs.declared.past.Past.TheInside.{Inside}

abbrev pub recorded : Inside → Recorded
recorded a = record { defs = a.defs; sources = sources_of a.waters; journal = a.journal.items; spare = a.journal.spare }

-- the watermarks are those of the journal, and of as many sources as a shard may have
pub record IsPast (a : Inside) : Type 0 where
  pub limits : AreWithinLimits a.defs
  pub sources : sources_of a.waters ≡ a.sources
  pub some : AreSources a.sources
  pub lateness : (a.waters).lateness ≡ (a.defs).lateness
  pub waters : StandsFor a.waters a.journal.items
  pub journal_is : IsJournal (sources_of a.waters) a.journal.items
