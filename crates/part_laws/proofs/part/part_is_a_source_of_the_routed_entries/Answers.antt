use Rattle.part_laws.proofs.PartStreams.{part_is_source}
use Rattle.part_laws.proofs.part.part_is_a_source_of_the_routed_entries.Goals as goal

pub returns : goal.returns
returns c = part_is_source
