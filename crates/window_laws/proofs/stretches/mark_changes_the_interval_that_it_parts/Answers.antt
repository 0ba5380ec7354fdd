use Rattle.window_laws.proofs.PartFacts.{parting_changes}
use Rattle.window_laws.proofs.stretches.mark_changes_the_interval_that_it_parts.Goals as goal

pub returns : goal.returns
returns c = parting_changes
