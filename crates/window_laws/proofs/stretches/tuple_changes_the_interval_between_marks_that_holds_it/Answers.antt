use Rattle.window_laws.proofs.PartFacts.{holder_changes}
use Rattle.window_laws.proofs.stretches.tuple_changes_the_interval_between_marks_that_holds_it.Goals as goal

pub returns : goal.returns
returns c = holder_changes
