use Rattle.model_laws.proofs.ChangesAfter.{changes_are_those_caused}
use Rattle.model_laws.proofs.changes.changes_are_those_of_the_instances.Goals as goal

pub returns : goal.returns
returns c = changes_are_those_caused
