use Rattle.model_laws.proofs.ChangesAfter.{water_of_keyed, changes_of_keyed}
use Rattle.model_laws.proofs.changes.tuple_or_mark_changes_its_key.Goals as goal

pub returns-clause-water : goal.returns-clause-water
returns-clause-water c = water_of_keyed

pub returns-clause-changes : goal.returns-clause-changes
returns-clause-changes c = changes_of_keyed
