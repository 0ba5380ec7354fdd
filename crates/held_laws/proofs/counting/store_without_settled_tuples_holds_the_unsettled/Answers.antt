use Rattle.held_laws.proofs.OpenFacts.{unsettled_are_held, unsettled_slices_are_held}
use Rattle.held_laws.proofs.counting.store_without_settled_tuples_holds_the_unsettled.Goals as goal

pub returns-clause-tuples : goal.returns-clause-tuples
returns-clause-tuples c = unsettled_are_held

pub returns-clause-slices : goal.returns-clause-slices
returns-clause-slices c = unsettled_slices_are_held
