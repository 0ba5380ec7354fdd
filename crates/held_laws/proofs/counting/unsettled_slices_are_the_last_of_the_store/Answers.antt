use Rattle.held_laws.proofs.CountFacts.{no_slices, unsettled_slices}
use Rattle.held_laws.proofs.counting.unsettled_slices_are_the_last_of_the_store.Goals as goal

pub returns-clause-last : goal.returns-clause-last
returns-clause-last c = unsettled_slices

pub returns-clause-none : goal.returns-clause-none
returns-clause-none c = no_slices
