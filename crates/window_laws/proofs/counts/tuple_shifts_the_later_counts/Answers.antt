use Rattle.window_laws.proofs.CountFacts.{shift_changes, shift_retracts_nothing}
use Rattle.window_laws.proofs.counts.tuple_shifts_the_later_counts.Goals as goal

pub returns-clause-gone : goal.returns-clause-gone
returns-clause-gone c = shift_retracts_nothing

pub returns-clause-come : goal.returns-clause-come
returns-clause-come c = shift_changes
