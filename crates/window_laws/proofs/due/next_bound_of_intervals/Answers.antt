use Rattle.window_laws.proofs.NextFacts.{next_of_timed, none_next_of_timed}
use Rattle.window_laws.proofs.due.next_bound_of_intervals.Goals as goal

pub returns-clause-some : goal.returns-clause-some
returns-clause-some c = next_of_timed

pub returns-clause-none : goal.returns-clause-none
returns-clause-none c = none_next_of_timed
