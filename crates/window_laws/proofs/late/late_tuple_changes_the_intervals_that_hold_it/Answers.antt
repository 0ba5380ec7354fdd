use Rattle.window_laws.proofs.LateFacts.{timed_none_gone, timed_late_emissions}
use Rattle.window_laws.proofs.late.late_tuple_changes_the_intervals_that_hold_it.Goals as goal

pub returns-clause-gone : goal.returns-clause-gone
returns-clause-gone c = timed_none_gone

pub returns-clause-come : goal.returns-clause-come
returns-clause-come c = timed_late_emissions
