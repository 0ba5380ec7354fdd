use Rattle.window_laws.proofs.NextMarks.{next_of_sessions, none_next_of_sessions}
use Rattle.window_laws.proofs.due.next_bound_of_sessions.Goals as goal

pub returns-clause-some : goal.returns-clause-some
returns-clause-some c = next_of_sessions

pub returns-clause-none : goal.returns-clause-none
returns-clause-none c = none_next_of_sessions
