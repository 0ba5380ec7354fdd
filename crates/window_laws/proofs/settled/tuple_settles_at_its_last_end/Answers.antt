use Rattle.window_laws.proofs.SettleTimes.{marks_settle, session_settles, timed_settles}
use Rattle.window_laws.proofs.settled.tuple_settles_at_its_last_end.Goals as goal

pub returns-clause-intervals : goal.returns-clause-intervals
returns-clause-intervals c = timed_settles

pub returns-clause-sessions : goal.returns-clause-sessions
returns-clause-sessions c = session_settles

pub returns-clause-marks : goal.returns-clause-marks
returns-clause-marks c = marks_settle
