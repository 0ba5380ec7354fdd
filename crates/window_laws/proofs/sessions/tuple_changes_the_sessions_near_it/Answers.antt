use Rattle.window_laws.proofs.PartFacts.{session_changes}
use Rattle.window_laws.proofs.sessions.tuple_changes_the_sessions_near_it.Goals as goal

pub returns : goal.returns
returns c = session_changes
