use Rattle.window_laws.proofs.SessionFacts.{sessions_after_put}
use Rattle.window_laws.proofs.sessions.tuple_joins_the_sessions_near_it.Goals as goal

pub returns : goal.returns
returns c = sessions_after_put
