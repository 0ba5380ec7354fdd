use Rattle.stream_base.proofs.Pieces.{sessions_joined, near_in_session, apart_in_sessions}
use Rattle.model_laws.proofs.windows.sessions_part_at_the_gap.Goals as goal

pub returns-clause-together : goal.returns-clause-together
returns-clause-together c = sessions_joined

pub returns-clause-near : goal.returns-clause-near
returns-clause-near c = near_in_session

pub returns-clause-apart : goal.returns-clause-apart
returns-clause-apart c = apart_in_sessions
