use Rattle.window_laws.proofs.MiddleFacts.{complete_come, complete_gone}
use Rattle.window_laws.proofs.middle.changes_of_complete_instances_lie_in_the_middle.Goals as goal

pub returns-clause-gone : goal.returns-clause-gone
returns-clause-gone c = complete_gone

pub returns-clause-come : goal.returns-clause-come
returns-clause-come c = complete_come
