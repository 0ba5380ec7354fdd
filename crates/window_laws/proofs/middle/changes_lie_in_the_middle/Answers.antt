use Rattle.window_laws.proofs.MiddleFacts.{come_between, gone_between}
use Rattle.window_laws.proofs.middle.changes_lie_in_the_middle.Goals as goal

pub returns-clause-gone : goal.returns-clause-gone
returns-clause-gone c = gone_between

pub returns-clause-come : goal.returns-clause-come
returns-clause-come c = come_between
