use Rattle.window_laws.proofs.MomentFacts.{moment_of_late, moment_of_mark, moment_of_other, moment_of_progress, moment_of_tuple}
use Rattle.window_laws.proofs.moments.entry_adds_to_a_key_or_moves_it.Goals as goal

pub returns-clause-tuple : goal.returns-clause-tuple
returns-clause-tuple c = moment_of_tuple

pub returns-clause-mark : goal.returns-clause-mark
returns-clause-mark c = moment_of_mark

pub returns-clause-progress : goal.returns-clause-progress
returns-clause-progress c = moment_of_progress

pub returns-clause-late : goal.returns-clause-late
returns-clause-late c = moment_of_late

pub returns-clause-other : goal.returns-clause-other
returns-clause-other c = moment_of_other
