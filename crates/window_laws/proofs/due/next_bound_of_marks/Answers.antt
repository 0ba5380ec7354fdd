use Rattle.window_laws.proofs.NextMarks.{next_of_marks, none_next_of_marks}
use Rattle.window_laws.proofs.due.next_bound_of_marks.Goals as goal

pub returns-clause-some : goal.returns-clause-some
returns-clause-some c = next_of_marks

pub returns-clause-none : goal.returns-clause-none
returns-clause-none c = none_next_of_marks
