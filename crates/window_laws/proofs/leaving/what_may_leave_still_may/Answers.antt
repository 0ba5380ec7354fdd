use Rattle.window_laws.proofs.LeaveChanges.{may_leave_after_mark, may_leave_after_move, may_leave_after_tuple, settled_may_leave, tuple_enters_the_rest}
use Rattle.window_laws.proofs.leaving.what_may_leave_still_may.Goals as goal

pub returns-clause-settled : goal.returns-clause-settled
returns-clause-settled c = settled_may_leave

pub returns-clause-move_on : goal.returns-clause-move_on
returns-clause-move_on c = may_leave_after_move

pub returns-clause-mark : goal.returns-clause-mark
returns-clause-mark c = may_leave_after_mark

pub returns-clause-tuple : goal.returns-clause-tuple
returns-clause-tuple c = may_leave_after_tuple

pub returns-clause-enters_behind : goal.returns-clause-enters_behind
returns-clause-enters_behind c = tuple_enters_the_rest
