use Rattle.window_laws.proofs.SettledMoves.{mark_settles_none, new_tuple_is_unsettled, tuple_settles_no_other}
use Rattle.window_laws.proofs.settled.tuples_and_marks_settle_nothing.Goals as goal

pub returns-clause-tuple : goal.returns-clause-tuple
returns-clause-tuple c = tuple_settles_no_other

pub returns-clause-itself : goal.returns-clause-itself
returns-clause-itself c = new_tuple_is_unsettled

pub returns-clause-mark : goal.returns-clause-mark
returns-clause-mark c = mark_settles_none
