use Rattle.window_laws.proofs.SettledMoves.{mark_keeps_settled, move_keeps_settled, tuple_keeps_settled}
use Rattle.window_laws.proofs.settled.settled_tuples_stay_settled.Goals as goal

pub returns-clause-move_on : goal.returns-clause-move_on
returns-clause-move_on c = move_keeps_settled

pub returns-clause-tuple : goal.returns-clause-tuple
returns-clause-tuple c = tuple_keeps_settled

pub returns-clause-mark : goal.returns-clause-mark
returns-clause-mark c = mark_keeps_settled
