use Rattle.window_laws.proofs.LeaveChanges.{leaves_at_mark_come, leaves_at_mark_gone, leaves_at_move, leaves_at_tuple_come, leaves_at_tuple_gone}
use Rattle.window_laws.proofs.leaving.what_left_changes_no_result.Goals as goal

pub returns-clause-move_on : goal.returns-clause-move_on
returns-clause-move_on c = leaves_at_move

pub returns-clause-tuple_gone : goal.returns-clause-tuple_gone
returns-clause-tuple_gone c = leaves_at_tuple_gone

pub returns-clause-tuple_come : goal.returns-clause-tuple_come
returns-clause-tuple_come c = leaves_at_tuple_come

pub returns-clause-mark_gone : goal.returns-clause-mark_gone
returns-clause-mark_gone c = leaves_at_mark_gone

pub returns-clause-mark_come : goal.returns-clause-mark_come
returns-clause-mark_come c = leaves_at_mark_come
