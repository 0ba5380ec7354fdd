use Rattle.held_laws.proofs.AlikeFacts.{settled_alike_all, settled_alike_in, unsettled_left}
use Rattle.held_laws.proofs.settling.what_is_left_is_settled_as_before.Goals as goal

pub returns-clause-in_window : goal.returns-clause-in_window
returns-clause-in_window c = settled_alike_in

pub returns-clause-in_all : goal.returns-clause-in_all
returns-clause-in_all c = settled_alike_all

pub returns-clause-unsettled : goal.returns-clause-unsettled
returns-clause-unsettled c = unsettled_left
