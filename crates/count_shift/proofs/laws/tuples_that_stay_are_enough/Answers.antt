-- They are proved over plain lists.
use Rattle.count_shift.proofs.Behind.{follows_later, follows_own, reached}
use Rattle.count_shift.proofs.laws.tuples_that_stay_are_enough.Goals as goal

pub returns-clause-own : goal.returns-clause-own
returns-clause-own c = λ count time lane none h. follows_own count time lane none h

pub returns-clause-later : goal.returns-clause-later
returns-clause-later c = λ count early late kept lane le f. follows_later count early late kept lane le f

pub returns-clause-ranks : goal.returns-clause-ranks
returns-clause-ranks c = λ count from kept lane time f le. reached count from kept lane f time le
