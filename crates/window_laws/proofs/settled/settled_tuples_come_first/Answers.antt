use Rattle.window_laws.proofs.SettledFacts.{cut_at_unsettled, settled_first, unsettled_drop}
use Rattle.window_laws.proofs.settled.settled_tuples_come_first.Goals as goal

pub returns-clause-parts : goal.returns-clause-parts
returns-clause-parts c = settled_first

pub returns-clause-left : goal.returns-clause-left
returns-clause-left c = unsettled_drop

pub returns-clause-cut : goal.returns-clause-cut
returns-clause-cut c = cut_at_unsettled
