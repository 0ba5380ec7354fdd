use Rattle.window_laws.proofs.SettledFacts.{window_cut, window_earlier}
use Rattle.window_laws.proofs.settled.each_window_settles_earlier_tuples_first.Goals as goal

pub returns-clause-earlier : goal.returns-clause-earlier
returns-clause-earlier c = window_earlier

pub returns-clause-cut : goal.returns-clause-cut
returns-clause-cut c = window_cut
