use Rattle.window_laws.proofs.SettledFacts.{told_by_times}
use Rattle.window_laws.proofs.settled.settled_is_told_by_times.Goals as goal

pub returns : goal.returns
returns c = told_by_times
