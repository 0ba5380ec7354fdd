use Rattle.window_laws.proofs.NextFacts.{next_of_counts}
use Rattle.window_laws.proofs.due.next_bound_of_counts.Goals as goal

pub returns : goal.returns
returns c = next_of_counts
