use Rattle.window_laws.proofs.CountFacts.{standing_of_counts}
use Rattle.window_laws.proofs.counts.first_counts_stand.Goals as goal

pub returns : goal.returns
returns c = standing_of_counts
