use Rattle.window_laws.proofs.CountFacts.{upper_put}
use Rattle.window_laws.proofs.counts.tuple_counts_up_to_each_later_time.Goals as goal

pub returns : goal.returns
returns c = upper_put
