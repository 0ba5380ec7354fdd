use Rattle.window_laws.proofs.StretchFacts.{stretches_after_put}
use Rattle.window_laws.proofs.stretches.tuple_enters_one_interval_between_marks.Goals as goal

pub returns : goal.returns
returns c = stretches_after_put
