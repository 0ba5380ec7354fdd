use Rattle.window_laws.proofs.StretchFacts.{stretches_after_mark}
use Rattle.window_laws.proofs.stretches.mark_parts_one_interval_between_marks.Goals as goal

pub returns : goal.returns
returns c = stretches_after_mark
