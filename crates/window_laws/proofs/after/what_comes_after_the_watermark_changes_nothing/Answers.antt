use Rattle.window_laws.proofs.AfterFacts.{mark_after_changes_nothing, tuple_after_changes_nothing}
use Rattle.window_laws.proofs.after.what_comes_after_the_watermark_changes_nothing.Goals as goal

pub returns-clause-tuple : goal.returns-clause-tuple
returns-clause-tuple c = tuple_after_changes_nothing

pub returns-clause-mark : goal.returns-clause-mark
returns-clause-mark c = mark_after_changes_nothing
