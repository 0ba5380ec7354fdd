use Rattle.window_laws.proofs.KindFacts.{mark_after_stands, tuple_after_stands, tuple_at_stands}
use Rattle.window_laws.proofs.after.what_comes_after_the_watermark_leaves_what_stands.Goals as goal

pub returns-clause-tuple : goal.returns-clause-tuple
returns-clause-tuple c = tuple_after_stands

pub returns-clause-at : goal.returns-clause-at
returns-clause-at c = tuple_at_stands

pub returns-clause-mark : goal.returns-clause-mark
returns-clause-mark c = mark_after_stands
