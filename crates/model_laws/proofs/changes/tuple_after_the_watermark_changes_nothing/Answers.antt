use Rattle.model_laws.proofs.ChangesAfter.{no_changes_of_tuple}
use Rattle.model_laws.proofs.changes.tuple_after_the_watermark_changes_nothing.Goals as goal

pub returns : goal.returns
returns c = no_changes_of_tuple
