use Rattle.model_laws.proofs.ChangesAfter.{changes_in_order}
use Rattle.model_laws.proofs.changes.changes_are_in_order.Goals as goal

pub returns : goal.returns
returns c = changes_in_order
