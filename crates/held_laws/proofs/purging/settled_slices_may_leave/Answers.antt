use Rattle.held_laws.proofs.PurgeFacts.{purged}
use Rattle.held_laws.proofs.purging.settled_slices_may_leave.Goals as goal

pub returns : goal.returns
returns c = purged
