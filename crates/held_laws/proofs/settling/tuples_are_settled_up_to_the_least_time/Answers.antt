use Rattle.held_laws.proofs.SettleFacts.{settled_up_to_least}
use Rattle.held_laws.proofs.settling.tuples_are_settled_up_to_the_least_time.Goals as goal

pub returns : goal.returns
returns c = settled_up_to_least
