use Rattle.held_laws.proofs.HoldFacts.{fresh_held}
use Rattle.held_laws.proofs.holding.fresh_store_holds_a_fresh_key.Goals as goal

pub returns : goal.returns
returns c = fresh_held
