use Rattle.held_laws.proofs.HoldFacts.{held_after_mark, held_after_move, held_after_tuple}
use Rattle.held_laws.proofs.holding.store_goes_on_to_hold.Goals as goal

pub returns-clause-tuple : goal.returns-clause-tuple
returns-clause-tuple c = held_after_tuple

pub returns-clause-mark : goal.returns-clause-mark
returns-clause-mark c = held_after_mark

pub returns-clause-move_on : goal.returns-clause-move_on
returns-clause-move_on c = held_after_move
