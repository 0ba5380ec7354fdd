use Rattle.window_laws.proofs.KindFacts.{bounds_do_not_fall, move_adds_behind, standing_comes_first}
use Rattle.window_laws.proofs.instances.bounds_do_not_fall.Goals as goal

pub returns-clause-along : goal.returns-clause-along
returns-clause-along c = bounds_do_not_fall

pub returns-clause-standing_first : goal.returns-clause-standing_first
returns-clause-standing_first c = standing_comes_first

pub returns-clause-move_adds_behind : goal.returns-clause-move_adds_behind
returns-clause-move_adds_behind c = move_adds_behind
