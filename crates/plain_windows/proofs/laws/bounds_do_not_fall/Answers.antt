-- As a law below has it.
use Rattle.plain_windows.proofs.laws.bounds_do_not_fall.Goals as goal
use Rattle.window_laws.proofs.KindFacts.{bounds_do_not_fall}

pub returns : goal.returns
returns c = bounds_do_not_fall
