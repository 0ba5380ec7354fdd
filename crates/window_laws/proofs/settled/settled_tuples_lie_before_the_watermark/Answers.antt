use Rattle.window_laws.proofs.SettledMoves.{settled_lies_before}
use Rattle.window_laws.proofs.settled.settled_tuples_lie_before_the_watermark.Goals as goal

pub returns : goal.returns
returns c = settled_lies_before
