use Rattle.tail_text.proofs.TailLines.{tails_under-other}
use Rattle.tail_text.proofs.laws.lines_of_tails_are_other_lines.Goals as goal

pub returns : goal.returns
returns c = tails_under-other
