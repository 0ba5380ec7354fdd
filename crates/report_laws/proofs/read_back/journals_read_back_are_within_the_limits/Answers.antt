use Rattle.report_laws.proofs.ReadBack.{journals_of-within}
use Rattle.report_laws.proofs.read_back.journals_read_back_are_within_the_limits.Goals as goal

pub returns : goal.returns
returns c = journals_of-within
