use Rattle.tail_text.proofs.TailLines.{journals_of-tail_report_of}
use Rattle.tail_text.proofs.laws.journals_are_read_back_from_their_tail_report.Goals as goal

pub returns : goal.returns
returns c = journals_of-tail_report_of
