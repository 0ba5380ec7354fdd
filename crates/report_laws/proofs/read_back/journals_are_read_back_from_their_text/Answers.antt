use Rattle.report_laws.proofs.ReadBack.{journals_of-text_of}
use Rattle.report_laws.proofs.read_back.journals_are_read_back_from_their_text.Goals as goal

pub returns : goal.returns
returns c = journals_of-text_of
