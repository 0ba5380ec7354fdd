use Rattle.report_laws.proofs.ReadBack.{report_of-injective}
use Rattle.report_laws.proofs.read_back.reports_of_different_journals_differ.Goals as goal

pub returns : goal.returns
returns c = report_of-injective
