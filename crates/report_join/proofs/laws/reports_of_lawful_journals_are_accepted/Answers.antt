use Rattle.report_join.proofs.Accepting.{is_accepted}
use Rattle.report_join.proofs.laws.reports_of_lawful_journals_are_accepted.Goals as goal

pub returns : goal.returns
returns c = is_accepted
