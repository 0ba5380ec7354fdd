use Rattle.part_laws.proofs.JoinedRuns.{joined_is_report}
use Rattle.part_laws.proofs.joined.joined_reports_are_the_report.Goals as goal

pub returns : goal.returns
returns c = joined_is_report
