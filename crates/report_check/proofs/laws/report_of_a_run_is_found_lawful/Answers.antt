use Rattle.report_check.proofs.FormRead.{brief_report_is_lawful, full_report_is_lawful}
use Rattle.report_check.proofs.laws.report_of_a_run_is_found_lawful.Goals as goal

pub returns-clause-brief : goal.returns-clause-brief
returns-clause-brief c = brief_report_is_lawful

pub returns-clause-in_full : goal.returns-clause-in_full
returns-clause-in_full c = full_report_is_lawful
