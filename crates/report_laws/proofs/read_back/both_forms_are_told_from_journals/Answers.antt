use Rattle.report_laws.proofs.ReadBackChanges.{report_1-told, report_2-told}
use Rattle.report_laws.proofs.read_back.both_forms_are_told_from_journals.Goals as goal

pub returns-clause-one : goal.returns-clause-one
returns-clause-one c = report_1-told

pub returns-clause-two : goal.returns-clause-two
returns-clause-two c = report_2-told
