use Rattle.report_laws.proofs.ReadBackChanges.{changes_under-other}
use Rattle.report_laws.proofs.read_back.lines_of_changes_under_an_entry_are_other_lines.Goals as goal

pub returns : goal.returns
returns c = changes_under-other
