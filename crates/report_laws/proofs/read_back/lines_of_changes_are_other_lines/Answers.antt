use Rattle.report_laws.proofs.ReadBackChanges.{change_lines-within}
use Rattle.report_laws.proofs.read_back.lines_of_changes_are_other_lines.Goals as goal

pub returns : goal.returns
returns c = change_lines-within
