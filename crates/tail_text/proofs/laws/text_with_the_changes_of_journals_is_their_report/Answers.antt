use Rattle.tail_text.proofs.TextFacts.{tails_text-is_report}
use Rattle.tail_text.proofs.laws.text_with_the_changes_of_journals_is_their_report.Goals as goal

pub returns : goal.returns
returns c = tails_text-is_report
