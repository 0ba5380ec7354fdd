use Rattle.report_laws.proofs.ReadBackExact.{entry_in-exact}
use Rattle.report_laws.proofs.read_back.line_holds_the_entry_that_it_spells.Goals as goal

pub returns : goal.returns
returns c = entry_in-exact
