use Rattle.report_laws.proofs.ReadBackExact.{is_header-exact}
use Rattle.report_laws.proofs.read_back.line_is_the_header_that_it_spells.Goals as goal

pub returns : goal.returns
returns c = is_header-exact
