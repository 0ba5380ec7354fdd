use Rattle.row_laws.proofs.RowBounds.{report_tells}
use Rattle.row_laws.proofs.reading.report_tells_what_stands.Goals as goal

pub returns : goal.returns
returns c = report_tells
