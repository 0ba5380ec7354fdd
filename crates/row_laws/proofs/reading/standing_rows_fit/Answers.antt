use Rattle.row_laws.proofs.RowBounds.{rows_fit}
use Rattle.row_laws.proofs.reading.standing_rows_fit.Goals as goal

pub returns : goal.returns
returns c = λ d sources journal limits within few. rows_fit d sources limits journal within few
