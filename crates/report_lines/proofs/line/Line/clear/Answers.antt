-- Nothing stands behind the last cell.
use Rattle.std.proofs.Common.{arith}
use Rattle.std.proofs.lemmas.List.{drop_all}
use Rattle.report_lines.proofs.line.Line.clear.Goals as goal

pub returns-clause-text : goal.returns-clause-text
returns-clause-text c = drop_all 320 c.self.inside.cells (omega arith)
