-- The last child stays.
use Rattle.std.proofs.Common.{sym, arith}
use Rattle.fiba_nodes.specs.Rows.{listed}
use Rattle.fiba_nodes.proofs.Kids.{spliced_last-inner}
use Rattle.fiba_nodes.proofs.open.Open.spliced.Goals as goal

pub returns-clause-last : goal.returns-clause-last
returns-clause-last g c =
    sym (spliced_last-inner (listed c.args.self.now.slots) c.args.self.now.last c.args.at c.args.nodes.last (omega arith))
