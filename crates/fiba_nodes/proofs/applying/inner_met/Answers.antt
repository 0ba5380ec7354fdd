-- An item that the change isn't about stands behind its place, if not before.
use Rattle.fiba_nodes.specs.Rows.{listed}
use Rattle.fiba_nodes.proofs.Changing.{passed}
use Rattle.fiba_nodes.proofs.applying.inner_met.Goals as goal

pub returns-clause-none : goal.returns-clause-none
returns-clause-none g c = passed c.args.change.now (listed c.args.slots.now) c.args.at c.met.result c.met.ensures.none
