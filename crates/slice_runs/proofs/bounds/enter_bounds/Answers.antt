-- One slice is wider.
use Rattle.std.proofs.Common.{arith}
use Rattle.slice_lists.proofs.BoundEdits.{wider}
use Rattle.slice_runs.proofs.bounds.enter_bounds.Goals as goal

pub returns-then-to-from-2-clause-items : goal.returns-then-to-from-2-clause-items
returns-then-to-from-2-clause-items c =
    wider c.args.bounds.now.items c.args.from c.args.to c.args.time c.index.result.now c.widened.result (omega arith) (omega arith) c.index.ensures c.widened.ensures
