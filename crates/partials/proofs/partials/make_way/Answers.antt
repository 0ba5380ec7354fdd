-- A key behind the first of a full row isn't before where the row begins then.
use Rattle.std.proofs.Common.{◌≤◌, length, arith}
use Rattle.partials.proofs.RowFacts.{behind_first}
use Rattle.partials.proofs.partials.make_way.Goals as goal

pub returns-clause-edge : goal.returns-clause-edge
returns-clause-edge g c =
    let near = c.args.near.now.pairs in
    let full : 256 ≤ length near = omega arith in
    λ key l behind. behind_first c.bring_in.result key near (omega arith) c.bring_in.ensures.edge (behind full)
