-- The number was free, so nothing of the row changed when it was taken.
use Rattle.std.proofs.Common.{ap}
use Rattle.fiba_nodes.specs.Rows.{listed}
use Rattle.fiba_nodes.proofs.Fullness.{full_created}
use Rattle.fiba_nodes.proofs.Writes.{opened_fresh, written_fresh, moves_fresh}
use Rattle.fiba_nodes.proofs.writing.create.Goals as goal

pub write-requires-clause-opened : goal.write-requires-clause-opened
write-requires-clause-opened g c =
    opened_fresh g.M.Monoid.is_value g.M.Monoid.empty g.M.Monoid.op c.args.nodes.now c.add-at.new.self c.add-at.result c.args.height c.args.place.left c.args.place.right (listed c.args.open.now.slots) c.args.open.now.last c.made-blank.result c.requires.loose c.add-at.ensures.fresh c.add-at.ensures.added

pub returns-clause-written : goal.returns-clause-written
returns-clause-written g c =
    written_fresh g.M.Monoid.is_value g.M.Monoid.empty g.M.Monoid.op c.args.nodes.now c.add-at.new.self c.add-at.result c.args.height c.args.place.left c.args.place.right (listed c.args.open.now.slots) c.args.open.now.last c.made-blank.result c.requires.loose c.add-at.ensures.fresh c.add-at.ensures.added c.write.new.nodes c.write.ensures.written

pub returns-clause-moves : goal.returns-clause-moves
returns-clause-moves g c =
    moves_fresh g.M.Monoid.is_value g.M.Monoid.empty g.M.Monoid.op c.args.nodes.now c.add-at.new.self c.add-at.result c.args.height c.args.place.left c.args.place.right (listed c.args.open.now.slots) c.args.open.now.last c.made-blank.result c.requires.loose c.add-at.ensures.fresh c.add-at.ensures.added c.write.new.nodes c.write.ensures.moves

pub returns-clause-full : goal.returns-clause-full
returns-clause-full g c =
    full_created c.args.nodes.now c.add-at.new.self c.write.new.nodes c.add-at.result c.made-blank.result (listed c.args.open.now.slots) c.add-at.ensures.fresh c.add-at.ensures.added (ap (λ p. p.slots) c.made-blank.ensures.plain) c.write.ensures.full
