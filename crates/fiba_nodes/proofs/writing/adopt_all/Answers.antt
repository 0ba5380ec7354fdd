-- The children are there, since their trees are sound and nothing but parents changes.
use Rattle.std.proofs.Common.{arith}
use Rattle.fiba_nodes.specs.Rows.{listed}
use Rattle.fiba_nodes.proofs.Links.{adopting_more, all_adopted, kid_there, last_there}
use Rattle.fiba_nodes.proofs.writing.adopt_all.Goals as goal

pub adopt-requires : goal.adopt-requires
adopt-requires g c =
    kid_there g.M.Monoid.is_value g.M.Monoid.empty g.M.Monoid.op c.args.nodes.now c.loop-i.nodes c.args.height c.args.place.left c.args.place.right (listed c.args.open.now.slots) c.args.open.now.last c.args.at c.loop-i.i c.peek.result.now (omega arith) c.requires c.loop-i.invariant.0 c.peek.ensures

pub loop-i-preserved : goal.loop-i-preserved
loop-i-preserved g c =
    (adopting_more c.args.nodes.now c.loop-i.nodes c.adopt.new.self (listed c.args.open.now.slots) c.args.open.now.last c.args.at c.loop-i.i c.peek.result.now c.peek.ensures c.loop-i.invariant.0 c.adopt.ensures.adopted, omega arith, omega arith)

pub adopt-requires-2 : goal.adopt-requires-2
adopt-requires-2 g c =
    last_there g.M.Monoid.is_value g.M.Monoid.empty g.M.Monoid.op c.args.nodes.now c.loop-i.nodes c.args.height c.args.place.left c.args.place.right (listed c.args.open.now.slots) c.args.open.now.last c.args.at c.loop-i.i (omega arith) c.requires c.loop-i.invariant.0

pub returns-clause-adopted : goal.returns-clause-adopted
returns-clause-adopted g c =
    all_adopted c.args.nodes.now c.loop-i.nodes c.adopt-2.new.self c.args.height (listed c.args.open.now.slots) c.args.open.now.last c.args.at c.loop-i.i (omega arith) (omega arith) c.loop-i.invariant.0 c.adopt-2.ensures.adopted
