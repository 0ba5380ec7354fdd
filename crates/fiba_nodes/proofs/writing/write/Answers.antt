-- The children were adopted, and then the node is put over them.
use Rattle.std.proofs.Common.{Some, arith, ap, refl}
use Rattle.fiba_nodes.specs.Rows.{listed}
use Rattle.fiba_nodes.specs.Trees.{plain}
use Rattle.fiba_nodes.proofs.Fullness.{full_written}
use Rattle.fiba_nodes.proofs.Links.{kids_linked, node_moves, node_written}
use Rattle.fiba_nodes.proofs.writing.write.Goals as goal

pub returns-clause-kids : goal.returns-clause-kids
returns-clause-kids g c =
    kids_linked (plain c.args.nodes.now) c.adopt_all.new.nodes c.set.new.self c.args.at c.args.height (listed c.args.open.now.slots) c.args.open.now.last (Some c.made.result) (λ k. let o = c.requires.opened.owned k in omega arith) c.adopt_all.ensures.adopted.ups c.set.ensures.put

pub returns-clause-written : goal.returns-clause-written
returns-clause-written g c =
    node_written g.M.Monoid.is_value g.M.Monoid.empty g.M.Monoid.op c.args.nodes.now c.adopt_all.new.nodes c.set.new.self c.args.at c.args.height c.args.place.left c.args.place.right (listed c.args.open.now.slots) c.args.open.now.last c.made.result _ _ c.requires.opened c.requires.fits.some refl c.total_of-agg.ensures.value c.adopt_all.ensures.adopted c.made.ensures.plain c.set.ensures.put (returns-clause-kids g c)

pub returns-clause-moves : goal.returns-clause-moves
returns-clause-moves g c =
    node_moves g.M.Monoid.is_value g.M.Monoid.empty g.M.Monoid.op c.args.nodes.now c.adopt_all.new.nodes c.set.new.self c.args.at c.args.height c.args.place.left c.args.place.right (listed c.args.open.now.slots) c.args.open.now.last c.made.result (returns-clause-written g c) c.adopt_all.ensures.adopted c.set.ensures.put

pub returns-clause-full : goal.returns-clause-full
returns-clause-full g c =
    full_written c.args.nodes.now c.adopt_all.new.nodes c.set.new.self c.args.at c.made.result (listed c.args.open.now.slots) c.adopt_all.ensures.adopted.same c.set.ensures.put (ap (λ p. p.slots) c.made.ensures.plain)
