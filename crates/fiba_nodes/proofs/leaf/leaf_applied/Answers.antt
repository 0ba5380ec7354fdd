-- The place of the change is where no more slots stand before it.
use Rattle.std.proofs.Common.{Some, None, ◌+◌}
use Rattle.fiba_nodes.specs.Rows.{listed}
use Rattle.fiba_nodes.specs.Changes.{leaf_pairs}
use Rattle.fiba_nodes.proofs.Changing.{incoming_values, leaf_met, leaf_parts, leaf_unmet, leaf_values}
use Rattle.fiba_nodes.proofs.leaf.leaf_applied.Goals as goal

pub returns-in-Some-clause-items : goal.returns-in-Some-clause-items
returns-in-Some-clause-items g c =
    leaf_values g.M.Monoid.is_value (listed c.args.open.now.slots) (listed c.leaf_with.result.slots) c.rank-at.result (c.rank-at.result + 1) c.item.result c.requires.items (rw c.item.ensures (incoming_values g.M.Monoid.is_value c.args.change.now (Some c.in-Some.old) c.requires.value)) c.leaf_with.ensures

pub returns-in-Some-clause-applies : goal.returns-in-Some-clause-applies
returns-in-Some-clause-applies g c =
    leaf_met c.args.change.now (listed c.args.open.now.slots) c.rank-at.result c.in-Some.old (leaf_pairs (listed c.leaf_with.result.slots)) c.rank-at.ensures c.in-Some.ensures.there c.in-Some.ensures.some (rw (← c.item.ensures) (leaf_parts (listed c.args.open.now.slots) (listed c.leaf_with.result.slots) c.rank-at.result (c.rank-at.result + 1) c.item.result c.leaf_with.ensures))

pub returns-in-None-clause-items : goal.returns-in-None-clause-items
returns-in-None-clause-items g c =
    leaf_values g.M.Monoid.is_value (listed c.args.open.now.slots) (listed c.leaf_with-in-None.result.slots) c.rank-at.result c.rank-at.result c.added.result c.requires.items (rw c.added.ensures (incoming_values g.M.Monoid.is_value c.args.change.now None c.requires.value)) c.leaf_with-in-None.ensures

pub returns-in-None-clause-applies : goal.returns-in-None-clause-applies
returns-in-None-clause-applies g c =
    leaf_unmet c.args.change.now (listed c.args.open.now.slots) c.args.open.now.last c.rank-at.result (leaf_pairs (listed c.leaf_with-in-None.result.slots)) c.requires.fits.some c.rank-at.ensures c.in-None.ensures.none (rw (← c.added.ensures) (leaf_parts (listed c.args.open.now.slots) (listed c.leaf_with-in-None.result.slots) c.rank-at.result c.rank-at.result c.added.result c.leaf_with-in-None.ensures))
