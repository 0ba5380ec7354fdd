-- An empty tree takes an item; else the root is opened, and planted again.
use Rattle.std.proofs.Common.{◌≡◌, ◌≤◌, ◌+◌, ◌-◌, suc, length, ap, subst, arith}
use Rattle.fiba_nodes.specs.Rows.{listed}
use Rattle.fiba_nodes.specs.Trees.{pairs_at, plain, size}
use Rattle.fiba_nodes.specs.Changes.{growth}
use Rattle.fiba_nodes.specs.Stores.{full_nodes, held, look}
use Rattle.fiba_nodes.proofs.Fullness.{held_few}
use Rattle.fiba_nodes.proofs.Paying.{paid_closed}
use Rattle.fiba_nodes.proofs.Planting.{applied_room, can_sprout, changed_low}
use Rattle.fiba_nodes.proofs.rooting.change_root.Goals as goal

pub sprout-requires : goal.sprout-requires
sprout-requires g c =
    record { can = rw c.added.ensures (can_sprout g.M.Monoid.is_value g.M.Monoid.empty g.M.Monoid.op c.args.nodes.now c.args.root c.args.place.left c.args.place.right c.args.change c.if-root-eq0.true c.requires.can) }

pub returns-then-root-eq0-clause-changed : goal.returns-then-root-eq0-clause-changed
returns-then-root-eq0-clause-changed g c =
    let s = rw c.added.ensures at c.sprout.ensures.sprouted in
    changed_low g.M.Monoid.is_value g.M.Monoid.empty g.M.Monoid.op c.args.nodes.now c.sprout.new.nodes c.args.root c.sprout.result c.args.place.left c.args.place.right c.args.change c.if-root-eq0.true c.requires.known s

pub plant-requires-clause-room : goal.plant-requires-clause-room
plant-requires-clause-room g c =
    let s = plain c.args.nodes.now in
    let at = c.args.root.at in
    let lower : c.args.root.height ≡ suc (c.args.root.height - 1) = omega arith in
    let room : length (pairs_at s (suc (c.args.root.height - 1)) at) + growth c.args.change ≤ c.args.nodes.now.spare + size s (suc (c.args.root.height - 1)) at = subst (λ h. length (pairs_at s h at) + growth c.args.change ≤ c.args.nodes.now.spare + size s h at) lower c.requires.can.room in
    applied_room g.M.Monoid.is_value g.M.Monoid.empty g.M.Monoid.op c.args.nodes.now c.apply-applied.new.nodes at (c.args.root.height - 1) c.args.place.left c.args.place.right c.args.change c.apply-applied.result.taken (listed c.apply-applied.result.open.slots) c.apply-applied.result.open.last room c.apply-applied.ensures.applied

pub returns-clause-grows : goal.returns-clause-grows
returns-clause-grows g c =
    let a = c.apply-applied.ensures in
    (paid_closed c.args.change (full_nodes c.args.nodes.now) (full_nodes c.apply-applied.new.nodes) (full_nodes c.plant.new.nodes) c.args.nodes.now.spare c.apply-applied.new.nodes.spare c.plant.new.nodes.spare (held (look c.args.nodes.now c.args.root.at)) (length (listed c.apply-applied.result.open.slots)) 0 0 (held (look c.apply-applied.new.nodes c.args.root.at)) a.paid (ap held a.applied.stays) (held_few (look c.args.nodes.now c.args.root.at)) a.grows c.plant.ensures.full).0

pub returns-clause-kept : goal.returns-clause-kept
returns-clause-kept g c =
    let a = c.apply-applied.ensures in
    (paid_closed c.args.change (full_nodes c.args.nodes.now) (full_nodes c.apply-applied.new.nodes) (full_nodes c.plant.new.nodes) c.args.nodes.now.spare c.apply-applied.new.nodes.spare c.plant.new.nodes.spare (held (look c.args.nodes.now c.args.root.at)) (length (listed c.apply-applied.result.open.slots)) 0 0 (held (look c.apply-applied.new.nodes c.args.root.at)) a.paid (ap held a.applied.stays) (held_few (look c.args.nodes.now c.args.root.at)) a.grows c.plant.ensures.full).1
