-- The node is opened after the change, and all above it is as it was.
use Rattle.std.proofs.Common.{◌≡◌, ◌≤◌, ◌+◌, ◌-◌, ◌*◌, length}
use Rattle.fiba_nodes.specs.Rows.{listed}
use Rattle.fiba_nodes.specs.Stores.{full_nodes, held, look}
use Rattle.fiba_nodes.specs.Changes.{IsPaid}
use Rattle.fiba_finger.proofs.Raising.{IsRaising}
use Rattle.fiba_finger.proofs.growing.raise.Given as goal

abbrev pub invariant-loop-below : goal.invariant-loop-below
invariant-loop-below g l =
    IsRaising g.M.Monoid.is_value g.M.Monoid.empty g.M.Monoid.op l.fn.nodes l.nodes l.fn.root l.at l.below l.fn.change l.up (listed l.open.slots) l.open.last × (l.inner ≤ l.fn.from.below) × (l.fn.probes ≤ l.probes) × (l.steps ≤ l.fn.steps + 8 * l.below) × (l.nodes.spare + (l.inner + (l.below - l.fn.from.below)) ≡ l.fn.nodes.spare) × (l.probes ≤ l.fn.probes + 2 + 12 * l.below) × IsPaid l.fn.change (full_nodes l.fn.nodes) (full_nodes l.nodes) l.fn.nodes.spare l.nodes.spare (held (look l.nodes l.at)) (length (listed l.open.slots))
