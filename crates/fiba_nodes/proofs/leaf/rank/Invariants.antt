-- The slots so far stand before the place.
use Rattle.std.proofs.Common.{◌≡◌, ◌<◌, ℕ, true, Some}
use Rattle.std.specs.Prelude.{slice_get}
use Rattle.fiba_nodes.specs.declared.slot.Slot.{Slot}
use Rattle.fiba_nodes.specs.Rows.{listed}
use Rattle.fiba_nodes.specs.Changes.{stands_before}
use Rattle.fiba_nodes.proofs.leaf.rank.Given as goal

abbrev pub invariant-loop-i : goal.invariant-loop-i
invariant-loop-i g l =
    (j : ℕ) (s : Slot g.row.M.Denot) → j < l.i → slice_get (listed l.slots) j ≡ Some s → stands_before l.change s.item.key ≡ true
