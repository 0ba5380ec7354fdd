-- The slots so far lie before the bound.
use Rattle.std.proofs.Common.{◌≡◌, ◌<◌, ℕ, true, Some}
use Rattle.std.specs.Prelude.{slice_get}
use Rattle.fiba_nodes.specs.declared.slot.Slot.{Slot}
use Rattle.fiba_nodes.specs.Rows.{listed}
use Rattle.fiba_nodes.specs.Places.{is_under}
use Rattle.fiba_nodes.proofs.bound.Bound.place.Given as goal

abbrev pub invariant-loop-i : goal.invariant-loop-i
invariant-loop-i g l =
    (j : ℕ) (s : Slot g.row.M.Denot) → j < l.i → slice_get (listed l.slots) j ≡ Some s → is_under l.self s.item.key ≡ true
