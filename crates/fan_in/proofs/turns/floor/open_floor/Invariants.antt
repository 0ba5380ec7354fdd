use Rattle.std.proofs.Common.{◌≡◌, length}
use Rattle.fan_in.specs.Floors.{IsFloorOf}
use Rattle.fan_in.proofs.turns.floor.open_floor.Given as goal

abbrev pub invariant-loop-k : goal.invariant-loop-k
invariant-loop-k l = (length l.floor.desks.items ≡ l._k) × IsFloorOf l.plan l.floor l.rows.items
