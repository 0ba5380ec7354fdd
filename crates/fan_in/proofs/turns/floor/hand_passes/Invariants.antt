use Rattle.fan_in.proofs.Opening.{IsHanding}
use Rattle.fan_in.proofs.turns.floor.hand_passes.Given as goal

abbrev pub invariant-loop-i : goal.invariant-loop-i
invariant-loop-i l = IsHanding l.desk l.initial.zero l.i l.zero l.initial.rows l.rows
