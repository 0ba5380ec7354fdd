use Rattle.std.proofs.Common.{length}
use Rattle.fan_in.proofs.Taking.{Taken}
use Rattle.fan_in.proofs.hand_out.hand_out.Given as goal

abbrev pub invariant-loop-k : goal.invariant-loop-k
invariant-loop-k g l = Taken g.P.Port (length l.inlets) l.fn.entry l.k l.initial.ports l.ports
